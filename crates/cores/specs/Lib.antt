-- Cores read back from their bytes. Read in this order.
pub mod Reading
pub mod Claims
pub mod Results
