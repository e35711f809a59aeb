-- Packets run through a core. Read in this order.
pub mod Running
pub mod Claims
pub mod Results
