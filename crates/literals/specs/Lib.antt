-- Literals and patterns. Read in this order.
pub mod Bits
pub mod Patterns
pub mod Reading
pub mod Comparing
pub mod Results
