-- Terms, their bytes and the operations on terms alone. Read in this order.
pub mod Answers
pub mod Terms
pub mod Kinds
pub mod Records
pub mod Form
pub mod Operations
pub mod Results
pub mod Replaced
