-- The check, desugaring and meaning at a point, and the demands. Read in this order.
pub mod Points
pub mod Check
pub mod Entry
pub mod Claims
pub mod Demands
pub mod CheckWords
