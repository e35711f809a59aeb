-- Laws of lent patterns and of their costs.
pub mod Lent
