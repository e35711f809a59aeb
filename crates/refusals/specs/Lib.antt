-- The refusals, their numbers and their places.
pub mod Refusals
