-- What a `?` passes on.
pub mod Exits
