-- Laws of the definitions, cited by the crates above.
pub mod Logic
pub mod Bits
pub mod Bytes
pub mod Codec
pub mod Values
pub mod Comparing
