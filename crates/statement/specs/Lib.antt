pub mod Fault
pub mod Limits
pub mod Encoding
pub mod Writing
pub mod Reading
pub mod Parts
