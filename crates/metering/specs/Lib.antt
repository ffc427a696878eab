pub mod Credit
pub mod Testing
pub mod Fault
pub mod Meaning
pub mod Measuring
