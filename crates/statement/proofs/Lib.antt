pub mod Amounts
pub mod Chunks
pub mod Filling
pub mod Distinct
pub mod Exact
pub mod Booked
pub mod Longest
