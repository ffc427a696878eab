pub mod Acts
pub mod Law
pub mod Totals
pub mod Worked
pub mod Cases
