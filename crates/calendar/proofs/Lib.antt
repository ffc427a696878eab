pub mod Keeping
pub mod Spans
pub mod Parts
pub mod Months
pub mod Stress
pub mod FirstBad
