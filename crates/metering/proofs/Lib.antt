pub mod CountedHours
pub mod Credits
pub mod FailedRecords
