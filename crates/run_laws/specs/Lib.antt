pub mod EntryCounts
pub mod FinishShort
pub mod StoredLaws
