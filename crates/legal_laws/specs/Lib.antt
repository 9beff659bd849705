pub mod MarksTold
pub mod Points
pub mod ReplaysTold
pub mod ToldLegal
pub mod RunsJudged
