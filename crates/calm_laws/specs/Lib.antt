pub mod CalmRuns
pub mod meaning
