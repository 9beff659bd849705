pub mod KnownItems
pub mod AnswersAhead
pub mod ArraysAhead
pub mod Offered
pub mod ReadParts
