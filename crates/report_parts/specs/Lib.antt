pub mod Submitting
pub mod SubmissionViews
pub mod Cutting
pub mod PartViews
pub mod Showing
pub mod PlainParts
