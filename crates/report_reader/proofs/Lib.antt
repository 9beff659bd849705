pub mod Stays
pub mod ReadReports
pub mod OneByOne
pub mod Joined
