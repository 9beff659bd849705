pub mod Judging
pub mod Lists
pub mod Marks
pub mod Views
