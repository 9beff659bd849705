pub mod Ids
pub mod Once
pub mod Copying
pub mod InnerGranting
pub mod InnerPlaces
