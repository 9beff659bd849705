pub mod Fallen
pub mod InnerHonest
pub mod Lagging
pub mod Seeing
pub mod Shipped
pub mod Sound
pub mod Starting
pub mod Twins
