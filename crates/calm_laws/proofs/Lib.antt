pub mod Talks
pub mod Blocks
pub mod Quiet
pub mod CalmLinks
pub mod CalmClients
pub mod CalmEvents
pub mod CalmReached
pub mod Answered
