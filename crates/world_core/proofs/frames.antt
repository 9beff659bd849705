-- Frames that the service is given: which stand first, who answers them, and what they add to the
-- store.
pub mod Added
pub mod Answered
pub mod Blocking
pub mod Counting
pub mod FirstBytes
pub mod Fronts
pub mod InLife
pub mod InOrder
pub mod LastFrames
pub mod Lasting
pub mod Living
pub mod Ordered
pub mod Recorded
pub mod ServedFrames
pub mod Serving
pub mod Sessions
pub mod Stops
pub mod Storing
pub mod Written
