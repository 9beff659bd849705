-- The walk over a history, and that what was served is legal by it.
pub mod BlockedFrames
pub mod BlocksTold
pub mod Deeds
pub mod Followed
pub mod FollowedStops
pub mod Following
pub mod LegalFrames
pub mod LegalRuns
pub mod LegalServed
pub mod LegalWhole
pub mod SettingsTold
pub mod WalkBlocks
pub mod WalkFrames
pub mod WalkMoves
pub mod WalkRuns
