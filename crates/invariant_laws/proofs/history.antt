-- What sessions ran, beside the history of the service.
pub mod LastRan
pub mod RanBefore
pub mod RanEntries
pub mod RanFrames
pub mod RanHistory
pub mod RanLists
pub mod RanSessions
pub mod RanSettings
pub mod RanWalks
pub mod ServedGrows
pub mod ServedPass
pub mod SessionLists
pub mod SessionRuns
pub mod SessionTurns
