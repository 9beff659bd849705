-- What the machine does at each event and at each step of a client, by what is noted; and what
-- stands at a place of a list.
pub mod ClientsMove
pub mod Clock
pub mod CourseNow
pub mod FinishesReached
pub mod Following
pub mod GoNotes
pub mod HappeningsGrow
pub mod Lookups
pub mod Places
pub mod RunsGrow
