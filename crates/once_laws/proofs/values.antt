-- Values that were given, and calls that were stored.
pub mod DrawnOnce
pub mod FreshStored
pub mod OnceEnd
pub mod OnceStored
pub mod OwnedLists
pub mod RepeatedGiven
pub mod ShownGiven
pub mod StoredApart
pub mod StoredCommits
pub mod StoredSendings
pub mod Storing
