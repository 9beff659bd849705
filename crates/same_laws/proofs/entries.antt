-- What stands in an entry: its calls, its draws, where it starts and how it was answered.
pub mod CommitsFit
pub mod EntriesJoin
pub mod EntryDraws
pub mod EntryScripts
pub mod EntryStarts
pub mod EntryTold
pub mod LoneStored
pub mod SameEntries
pub mod StoredScripts
