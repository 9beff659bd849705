-- Lemmas on this crate's words that the crates above cite.

-- whether a commit or a block may come next, by a book that is kept beside the journal, and that
-- the book goes on beside it
pub use Rattle.commit_log.proofs.Committing.{may_beside, notes_commit, block_beside, notes_block, notes_horizon}
-- a run that adds some of the records of a call, one part after another
pub use Rattle.commit_log.proofs.Growing.{grown_stays, grown_more, grown_then}
-- no record more, records behind records, and none of any records
pub use Rattle.commit_log.proofs.Growing.{has_itself, adds_on, grows_by_none}
-- a front of a journal's records is a journal, and one between two stores has some of the records
-- that the second has more
pub use Rattle.commit_log.proofs.Fronts.{fronts_are_journals}
pub use Rattle.commit_log.proofs.Between.{fronts_are_grown}
-- a log ends behind the records of its disk
pub use Rattle.commit_log.proofs.Trailing.{trails_at_end, trails_begun, trails_unset}
-- one to which an opening was added is ready
pub use Rattle.commit_log.proofs.Opening.{ready_then}
