-- Lemmas on this crate's words that the crates above cite.

-- What a crash leaves behind a stop is a front of the step's records: the plain server may have
-- been stopped with it.
pub use Rattle.server_session.proofs.Fronts.{stopped_leaves, telling_leaves}
-- a front of one record is none of it or all, and what a crash leaves behind a stop is a front
pub use Rattle.server_session.proofs.Gaining.{grown_left}
pub use Rattle.server_session.proofs.Fronts.{left_grown}
-- records of one step behind those of another, answered or stopped
pub use Rattle.server_session.proofs.Gaining.{gained_none, gained_then, halted_then}
-- a core whose book has forgotten what is below a horizon is of the journal with it
pub use Rattle.server_session.proofs.OfJournals.{follows_horizon}
