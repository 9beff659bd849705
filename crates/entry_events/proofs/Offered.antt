-- Lemmas that the crates above cite.

-- a run of a list that is all that meets a test
pub use Rattle.entry_events.proofs.Runs.{IsRun, run_is}
