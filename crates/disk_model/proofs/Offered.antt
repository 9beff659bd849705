-- Lemmas on this crate's words that the crates above cite.

-- how what a crash may have left goes on: over a call that leaves the bytes alone, one run after
-- another, and to what is said in the words of the layer above
pub use Rattle.disk_model.proofs.Moments.{stays, then, weaker}
-- what a crash leaves that comes in a run, or behind it
pub use Rattle.disk_model.proofs.Moments.{since, crash_now}
-- a stop over two parts of a call, of which the first succeeds or ends it
pub use Rattle.disk_model.proofs.Causes.{lowered_then, lowered_by_less_then, lowered_by_less, lowers_then, lowered_by_none}
-- faults: those of another answer, over two parts of a call, and where nothing is called
pub use Rattle.disk_model.proofs.Causes.{caused_for, caused_then, caused_by_none}
-- the same of calls that only read
pub use Rattle.disk_model.proofs.Causes.{no_read, reads_for, reads_then}
-- what stands after a write, also one that was done in part
pub use Rattle.disk_model.proofs.Writes.{length-with_bytes, torn_with_bytes, torn_before, torn_behind}
-- what a crash may leave after a write or a sync, where nothing was pending before
pub use Rattle.disk_model.proofs.Writes.{after_write, after_sync}
