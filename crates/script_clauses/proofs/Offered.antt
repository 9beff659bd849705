-- Laws of this crate that the crates above cite.

-- pieces whose calls are a front of the script begin it, and an entry that stands at a place is a
-- stretch
pub use Rattle.script_clauses.proofs.Places.{fronts, stretch_at}
