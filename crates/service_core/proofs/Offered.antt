-- Lemmas on this crate's words that the crates above cite.

-- a journal is read from records, of which there is one at least
pub use Rattle.service_core.proofs.Gained.{has_records}
pub use Rattle.service_core.proofs.halts.Unanswering.{none_read}
-- whatever a crash leaves of a sound service reads as a journal, with one base; and nothing is
-- pending where it is settled
pub use Rattle.service_core.proofs.Read.{left_reads, settled_in}
