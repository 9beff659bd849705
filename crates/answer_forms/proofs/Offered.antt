-- Lemmas on this crate's words, and on readings, that the crates above cite.
-- the names of settings that were read rise, and a call that stands at a position can be made
pub use Rattle.answer_forms.proofs.ReadParts.{settings_read, call_at}
-- an array of three parts that were read one after the other
pub use Rattle.answer_forms.proofs.ArraysAhead.{three_joined}
