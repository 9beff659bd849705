-- Lemmas on this crate's words that the crates above cite.

-- a length is spelled in eight bytes
pub use Rattle.redo_store.proofs.Grammar.{length-length_bytes}
-- the whole records of an image that is not damaged are its records
pub use Rattle.redo_store.proofs.Whole.{whole_of_read}
-- how many bytes records are spelled in, and that those of an image take no more than it has
pub use Rattle.redo_store.proofs.Sizes.{length-spelling_of, records_within}
-- a gate stands behind more bytes than records; and the records of one store end where those that
-- another begins with do
pub use Rattle.redo_store.proofs.Standing.{few_behind, stands_over}
-- those of a store end where its tail is
pub use Rattle.redo_store.proofs.Standing.{keeps_itself}
