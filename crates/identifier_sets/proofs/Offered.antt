-- Lemmas on this crate's words that the crates above cite.

-- two identifiers are compared alike from either side
pub use Rattle.identifier_sets.proofs.Keyed.{same_symm}
