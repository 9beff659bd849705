-- Lemmas that the crates above cite.

-- the item at a place of a list stands before those behind it
pub use Rattle.report_moments.proofs.Lists.{left_is}
