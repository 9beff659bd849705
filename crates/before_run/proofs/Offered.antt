-- Lemmas on this crate's words that the crates above cite.

-- the tables and sequences of a document are a base
pub use Rattle.before_run.proofs.StartBase.{begins_base}
-- the indexes of a document's tables are of columns that the journal before event 1 declares
pub use Rattle.before_run.proofs.Indexing.{indexes_declared}
