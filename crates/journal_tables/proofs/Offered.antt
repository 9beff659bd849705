-- Lemmas on this crate's words that the crates above cite.

-- both sides of a conjunction of tests
pub use Rattle.journal_tables.proofs.BaseRows.{first_true, second_true, both_true}
-- the sequences of a base have different names, and begin where they may
pub use Rattle.journal_tables.proofs.BaseRows.{sequence_names_differ, sequences_begin}
-- the rows of a base fit its tables, and no table and key stands twice among them
pub use Rattle.journal_tables.proofs.BaseRows.{start_fits, start_apart}
