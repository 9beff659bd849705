-- What crates above use of these proofs.
pub use Rattle.table_txn.proofs.Changing.{holds_commit, holds_then, stands_since}
