-- Lemmas on this crate's words that the crates above cite.

-- with more draws behind those that it takes, a call does the same
pub use Rattle.calls_again.proofs.MoreDraws.{call_more}
