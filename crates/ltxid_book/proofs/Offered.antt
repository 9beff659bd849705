-- Lemmas on this crate's words that the crates above cite.

-- an identifier that may commit, by its session's state, where its session is not forgotten
pub use Rattle.ltxid_book.proofs.Known.{May, may_known}
-- each blocked identifier is its session's next one still, after one more commit or block, whatever
-- the horizon
pub use Rattle.ltxid_book.proofs.Journal.{commit_stands, block_stands}
-- a book that is kept beside a journal says what the journal says
pub use Rattle.ltxid_book.proofs.Journal.{begins_untouched, follows_commits, follows_blocks, follows_forgetting, tells_blocks}
