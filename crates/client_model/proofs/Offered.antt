-- Lemmas on this crate's words that the crates above cite.

-- the laws of each conversation: its unmarked calls, its settings, its outcomes, its track and what
-- it lets go
pub use Rattle.client_model.proofs.Steps.{replays_only_verified, begins_known, few_replays, keeps_what_is_told, releases_rightly}
-- the reason that the steps tell, and the identifiers under which calls were sent
pub use Rattle.client_model.proofs.Tables.{has_tables_reason}
pub use Rattle.client_model.proofs.Trying.{tries_under_held}
-- where a conversation stands, and what is left of it, fits what its steps told; the next call that
-- is left is the one that it keeps track of
pub use Rattle.client_model.proofs.Fits.{Tracked, Holds, Repeats, IsNext, Fits, IsTalk}
pub use Rattle.client_model.proofs.Steps.{first_talks, last_fits, last_talks}
pub use Rattle.client_model.proofs.Left.{next_left}
