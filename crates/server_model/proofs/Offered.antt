-- Laws of this crate that the crates above cite.

-- a marked call is answered Committed in no run
pub use Rattle.server_model.proofs.Marked.{marked_stores_none}
-- a service's store goes on by serial entries that are numbered in order, and each identifier that
-- it blocked is its session's next one
pub use Rattle.server_model.proofs.Services.{service_stores, service_stands}
-- and each frame is told as it has to be
pub use Rattle.server_model.proofs.walks.WalkRuns.{runs_told}
-- a frame's entry is of its session, and an entry comes from a call; what was answered Committed or
-- told uncommitted stands
pub use Rattle.server_model.proofs.Growth.{serve_grows}
pub use Rattle.server_model.proofs.Stays.{serve_stays}
pub use Rattle.server_model.proofs.FromItems.{entry_from_item}
pub use Rattle.server_model.proofs.Answered.{answers_stand, Stored, IfCommitted, serve_stored}
-- a call without a commit stores no entry, and a run keeps its base
pub use Rattle.server_model.proofs.StoringCalls.{stores_by_commit, runs_keep_base}
pub use Rattle.server_model.proofs.ToldBlocked.{blocks_are_stored}
-- what is told at the moment at which it is told
pub use Rattle.server_model.proofs.Tells.{tells_next, tells_outcomes, tells_asks, runs_last}
-- a frame adds an entry, a block, a line, or nothing, and so does what is asked from outside
pub use Rattle.server_model.proofs.Fronts.{Adds, serve_adds, outcomes_add}
pub use Rattle.server_model.proofs.Stored.{AddsBy, answered_adds, stopped_adds}
-- and what is told of it is stored
pub use Rattle.server_model.proofs.StoredTold.{store_beside, told_stored, stopped_stored, told_blocks, asked_blocks}
-- a front of a run is a run, and while a server runs on it stopped in no frame of its opening
pub use Rattle.server_model.proofs.Fronts.{runs_front}
pub use Rattle.server_model.proofs.NumberRuns.{runs_stand}
pub use Rattle.server_model.proofs.StoppedBefore.{runs_stopped}
-- the entries of a session are numbered, those of the base among them
pub use Rattle.server_model.proofs.NumberRuns.{runs_number}
pub use Rattle.server_model.proofs.Numbers.{AllMine, mine-at}
pub use Rattle.server_model.proofs.Stays.{outcomes_stay}
-- a frame adds no block, or one that it asks for, which is its session's next identifier
pub use Rattle.server_model.proofs.walks.BlocksTold.{BlocksAtMost, AddsNone, AddsOne, frame_blocks}
pub use Rattle.server_model.proofs.Steps.{blocks-IsNext}
pub use Rattle.server_model.proofs.ToldBlocked.{already-blocked}
-- a call that is served again with the draws of its first time draws the granted ones of these
pub use Rattle.server_model.proofs.draws.Redraws.{legal_redraws}
