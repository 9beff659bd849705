-- A call that counts as stopped before its answer, whatever came of it: what may be seen of the
-- service then.
use Rattle.std.specs.Prelude.{◌≡◌, ◌≢◌, ◌+◌, ℕ, false, List, [], ◌∷◌, ◌++◌, All, Result, Ok, Err}
use Rattle.disk_model.specs.Moment.{MayLeave}
use Rattle.redo_store.specs.meaning.Records.{records_of}
use Rattle.svc_values.specs.declared.entry.Ltxid.{Ltxid}
use Rattle.svc_values.specs.declared.entry.SessionId.{SessionId}
use Rattle.svc_values.specs.declared.frame.Up.{Up}
use Rattle.svc_values.specs.meaning.Calls.{sequences_in}
use Rattle.server_model.specs.declared.fault.ServeFault.{ServeFault}
use Rattle.server_model.specs.declared.fault.ServeFault.TheVariants as fault
use Rattle.server_model.specs.meaning.Outcomes.{Stopped}
use Rattle.server_model.specs.Runs.{Happened, Served, Asked}
use Rattle.server_model.specs.Seen.{Store, Seen}
use Rattle.server_model.specs.ServiceCalls.{Adds, AddsBlock, Gains, IsOf, OpenedSoFar, SessionOf, next_session}
use Rattle.service_core.specs.Within.{Within}
use Rattle.service_core.specs.Seeing.{Came, StandsDown, state_in, store_of}
use Rattle.service_core.specs.Shipping.{count_in, halted}

-- the image has all records of the old bytes, and of those behind them in the new ones the first
pub record LiesBetween (old image new : List ℕ) : Type 0 where
  pub records : List (List ℕ)
  pub some : List (List ℕ)
  pub more : List (List ℕ)
  pub old_is : records_of old ≡ Ok records
  pub image_is : records_of image ≡ Ok (records ++ some)
  pub new_is : records_of new ≡ Ok (records ++ some ++ more)

-- What may be seen of a service whose last call, made on `old`, counts as stopped before its
-- answer: a plain server that is not running has come so far, wherever a store may stand between
-- what this one held at the call's start and what a crash may leave of it now.
pub record IsHaltedAs (old new : Within) (seen : Seen) : Type 0 where
  pub live : new.notes.is_spent ≡ false
  pub state_is : seen.state ≡ state_in (halted new)
  pub came : (image left : List ℕ) → MayLeave new.disk.now left
      → LiesBetween old.disk.now.seen image left
      → Came seen.start seen.history (StandsDown new.grants false image)

-- a store may stand there
pub record StandsBetween (old new : Within) (store : Store) : Type 0 where
  pub image : List ℕ
  pub left : List ℕ
  pub leaves : MayLeave new.disk.now left
  pub lies : LiesBetween old.disk.now.seen image left
  pub store_is : store ≡ store_of image

-- A call that was answered and added nothing is never taken so.
abbrev pub MayHalt : {A : Type 0} → Result A ServeFault → Within → Within → Type 0
MayHalt (Ok answer) old new = count_in new ≢ count_in old
MayHalt (Err fault.Stopped) old new = Unit {0}
MayHalt (Err fault.NoMemory) old new = ⊥

-- ---- what joins the history then

-- one frame
pub record HaltedFrame (old : Seen) (connection now : ℕ) (frame : Up) (stores : Store → Type 0)
    (new : Seen) : Type 0 where
  pub start : new.start ≡ old.start
  pub session : SessionId
  pub of_connection : SessionOf old connection session new.state.sessions
  pub history : new.history ≡ old.history ++ Served session now frame Stopped ∷ []
  pub adds : (store : Store) → stores store → Adds (Served session now frame Stopped ∷ [])
      (1 + sequences_in frame) old.state.store store

-- each frame of a run from outside: none of them is told anything, whichever of them stand
pub record HaltedCalls (old : Seen) (stores : Store → Type 0) (new : Seen) : Type 0 where
  pub start : new.start ≡ old.start
  pub more : List Happened
  pub served : All (IsOf (next_session old)) more
  pub history : new.history ≡ old.history ++ more
  pub gains : (store : Store) → stores store → Gains more old.state.store store

-- an identifier that was asked for
pub record HaltedAsk (old : Seen) (x : Ltxid) (stores : Store → Type 0) (new : Seen) : Type 0 where
  pub start : new.start ≡ old.start
  pub history : new.history ≡ old.history ++ Asked x Stopped ∷ []
  pub adds : (store : Store) → stores store → AddsBlock x old.state.store store

-- nothing: an opening
pub record HaltedOpening (old : Seen) (below : ℕ) (stores : Store → Type 0)
    (new : Seen) : Type 0 where
  pub start : new.start ≡ old.start
  pub history : new.history ≡ old.history
  pub so_far : (store : Store) → stores store → OpenedSoFar below old.state.store store
