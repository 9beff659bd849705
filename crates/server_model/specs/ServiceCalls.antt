-- What each call of a service does to what is seen of it.
-- Here is what contracts and proofs say of it besides.
use Rattle.std.specs.Prelude.{◌≡◌, ◌≢◌, ◌⊎◌, ◌+◌, ◌*◌, ◌<◌, ◌≤◌, ℕ, Bool, true, false, List, [], ◌∷◌, ◌++◌, length, Option, Some, None, All, Contains, max, if◌then◌else◌}
use Rattle.svc_values.specs.declared.draw.Draw.{Draw}
use Rattle.svc_values.specs.declared.call.Call.{Call}
use Rattle.svc_values.specs.declared.call.Call.TheVariants as call
use Rattle.svc_values.specs.declared.answer.Answer.{Answer}
use Rattle.svc_values.specs.declared.entry.Entry.{Entry}
use Rattle.svc_values.specs.declared.entry.Ltxid.{Ltxid}
use Rattle.svc_values.specs.declared.frame.Up.{Up}
use Rattle.svc_values.specs.declared.frame.Up.TheVariants as up
use Rattle.svc_values.specs.declared.frame.Down.TheVariants as down
use Rattle.ltxid_book.specs.declared.verdict.Verdict.{Verdict}
use Rattle.ltxid_book.specs.declared.verdict.Verdict.TheVariants as verdict
use Rattle.ltxid_book.specs.meaning.Journal.{is_blocked}
use Rattle.ltxid_book.specs.meaning.Outcomes.{verdict_of}
use Rattle.svc_values.specs.declared.entry.SessionId.{SessionId}
use Rattle.svc_values.specs.meaning.Calls.{sequences_in}
use Rattle.svc_values.specs.meaning.Endings.{ends_committed}
use Rattle.svc_values.specs.meaning.Identifiers.{ltxid_of}
use Rattle.server_model.specs.meaning.Outcomes.{Telling, Silent, Says, Stopped}
use Rattle.server_model.specs.Outcomes.{down_of}
use Rattle.server_model.specs.Runs.{Happened, Served, Asked}
use Rattle.server_model.specs.Laws.{CommitsAs}
use Rattle.server_model.specs.Seen.{Store, book_in, Connections, none_living, SameLiving, ServiceState, Seen, without_connection, with_connection, Rose, Keeps, KeepsStore}
use Rattle.server_model.specs.meaning.ServiceCalls.{is_failover}

-- ---- connect, reap, stop_after

abbrev pub if_connected : Bool → ℕ → Connections → Connections
if_connected false connection living = living
if_connected true connection living = with_connection connection None living

-- it connects exactly where it is up, and the connection has no session yet
pub record Connected (old : Seen) (connection : ℕ) (answer : Bool) (new : Seen) : Type 0 where
  pub keeps : Keeps old new
  pub keeps_store : KeepsStore old new
  pub answered : answer ≡ old.state.is_up
  pub living : SameLiving new.state.living (if_connected answer connection old.state.living)

pub record Reaped (old : Seen) (connection : ℕ) (new : Seen) : Type 0 where
  pub keeps : Keeps old new
  pub keeps_store : KeepsStore old new
  pub living : SameLiving new.state.living (without_connection connection old.state.living)

abbrev pub with_stop : Seen → Option ℕ → Seen
with_stop old stop = record old {
  state =
      record old.state { stop = stop; calls = old.state.calls + 1 };
}

-- ---- stops

-- the frame may make a device call
abbrev pub may_store : Up → Bool
may_store (up.Call replay kept called) = true
may_store (up.Outcome x) = true
may_store _ = false

-- In a quiet service a fault comes only under a stop of fewer device calls than these records take.
-- Under a stop a record is added by an answered call only where the stop lets it through.
pub record StopCause (old new : Seen) (records : ℕ) (told : Telling) : Type 0 where
  pub rose : told ≡ Stopped → Rose old new
  pub quiet : old.state.is_quiet ≡ true → new.state.faults ≢ old.state.faults
      → (n : ℕ) × (old.state.stop ≡ Some n) × (n < old.state.per_record * records)
  pub reached : (n : ℕ) → old.state.stop ≡ Some n
      → new.state.store.records ≢ old.state.store.records → told ≢ Stopped
      → old.state.per_record ≤ n

-- In a quiet service a fault comes only under a stop.
pub record StopsOnly (old new : Seen) (is_stopped : Bool) : Type 0 where
  pub rose : is_stopped ≡ true → Rose old new
  pub quiet : old.state.is_quiet ≡ true → new.state.faults ≢ old.state.faults
      → old.state.stop ≢ None

-- ---- what a call adds to the store

-- the entry comes from one of these
abbrev pub CameFrom : List Happened → Entry → Type 0
CameFrom happened entry = (one : Happened) × (Contains happened one × CommitsAs entry one)

-- the identifier was asked for
abbrev pub AsksFor : Ltxid → Happened → Type 0
AsksFor x (Served session now (up.Outcome y) told) = y ≡ x
AsksFor x (Asked y told) = y ≡ x
AsksFor x _ = ⊥

-- by one of these
abbrev pub WasAsked : List Happened → Ltxid → Type 0
WasAsked happened x = (one : Happened) × (Contains happened one × AsksFor x one)

-- by what happened: entries that come from it, blocks that were asked for in it, and lines
pub record Gains (happened : List Happened) (old new : Store) : Type 0 where
  pub incarnation : new.incarnation ≡ old.incarnation
  pub horizon : new.horizon ≡ old.horizon
  pub more_entries : List Entry
  pub more_blocked : List Ltxid
  pub more_alerts : List (List ℕ)
  pub entries : new.entries ≡ old.entries ++ more_entries
  pub blocked : new.blocked ≡ old.blocked ++ more_blocked
  pub alerts : new.alerts ≡ old.alerts ++ more_alerts
  pub own : All (CameFrom happened) more_entries
  pub asked : All (WasAsked happened) more_blocked

-- by at most so many records
abbrev pub GrowsBy : ℕ → Store → Store → Type 0
GrowsBy most old new = (old.records ≤ new.records) × (new.records ≤ old.records + most)

-- at most one of them, which is a record of its own, by at most so many records
pub record Adds (happened : List Happened) (most : ℕ) (old new : Store) : Type 0 where
  pub gains : Gains happened old new
  pub few : length gains.more_entries + length gains.more_blocked + length gains.more_alerts ≤ 1
  pub stored : old.records + length gains.more_entries + length gains.more_blocked
      + length gains.more_alerts ≤ new.records
  pub records : GrowsBy most old new

-- the block of this identifier at most
pub record AddsBlock (x : Ltxid) (old new : Store) : Type 0 where
  pub opening : (new.incarnation ≡ old.incarnation) × (new.horizon ≡ old.horizon)
  pub entries : (new.entries ≡ old.entries) × (new.alerts ≡ old.alerts)
  pub blocked : (new.blocked ≡ old.blocked) ⊎ (new.blocked ≡ old.blocked ++ x ∷ [])
  pub records : GrowsBy 1 old new

-- Behind a stop: whatever a crash may leave of the store, this holds of it.
abbrev pub HoldsBehind : Telling → (Store → Type 0) → (Store → Type 0) → Type 0
HoldsBehind Stopped leaves Holds = (store : Store) → leaves store → Holds store
HoldsBehind _ leaves Holds = Unit {0}

-- ---- serve

-- the connection's session: the one that it has, or the next one
abbrev pub next_session : Seen → SessionId
next_session old = record {
  incarnation = old.state.store.incarnation;
  session = old.state.sessions + 1;
}

abbrev pub SessionOf : Seen → ℕ → SessionId → ℕ → Type 0
SessionOf old connection session sessions =
    ((old.state.living connection ≡ Some (Some session)) × (sessions ≡ old.state.sessions)) ⊎
    ((old.state.living connection ≡ Some None) × (session ≡ next_session old)
    × (sessions ≡ old.state.sessions + 1))

-- the answer ends the session
abbrev pub ends_session : Up → Telling → Bool
ends_session up.Close Silent = true
ends_session frame (Says down.Blocked) = true
ends_session frame (Says (down.Refused cause)) = true
ends_session _ _ = false

-- at a stop no connection lives any more
abbrev pub living_after : Up → Telling → ℕ → SessionId → Connections → Connections
living_after frame Stopped connection session living = none_living
living_after frame told connection session living =
    if ends_session frame told then without_connection connection living else
    with_connection connection (Some session) living

abbrev pub is_up_after : Telling → Bool
is_up_after Stopped = false
is_up_after _ = true

-- An outcome is told by the table on what the store says, unless its frame is refused.
abbrev pub TellsByTable : Store → Up → Telling → Type 0
TellsByTable store (up.Outcome x) (Says told) =
    (told ≡ down.Refused 2) ⊎ (told ≡ down_of (verdict_of (book_in store) x))
TellsByTable store _ _ = Unit {0}

-- a line that was answered was added
abbrev pub AddsLine : Store → Call → Store → Type 0
AddsLine old (call.Alter line) new = new.alerts ≡ old.alerts ++ line ∷ []
AddsLine old called new = Unit {0}

-- What is told is stored: of an answer Committed one entry was added, of a line that was answered
-- the line, and of an identifier that is told uncommitted, and was not blocked before, the block.
abbrev pub StoresTold : Store → Up → Telling → Store → Type 0
StoresTold old (up.Call replay kept called) (Says (down.Reply answers draws x)) new =
    (ends_committed answers ≡ true → (entry : Entry) × (new.entries ≡ old.entries ++ entry ∷ []))
    × AddsLine old called new
StoresTold old (up.Outcome x) (Says (down.OutcomeIs false completed)) new =
    is_blocked old.blocked x ≡ false → new.blocked ≡ old.blocked ++ x ∷ []
StoresTold old _ _ new = Unit {0}

-- an identifier may have been blocked: it was told uncommitted, or nothing was told since the store
-- was stopped
abbrev pub may_block : Telling → Bool
may_block (Says (down.OutcomeIs false completed)) = true
may_block Stopped = true
may_block _ = false

-- but where it may have been, none was blocked
abbrev pub BlocksAsTold : Store → Telling → Store → Type 0
BlocksAsTold old told new = may_block told ≡ false → new.blocked ≡ old.blocked

-- A frame joins the history as one thing, of the connection's session. It adds at most one entry,
-- block or line, and a reservation for each sequence operand; so does what a crash leaves of it.
pub record ServedOne (old : Seen) (connection now : ℕ) (frame : Up) (told : Telling)
    (leaves : Store → Type 0) (new : Seen) : Type 0 where
  pub keeps : Keeps old new
  pub session : SessionId
  pub of_connection : SessionOf old connection session new.state.sessions
  pub history : new.history ≡ old.history ++ Served session now frame told ∷ []
  pub living : SameLiving new.state.living
      (living_after frame told connection session old.state.living)
  pub is_up : new.state.is_up ≡ is_up_after told
  pub kept : new.state.kept ≡ old.state.stop
  pub outcome : TellsByTable old.state.store frame told
  pub adds : Adds (Served session now frame told ∷ [])
      (1 + sequences_in frame) old.state.store new.state.store
  pub left : HoldsBehind told leaves (Adds (Served session now frame told ∷ [])
      (1 + sequences_in frame) old.state.store)
  pub stored : StoresTold old.state.store frame told new.state.store
  pub blocks : BlocksAsTold old.state.store told new.state.store
  pub cause : StopCause old new (1 + sequences_in frame) told
  -- a frame that stores nothing is never stopped
  pub silent : may_store frame ≡ false → (told ≢ Stopped) × (new.state.faults ≡ old.state.faults)
      × (new.state.store ≡ old.state.store)

-- A crash ends all connections and takes the stop away. What a service that was up, or settled,
-- held stays. Behind a pick that takes a store away there is one store.
pub record Crashed (old : Seen) (pick : ℕ) (new : Seen) : Type 0 where
  pub start : new.start ≡ old.start
  pub history : new.history ≡ old.history
  pub store : (old.state.is_up ≡ true) ⊎ (old.state.is_settled ≡ true)
      → new.state.store ≡ old.state.store
  pub down : (new.state.is_up ≡ false) × (new.state.is_settled ≡ true)
      × (new.state.is_opened ≡ false)
  pub living : SameLiving new.state.living none_living
  pub is_quiet : new.state.is_quiet ≡ old.state.is_quiet
  pub faults : old.state.faults ≤ new.state.faults
  pub stop : (new.state.stop ≡ None) × (new.state.kept ≡ old.state.kept)
  pub per_record : new.state.per_record ≡ (if is_failover pick then 4 else old.state.per_record)
  pub crashes : (new.state.crashes ≡ old.state.crashes + 1) × (new.state.last_pick ≡ Some pick)
      × (new.state.last_stop ≡ old.state.kept)
  pub calls : new.state.calls ≡ old.state.calls + 1
  pub is_spent : new.state.is_spent ≡ false

-- a crash may take a store away only of a service that was opened since its last crash
abbrev pub MayCrash : ServiceState → ℕ → Type 0
MayCrash state pick = is_failover pick ≡ true → state.is_opened ≡ true

-- what no opening changes
pub record KeepsOpening (old new : Seen) : Type 0 where
  pub start : new.start ≡ old.start
  pub history : new.history ≡ old.history
  pub living : SameLiving new.state.living old.state.living
  pub is_quiet : new.state.is_quiet ≡ old.state.is_quiet
  pub per_record : new.state.per_record ≡ old.state.per_record
  pub crashes : (new.state.crashes ≡ old.state.crashes)
      × (new.state.last_pick ≡ old.state.last_pick) × (new.state.last_stop ≡ old.state.last_stop)
  pub faults : old.state.faults ≤ new.state.faults
  pub stop : old.state.stop ≡ None → new.state.stop ≡ None
  pub kept : new.state.kept ≡ old.state.stop
  pub calls : new.state.calls ≡ old.state.calls + 1
  pub is_spent : new.state.is_spent ≡ false

-- at most the incarnations so far may be forgotten
abbrev pub MayForget : ServiceState → ℕ → Type 0
MayForget state below = below ≤ state.store.incarnation + 1

-- nothing was told or blocked
pub record SameLists (old new : Store) : Type 0 where
  pub entries : new.entries ≡ old.entries
  pub blocked : new.blocked ≡ old.blocked
  pub alerts : new.alerts ≡ old.alerts

-- an opening of the next incarnation, which has made no session; the horizon is the wanted one
-- where that is greater
pub record Opened (old : Seen) (below : ℕ) (new : Seen) : Type 0 where
  pub keeps : KeepsOpening old new
  pub is_up : (new.state.is_up ≡ true) × (new.state.is_opened ≡ true)
  pub lists : SameLists old.state.store new.state.store
  pub incarnation : new.state.store.incarnation ≡ old.state.store.incarnation + 1
  pub horizon : new.state.store.horizon ≡ max old.state.store.horizon below
  pub sessions : new.state.sessions ≡ 0
  pub cause : StopsOnly old new false

-- what an opening that was stopped has stored: nothing, its horizon, or its incarnation behind that
pub data HasSoFar (old : Store) (below : ℕ) (new : Store) : Type 0 where
  Neither : new.incarnation ≡ old.incarnation → new.horizon ≡ old.horizon → HasSoFar old below new
  Forgets : new.incarnation ≡ old.incarnation → new.horizon ≡ max old.horizon below
      → HasSoFar old below new
  Both : new.incarnation ≡ old.incarnation + 1 → new.horizon ≡ max old.horizon below
      → HasSoFar old below new

pub record OpenedSoFar (below : ℕ) (old new : Store) : Type 0 where
  pub lists : SameLists old new
  pub so_far : HasSoFar old below new

-- so does whatever a crash leaves of it
pub record StoppedOpening (old : Seen) (below : ℕ) (leaves : Store → Type 0)
    (new : Seen) : Type 0 where
  pub keeps : KeepsOpening old new
  pub is_up : (new.state.is_up ≡ false) × (new.state.is_opened ≡ old.state.is_opened)
  pub so_far : OpenedSoFar below old.state.store new.state.store
  pub left : HoldsBehind Stopped leaves (OpenedSoFar below old.state.store)
  pub cause : StopsOnly old new true

-- ---- outside, ask

-- what runs of calls from outside are in a history: one frame each, up to one that was answered
-- Blocked
abbrev pub RunsAre : SessionId → ℕ → List Call → List (List Answer × List Draw) → List Happened
    → Type 0
RunsAre session now [] [] history = history ≡ []
RunsAre session now [] (run ∷ runs) history = ⊥
RunsAre session now (called ∷ calls) [] history =
    history ≡ Served session now (up.Call false [] called) (Says down.Blocked) ∷ []
RunsAre session now (called ∷ calls) (run ∷ runs) history =
    (x : Ltxid) × (more : List Happened)
    × ((history ≡ Served session now (up.Call false [] called) (Says (down.Reply run.0 run.1 x))
    ∷ more) × RunsAre session now calls runs more)

abbrev pub begins_outside : SessionId → ℕ → List Happened
begins_outside session now = Served session now up.Connect (Says (down.Hello (ltxid_of session 0)))
    ∷ Served session now (up.Begin []) Silent ∷ []

-- calls that were run in a session of their own, which begins without settings
pub record RanOutside (old : Seen) (calls : List Call) (now : ℕ) (x : Ltxid)
    (runs : List (List Answer × List Draw)) (new : Seen) : Type 0 where
  pub keeps : Keeps old new
  pub of_session : x ≡ ltxid_of (next_session old) 0
  pub more : List Happened
  pub ran : RunsAre (next_session old) now calls runs more
  pub history : new.history ≡ old.history ++ begins_outside (next_session old) now ++ more
  pub others : SameLiving new.state.living old.state.living × (new.state.is_up ≡ true)
      × (new.state.kept ≡ old.state.kept) × (new.state.sessions ≡ old.state.sessions + 1)
  pub gains : Gains more old.state.store new.state.store
  pub cause : StopsOnly old new false

abbrev pub IsOf : SessionId → Happened → Type 0
IsOf session (Served other now frame told) = other ≡ session
IsOf session (Asked x told) = ⊥

-- a stop: the service is down, and of the calls a front was served
pub record StoppedOutside (old : Seen) (leaves : Store → Type 0) (new : Seen) : Type 0 where
  pub keeps : Keeps old new
  pub more : List Happened
  pub served : All (IsOf (next_session old)) more
  pub history : new.history ≡ old.history ++ more
  pub others : SameLiving new.state.living none_living × (new.state.is_up ≡ false)
      × (new.state.kept ≡ old.state.kept)
  pub gains : Gains more old.state.store new.state.store
  pub left : HoldsBehind Stopped leaves (Gains more old.state.store)
  pub cause : StopsOnly old new true

abbrev pub IsAnswer : Verdict → Type 0
IsAnswer verdict.BlockIt = ⊥
IsAnswer _ = Unit {0}

-- an identifier was asked, and joins the history
pub record AskedOne (old : Seen) (x : Ltxid) (told : Verdict) (new : Seen) : Type 0 where
  pub keeps : Keeps old new
  pub verdict : IsAnswer told
  pub outcome : down_of told ≡ down_of (verdict_of (book_in old.state.store) x)
  pub history : new.history ≡ old.history ++ Asked x (Says (down_of told)) ∷ []
  pub others : SameLiving new.state.living old.state.living × (new.state.is_up ≡ true)
      × (new.state.kept ≡ old.state.kept) × (new.state.sessions ≡ old.state.sessions)
  pub adds : AddsBlock x old.state.store new.state.store
  pub blocks : BlocksAsTold old.state.store (Says (down_of told)) new.state.store
  pub cause : StopsOnly old new false

pub record StoppedAsk (old : Seen) (x : Ltxid) (leaves : Store → Type 0) (new : Seen) : Type 0 where
  pub keeps : Keeps old new
  pub history : new.history ≡ old.history ++ Asked x Stopped ∷ []
  pub others : SameLiving new.state.living none_living × (new.state.is_up ≡ false)
      × (new.state.kept ≡ old.state.kept)
  pub adds : AddsBlock x old.state.store new.state.store
  pub left : HoldsBehind Stopped leaves (AddsBlock x old.state.store)
  pub cause : StopsOnly old new true

-- ---- journal, image

-- a call that only reads the store
pub record Looked (old new : Seen) : Type 0 where
  pub keeps : Keeps old new
  pub keeps_store : KeepsStore old new
  pub living : SameLiving new.state.living old.state.living
  pub cause : StopsOnly old new false

-- a reading that was stopped leaves the service down
pub record StoppedLook (old new : Seen) : Type 0 where
  pub keeps : Keeps old new
  pub unchanged : (new.history ≡ old.history) × (new.state.store ≡ old.state.store)
      × (new.state.kept ≡ old.state.kept)
  pub down : SameLiving new.state.living none_living × (new.state.is_up ≡ false)
  pub cause : StopsOnly old new true
