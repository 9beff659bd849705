-- What holds of every run of the plain server.
use Rattle.std.specs.Prelude.{◌≡◌, ◌⊎◌, ◌+◌, ◌<◌, ◌≤◌, ◌&&◌, ℕ, Bool, true, false, not, IsTrue, List, [], ◌∷◌, ◌++◌, map, All, Contains, nat_lt, Option, Some, None}
use Rattle.svc_values.specs.declared.call.Call.{Call}
use Rattle.svc_values.specs.declared.answer.Answer.{Answer}
use Rattle.svc_values.specs.declared.draw.Draw.{Draw}
use Rattle.svc_values.specs.declared.entry.Ltxid.{Ltxid}
use Rattle.svc_values.specs.declared.entry.Entry.{Entry}
use Rattle.svc_values.specs.declared.frame.Up.{Up}
use Rattle.svc_values.specs.declared.frame.Up.TheVariants as up
use Rattle.svc_values.specs.declared.frame.Down.{Down}
use Rattle.svc_values.specs.declared.frame.Down.TheVariants as down
use Rattle.svc_values.specs.meaning.Endings.{ends_committed}
use Rattle.stmt_meaning.specs.meaning.Serial.{Serial}
use Rattle.ltxid_book.specs.meaning.Journal.{is_blocked, next_ltxid, committed_of}
use Rattle.ltxid_book.specs.Journal.{BlocksStand}
use Rattle.server_model.specs.meaning.Base.{Base}
use Rattle.server_model.specs.Base.{IsSound}
use Rattle.server_model.specs.Core.{Core, committed, all_entries, all_blocked, tables_with}
use Rattle.svc_values.specs.declared.entry.SessionId.{SessionId}
use Rattle.svc_values.specs.meaning.Identifiers.{session_of}
use Rattle.server_model.specs.Sessions.{Sess}
use Rattle.server_model.specs.meaning.Outcomes.{Telling, Says, Stopped}
use Rattle.server_model.specs.Outcomes.{down_of, verdict_on}
use Rattle.server_model.specs.Serve.{Serve}
use Rattle.server_model.specs.Runs.{Happened, Served, Asked, Server, On, is_running, Moves, Runs}
use Rattle.server_model.specs.Items.{items_of}
use Rattle.server_model.specs.meaning.Legal.{legal, lines_of, lines_stand}
use Rattle.server_model.specs.meaning.Fresh.{drawn_anew, fresh_new}
use Rattle.server_model.specs.Fresh.{has_room}
use Rattle.server_model.specs.meaning.SetAside.{SetAside}
use Rattle.server_model.specs.SetAside.{ends_of}
use Rattle.server_model.specs.meaning.Walk.{walk_of}
use Rattle.server_model.specs.ToldRight.{told_right}
use Rattle.server_model.specs.Seen.{Seen, IsHistory}

-- ---- one frame

-- the entries after it are those before, or those and one of the session, under its identifier,
-- which is not blocked
pub data Grows (core : Core) (sess : Sess) (after : Core) : Type 0 where
  Same : after.entries ≡ core.entries → Grows core sess after
  One : (entry : Entry) → after.entries ≡ core.entries ++ entry ∷ [] → entry.ltxid ≡ sess.ltxid
      → IsTrue (not (is_blocked (all_blocked core) sess.ltxid)) → Grows core sess after

-- A frame stores no entry, or one of its session, under its identifier, which is not blocked.
abbrev pub ServeGrows : Type 0
ServeGrows = (core : Core) (sess : Sess) (now : ℕ) (frame : Up) (after : Core) (t : Sess)
    (told : Telling) → Serve core sess now frame after t told → Grows core sess after

-- A frame leaves the base, its session's place, and what is forgotten.
pub record StaysIn (core : Core) (sess : Sess) (after : Core) (t : Sess) : Type 0 where
  pub base : after.base ≡ core.base
  pub incarnation : after.opening.incarnation ≡ core.opening.incarnation
  pub session : session_of t.ltxid ≡ session_of sess.ltxid
  pub horizon : after.horizon ≡ core.horizon

abbrev pub ServeStays : Type 0
ServeStays = (core : Core) (sess : Sess) (now : ℕ) (frame : Up) (after : Core) (t : Sess)
    (told : Telling) → Serve core sess now frame after t told → StaysIn core sess after t

-- ---- runs

-- the identifiers of a store: no entry has a blocked one, since each blocked identifier is its
-- session's next one
abbrev pub Stands : Core → Type 0
Stands core = BlocksStand (map committed_of (all_entries core)) (all_blocked core)

-- Blocked identifiers stay their sessions' next ones.
abbrev pub RunsStand : Type 0
RunsStand = (base : Base) (history : List Happened) (server : Server) → IsSound base
    → Runs base history server → Stands server.core

-- No identifier is both blocked and an entry's.
abbrev pub NeverAfterBlock : Type 0
NeverAfterBlock = (base : Base) (history : List Happened) (server : Server) → IsSound base
    → Runs base history server
    → All (λ entry. is_blocked (all_blocked server.core) entry.ltxid ≡ false) server.core.entries

-- The entries of a session are numbered from 0, in order: each has its session's next identifier
-- behind those before it.
abbrev pub AreNumbered : List Entry → List Entry → Type 0
AreNumbered before [] = Unit {0}
AreNumbered before (entry ∷ entries) = (entry.ltxid
    ≡ next_ltxid (map committed_of before) entry.ltxid.incarnation entry.ltxid.session)
    × AreNumbered (before ++ entry ∷ []) entries

abbrev pub EntryNumbers : Type 0
EntryNumbers = (base : Base) (history : List Happened) (server : Server) → IsSound base
    → Runs base history server → AreNumbered base.entries server.core.entries

-- The horizon never falls, and no incarnation that is still to come is forgotten: where the server
-- runs, not its own either.
pub record Forgets (base : Base) (server : Server) : Type 0 where
  pub rises : base.horizon ≤ server.core.horizon
  pub within : server.core.horizon ≤ server.core.opening.incarnation + 1
  pub living : IsTrue (is_running server.power)
      → server.core.horizon ≤ server.core.opening.incarnation

abbrev pub RunsForget : Type 0
RunsForget = (base : Base) (history : List Happened) (server : Server) → IsSound base
    → Runs base history server → Forgets base server

-- The entries that the store gained are a serial run from its tables at the start, and what they
-- wrote leaves the same tables.
abbrev pub RunsSerial : Type 0
RunsSerial = (base : Base) (history : List Happened) (server : Server) → IsSound base
    → Runs base history server → Serial base.shape base.tables server.core.entries
    (committed server.core)

-- no frame of the incarnation, or of an earlier one
abbrev pub is_behind : ℕ → List Happened → Bool
is_behind incarnation [] = true
is_behind incarnation (Served session now frame told ∷ more) =
    nat_lt incarnation session.incarnation && is_behind incarnation more
is_behind incarnation (Asked x told ∷ more) = is_behind incarnation more

-- No frame of an opening stands behind one that was stopped. A run from outside that was stopped
-- behind an answer of its own is the only exception that a server makes, and a service over one
-- store makes none.
abbrev pub stops_last : List Happened → Bool
stops_last [] = true
stops_last (Served session now frame Stopped ∷ more) =
    stops_last more && is_behind session.incarnation more
stops_last (Served session now frame told ∷ more) = stops_last more
stops_last (Asked x told ∷ more) = stops_last more

-- What was served is legal.
abbrev pub RunsLegal : Type 0
RunsLegal = (base : Base) (history : List Happened) (server : Server) → IsSound base
    → Runs base history server → stops_last history ≡ true
    → legal base (items_of history) server.core.entries server.core.alerts ≡ true

-- Of that, the part on alerts, which needs no premise: the alerts are the answered lines in order,
-- and of the stopped ones some.
abbrev pub RunsAlerts : Type 0
RunsAlerts = (base : Base) (history : List Happened) (server : Server) → Runs base history server
    → lines_stand (lines_of (items_of history)) server.core.alerts ≡ true

-- No opening counts identifiers past what they can spell: a source gives none where it has no room.
abbrev pub RunsHaveRoom : Type 0
RunsHaveRoom = (base : Base) (history : List Happened) (server : Server) → IsSound base
    → Runs base history server → stops_last history ≡ true
    → has_room base (items_of history) server.core.entries ≡ true

-- So what was drawn anew is drawn once.
abbrev pub RunsFreshNew : Type 0
RunsFreshNew = (base : Base) (history : List Happened) (server : Server) → IsSound base
    → Runs base history server → stops_last history ≡ true
    → fresh_new base (items_of history) server.core.entries ≡ true

-- And it lies in what the source has set aside of its sequence, of which there is no less than at
-- the start.
abbrev pub RunsSetAside : Type 0
RunsSetAside = (base : Base) (history : List Happened) (server : Server) → IsSound base
    → Runs base history server → stops_last history ≡ true
    → SetAside base.sequences (ends_of server.core.opening)
    (drawn_anew base (walk_of base server.core.entries) (items_of history))

-- Each frame is told as it has to be.
abbrev pub RunsTold : Type 0
RunsTold = (base : Base) (history : List Happened) (server : Server) → IsSound base
    → Runs base history server → stops_last history ≡ true
    → told_right base history server.core.entries ≡ true

-- An answer Committed has stored an entry of its session, and an entry of a session comes from one
-- call of it: answered, or stopped.
abbrev pub CommitsAs : Entry → Happened → Type 0
CommitsAs entry (Served session now (up.Call replay kept called)
    (Says (down.Reply answers draws x))) =
    (session ≡ session_of entry.ltxid) × (replay ≡ false) × (ends_committed answers ≡ true)
    × (x ≡ record entry.ltxid { number = entry.ltxid.number + 1 })
CommitsAs entry (Served session now (up.Call replay kept called) Stopped) =
    (session ≡ session_of entry.ltxid) × (replay ≡ false)
CommitsAs entry _ = ⊥

abbrev pub EntryFromItem : Type 0
EntryFromItem = (base : Base) (history : List Happened) (server : Server) → Runs base history server
    → (entry : Entry) → Contains server.core.entries entry
    → (happened : Happened) × (Contains history happened × CommitsAs entry happened)

-- An answer Committed is stored, in this run and in every later one.
abbrev pub AnswersStand : Type 0
AnswersStand = (base : Base) (history : List Happened) (server : Server) → Runs base history server
    → (session : SessionId) (now : ℕ) (kept : List Draw) (called : Call) (answers : List Answer)
    (draws : List Draw) (x : Ltxid)
    → Contains history (Served session now (up.Call false kept called)
    (Says (down.Reply answers draws x))) → ends_committed answers ≡ true
    → (entry : Entry) × (Contains server.core.entries entry
    × ((session ≡ session_of entry.ltxid) × (entry.ltxid.number + 1 ≡ x.number)))

-- A marked call is answered Committed in no run.
abbrev pub MarkedStoresNone : Type 0
MarkedStoresNone = (base : Base) (history : List Happened) (server : Server)
    → Runs base history server
    → (session : SessionId) (now : ℕ) (kept : List Draw) (called : Call) (answers : List Answer)
    (draws : List Draw) (x : Ltxid)
    → Contains history (Served session now (up.Call true kept called)
    (Says (down.Reply answers draws x))) → ends_committed answers ≡ false

-- An identifier that was told uncommitted is blocked, in this run and in every later one.
abbrev pub TellsUncommitted : Ltxid → Happened → Type 0
TellsUncommitted x (Served session now (up.Outcome y) (Says (down.OutcomeIs false completed))) =
    x ≡ y
TellsUncommitted x (Asked y (Says (down.OutcomeIs false completed))) = x ≡ y
TellsUncommitted x _ = ⊥

abbrev pub BlocksAreStored : Type 0
BlocksAreStored = (base : Base) (history : List Happened) (server : Server)
    → Runs base history server
    → (x : Ltxid) (happened : Happened) → Contains history happened → TellsUncommitted x happened
    → is_blocked (all_blocked server.core) x ≡ true

-- ---- what is told, at the moment at which it is told

-- the identifier that an answer carries
abbrev pub identifier_in : Down → Option Ltxid
identifier_in (down.Hello x) = Some x
identifier_in (down.Reply answers draws x) = Some x
identifier_in _ = None

-- A Hello and a Reply carry their session's next identifier.
abbrev pub TellsNext : Type 0
TellsNext = (base : Base) (history : List Happened) (server : Server) → IsSound base
    → (session : SessionId) (now : ℕ) (frame : Up) (told : Down) (x : Ltxid)
    → Runs base (history ++ Served session now frame (Says told) ∷ []) server
    → identifier_in told ≡ Some x
    → x ≡ next_ltxid (map committed_of (all_entries server.core)) session.incarnation
    session.session

-- An outcome is told by the table on the store before, unless its frame is refused,
abbrev pub TellsOutcomes : Type 0
TellsOutcomes = (base : Base) (history : List Happened) (server : Server) (session : SessionId)
    (now : ℕ) (x : Ltxid) (told : Down) → Runs base
    (history ++ Served session now (up.Outcome x) (Says told) ∷ []) server
    → (before : Server) × (Runs base history before
    × ((told ≡ down.Refused 2) ⊎ (told ≡ down_of (verdict_on before.core x))))

-- and so is what is asked from outside.
abbrev pub TellsAsks : Type 0
TellsAsks = (base : Base) (history : List Happened) (server : Server) (x : Ltxid) (told : Down)
    → Runs base (history ++ Asked x (Says told) ∷ []) server
    → (before : Server) × (Runs base history before × (told ≡ down_of (verdict_on before.core x)))

-- ---- fronts

-- A run has a run for each front of its history, whose entries, blocks and alerts are the first of
-- its own.
pub record IsFront (before after : Server) : Type 0 where
  pub more_entries : List Entry
  pub more_blocked : List Ltxid
  pub more_alerts : List (List ℕ)
  pub entries : after.core.entries ≡ before.core.entries ++ more_entries
  pub blocked : after.core.blocked ≡ before.core.blocked ++ more_blocked
  pub alerts : after.core.alerts ≡ before.core.alerts ++ more_alerts
  pub horizon : before.core.horizon ≤ after.core.horizon

abbrev pub RunsFront : Type 0
RunsFront = (base : Base) (history more : List Happened) (after : Server)
    → Runs base (history ++ more) after
    → (before : Server) × (Runs base history before × IsFront before after)

-- ---- the last thing

-- the store of one server is that of the other
pub record SameStore (before after : Server) : Type 0 where
  pub base : after.core.base ≡ before.core.base
  pub entries : after.core.entries ≡ before.core.entries

-- Where the last thing of a history came: a run to before it, the move that added it, and what has
-- come since, which added nothing.
pub record LastOf (base : Base) (history : List Happened) (last : Happened)
    (after : Server) : Type 0 where
  pub before : Server
  pub behind : Server
  pub runs : Runs base history before
  pub moves : Moves before (last ∷ []) behind
  pub same : SameStore behind after

abbrev pub RunsLast : Type 0
RunsLast = (base : Base) (history : List Happened) (last : Happened) (after : Server)
    → Runs base (history ++ last ∷ []) after → LastOf base history last after

-- ---- stops

-- each frame that was stopped is of an incarnation below this one
abbrev pub AreStoppedBefore : ℕ → List Happened → Type 0
AreStoppedBefore incarnation [] = Unit {0}
AreStoppedBefore incarnation (Served session now frame Stopped ∷ more) =
    (session.incarnation < incarnation) × AreStoppedBefore incarnation more
AreStoppedBefore incarnation (Served session now frame told ∷ more) =
    AreStoppedBefore incarnation more
AreStoppedBefore incarnation (Asked x told ∷ more) = AreStoppedBefore incarnation more

-- While a server runs on, it stopped in no frame of its opening.
abbrev pub RunsStopped : Type 0
RunsStopped = (base : Base) (history : List Happened) (server : Server) → IsSound base
    → Runs base history server → server.power ≡ On
    → AreStoppedBefore server.core.opening.incarnation history

-- ---- services

-- What a service's store has gained is a serial run of entries, numbered in order, none of them
-- blocked.
pub record StoresRight (seen : Seen) : Type 0 where
  pub gained : List Entry
  pub entries : seen.state.store.entries ≡ seen.start.entries ++ gained
  pub serial : Serial seen.start.shape seen.start.tables gained
      (tables_with seen.start.tables gained)
  pub numbered : AreNumbered seen.start.entries gained
  pub apart : All (λ entry. is_blocked seen.state.store.blocked entry.ltxid ≡ false) gained

-- Whatever has a history of the plain server stores right,
abbrev pub ServiceStores : Type 0
ServiceStores = (seen : Seen) → IsSound seen.start → IsHistory seen → StoresRight seen

-- each identifier that it blocked is its session's next one,
abbrev pub ServiceStands : Type 0
ServiceStands = (seen : Seen) → IsSound seen.start → IsHistory seen
    → BlocksStand (map committed_of seen.state.store.entries) seen.state.store.blocked

-- and it serves right.
pub record ServesRight (seen : Seen) : Type 0 where
  pub gained : List Entry
  pub lines : List (List ℕ)
  pub entries : seen.state.store.entries ≡ seen.start.entries ++ gained
  pub alerts : seen.state.store.alerts ≡ seen.start.alerts ++ lines
  pub served : legal seen.start (items_of seen.history) gained lines ≡ true
  pub drawn : fresh_new seen.start (items_of seen.history) gained ≡ true
  pub told : told_right seen.start seen.history gained ≡ true

abbrev pub ServiceRuns : Type 0
ServiceRuns = (seen : Seen) → IsSound seen.start → IsHistory seen → stops_last seen.history ≡ true
    → ServesRight seen
