-- What a session does with a frame: one relation, by cases of the frame.
use Rattle.std.specs.Prelude.{◌≡◌, ◌⊎◌, ℕ, Bool, true, false, not, IsTrue, ◌||◌, List, [], ◌∷◌, ◌++◌, Some}
use Rattle.svc_values.specs.declared.value.Value.{Value}
use Rattle.svc_values.specs.declared.draw.Draw.{Draw}
use Rattle.svc_values.specs.declared.statement.Statement.{Statement}
use Rattle.svc_values.specs.declared.call.Call.{Call}
use Rattle.svc_values.specs.declared.call.Call.TheVariants as call
use Rattle.svc_values.specs.declared.answer.Answer.{Answer}
use Rattle.svc_values.specs.declared.answer.Answer.TheVariants as answer
use Rattle.svc_values.specs.declared.entry.Entry.{Entry}
use Rattle.svc_values.specs.declared.entry.Ltxid.{Ltxid}
use Rattle.svc_values.specs.declared.frame.Up.{Up}
use Rattle.svc_values.specs.declared.frame.Up.TheVariants as up
use Rattle.svc_values.specs.declared.frame.Down.TheVariants as down
use Rattle.svc_values.specs.meaning.Endings.{ends_committed}
use Rattle.svc_values.specs.meaning.SettingsList.{put_setting}
use Rattle.svc_values.specs.meaning.Tables.{with_writes}
use Rattle.stmt_meaning.specs.Asked.{kind_drawn}
use Rattle.stmt_meaning.specs.meaning.Meaning.{Meant, mean}
use Rattle.ltxid_book.specs.meaning.Journal.{is_blocked}
use Rattle.mutable_values.specs.Sources.{Opening}
use Rattle.server_model.specs.Core.{Core, committed, all_blocked}
use Rattle.stmt_meaning.specs.Reads.{ReadsStand, ReadsDiffer}
use Rattle.server_model.specs.Sessions.{Life, New, Idle, Begun, Ended, Sess, begun_with, dropped, ended, with_piece, with_work, raised, entry_of}
use Rattle.server_model.specs.Draws.{brought, DrawsAll, HaltsAt}
use Rattle.server_model.specs.meaning.Outcomes.{Telling, Silent, Says, Stopped}
use Rattle.server_model.specs.Outcomes.{Outcomes}

-- the answers with another last one
abbrev pub with_last : List Answer → Answer → List Answer
with_last [] last = []
with_last (first ∷ []) last = last ∷ []
with_last (first ∷ next ∷ more) last = first ∷ with_last (next ∷ more) last

abbrev pub reply : List Answer → List Draw → Sess → Telling
reply answers draws sess = Says (down.Reply answers draws sess.ltxid)

abbrev pub with_opening : Core → Opening → Core
with_opening core opening = record core { opening = opening }

abbrev pub with_entry : Core → Entry → Core
with_entry core entry = record core { entries = core.entries ++ entry ∷ [] }

abbrev pub with_alert : Core → List ℕ → Core
with_alert core line = record core { alerts = core.alerts ++ line ∷ [] }

-- a commit may be stored: it has no mark, its identifier is not blocked, and nothing that it read
-- has changed
pub record MayStore (core : Core) (sess : Sess) (replay : Bool) : Type 0 where
  pub unmarked : IsTrue (not replay)
  pub free : IsTrue (not (is_blocked (all_blocked core) sess.ltxid))
  pub same : ReadsStand sess.reads (committed core)

-- A commit is reached: its statements ran, `sess` has their reads and writes, and `core` has what
-- was drawn. The order is the mark, the block, the conflict, the store. A stop comes only at the
-- store, and the entry then stands or not.
pub data Commits (core : Core) (sess : Sess) (replay : Bool) (called : Call) (answers : List Answer)
    (draws : List Draw) : Core → Sess → Telling → Type 0 where
  InReplay : IsTrue replay → Commits core sess replay called answers draws core (dropped sess)
      (reply (with_last answers answer.CommitInReplay) draws sess)
  Blocks : IsTrue (not replay) → IsTrue (is_blocked (all_blocked core) sess.ltxid)
      → Commits core sess replay called answers draws core (ended sess) (Says down.Blocked)
  Conflicts : IsTrue (not replay) → IsTrue (not (is_blocked (all_blocked core) sess.ltxid))
      → ReadsDiffer sess.reads (committed core)
      → Commits core sess replay called answers draws core (dropped sess)
      (reply (with_last answers answer.Conflict) draws sess)
  Stores : MayStore core sess replay
      → Commits core sess replay called answers draws
      (with_entry core (entry_of sess called answers draws)) (dropped (raised sess))
      (reply answers draws (raised sess))
  StopsBefore : MayStore core sess replay → Commits core sess replay called answers draws core
      (ended sess) Stopped
  StopsAfter : MayStore core sess replay → Commits core sess replay called answers draws
      (with_entry core (entry_of sess called answers draws)) (ended sess) Stopped

-- What a work call means with these draws: its statements run on what is committed with the
-- transaction's writes over it, and use all draws.
pub record Means (core : Core) (sess : Sess) (called : Call) (draws : List Draw)
    (meant : Meant) : Type 0 where
  pub run : mean core.base.shape (with_writes (committed core) sess.writes) sess.settings called
      draws ≡ Some meant
  pub used : meant.rest ≡ []

-- A work call: the draws that it asks for, its meaning with them, and its commit where it reaches
-- one.
pub data Works (core : Core) (sess : Sess) (replay : Bool) (kept : List Draw) (called : Call)
    (now : ℕ) : Core → Sess → Telling → Type 0 where
  Answers : (opening : Opening) (draws left : List Draw) (meant : Meant)
      → DrawsAll now core.opening (brought core.base.grants core.opening replay kept) draws opening
      left
      → Means core sess called draws meant → ends_committed meant.answers ≡ false
      → Works core sess replay kept called now (with_opening core opening)
      (with_piece (with_work sess (committed core) meant) called meant.answers draws)
      (reply meant.answers draws sess)
  Reaches : (opening : Opening) (draws left : List Draw) (meant : Meant) (after : Core) (t : Sess)
      (told : Telling) → DrawsAll now core.opening
      (brought core.base.grants core.opening replay kept) draws opening left
      → Means core sess called draws meant → ends_committed meant.answers ≡ true
      → Commits (with_opening core opening) (with_work sess (committed core) meant) replay called
      meant.answers draws after t told
      → Works core sess replay kept called now after t told
  -- some of the draws were given, and the next one is asked for
  HaltsInDraw : (between opening : Opening) (draws : List Draw) (next : Draw)
      (more left : List Draw) (meant : Meant)
      → DrawsAll now core.opening (brought core.base.grants core.opening replay kept) draws between
      left
      → Means core sess called (draws ++ next ∷ more) meant
      → HaltsAt now left (kind_drawn next) between opening
      → Works core sess replay kept called now (with_opening core opening) (ended sess) Stopped

-- A call, served in a request.
pub data Calls (core : Core) (sess : Sess) (replay : Bool) (kept : List Draw) (now : ℕ) : Call
    → Core → Sess → Telling → Type 0 where
  IsWork : (statements : List Statement) (commit : Bool) (after : Core) (t : Sess) (told : Telling)
      → Works core sess replay kept (call.Work statements commit) now after t told
      → Calls core sess replay kept now (call.Work statements commit) after t told
  IsSet : (name : List ℕ) (value : Value)
      → Calls core sess replay kept now (call.Set name value) core
      (record (with_piece sess (call.Set name value) (answer.Done 1 ∷ []) []) {
        settings =
            put_setting sess.settings name value;
      }) (reply (answer.Done 1 ∷ []) [] sess)
  IsAlter : (line : List ℕ) → IsTrue (not replay)
      → Calls core sess replay kept now (call.Alter line) (with_alert core line)
      (with_piece sess (call.Alter line) (answer.Done 1 ∷ []) [])
      (reply (answer.Done 1 ∷ []) [] sess)
  -- at a stop the line stands or not
  AlterStops : (line : List ℕ) (after : Core) → IsTrue (not replay)
      → (after ≡ core) ⊎ (after ≡ with_alert core line)
      → Calls core sess replay kept now (call.Alter line) after (ended sess) Stopped
  AlterMarked : (line : List ℕ) → IsTrue replay
      → Calls core sess replay kept now (call.Alter line) core (ended sess) (Says (down.Refused 2))
  IsDisable : Calls core sess replay kept now call.Disable core
      (with_piece sess call.Disable (answer.Done 0 ∷ []) []) (reply (answer.Done 0 ∷ []) [] sess)
  IsRollback : Calls core sess replay kept now call.Rollback core (dropped sess)
      (reply (answer.RolledBack ∷ []) [] sess)

-- connected, and not at its end
abbrev pub is_serving : Life → Bool
is_serving New = false
is_serving Idle = true
is_serving Begun = true
is_serving Ended = false

abbrev pub is_connect : Up → Bool
is_connect up.Connect = true
is_connect _ = false

abbrev pub is_call : Up → Bool
is_call (up.Call replay kept called) = true
is_call _ = false

-- the frame is out of order: anything but a Connect first, a Connect later, a call between requests
abbrev pub is_out_of_order : Life → Up → Bool
is_out_of_order New frame = not (is_connect frame)
is_out_of_order Idle frame = is_connect frame || is_call frame
is_out_of_order Begun frame = is_connect frame
is_out_of_order Ended frame = false

-- a stop ends the session
abbrev pub if_told : Telling → Sess → Sess
if_told Silent sess = sess
if_told (Says frame) sess = sess
if_told Stopped sess = ended sess

-- One frame in one session at a tick: what the core and the session are afterwards, and what is
-- told. At its end a session serves nothing.
pub data Serve (core : Core) (sess : Sess) (now : ℕ) : Up → Core → Sess → Telling → Type 0 where
  Connects : sess.life ≡ New → Serve core sess now up.Connect core (record sess { life = Idle })
      (Says (down.Hello sess.ltxid))
  Begins : (settings : List (List ℕ × Value)) → IsTrue (is_serving sess.life)
      → Serve core sess now (up.Begin settings) core (begun_with sess Begun settings) Silent
  Ends : IsTrue (is_serving sess.life) → Serve core sess now up.End core
      (begun_with sess Idle []) Silent
  Closes : IsTrue (is_serving sess.life) → Serve core sess now up.Close core (ended sess) Silent
  Asks : (x : Ltxid) (after : Core) (told : Telling) → IsTrue (is_serving sess.life)
      → Outcomes core x after told → Serve core sess now (up.Outcome x) after
      (if_told told sess) told
  Runs : (replay : Bool) (kept : List Draw) (called : Call) (after : Core) (t : Sess)
      (told : Telling) → sess.life ≡ Begun → Calls core sess replay kept now called after t told
      → Serve core sess now (up.Call replay kept called) after t told
  Refuses : (frame : Up) → IsTrue (is_out_of_order sess.life frame)
      → Serve core sess now frame core (ended sess) (Says (down.Refused 2))
