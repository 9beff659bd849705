-- What a call draws that is served again with the mark, and brings the draws of its first time.
use Rattle.std.specs.Prelude.{◌≡◌, ◌⊎◌, ℕ, Bool, true, false, List, [], ◌∷◌, ◌++◌, filter, fold, if◌then◌else◌}
use Rattle.svc_values.specs.declared.answer.Answer.{Answer}
use Rattle.svc_values.specs.declared.call.Call.{Call}
use Rattle.svc_values.specs.declared.draw.Draw.{Draw}
use Rattle.svc_values.specs.declared.entry.Entry.{Entry}
use Rattle.svc_values.specs.declared.entry.Ltxid.{Ltxid}
use Rattle.svc_values.specs.declared.entry.SessionId.{SessionId}
use Rattle.svc_values.specs.declared.frame.Down.TheVariants as down
use Rattle.svc_values.specs.declared.frame.Up.TheVariants as up
use Rattle.svc_values.specs.meaning.Identifiers.{same_session}
use Rattle.svc_values.specs.meaning.SettingsList.{NamedValues, with_set}
use Rattle.stmt_meaning.specs.AskedIn.{ends_unset}
use Rattle.server_model.specs.meaning.Base.{Base}
use Rattle.server_model.specs.Base.{IsSound}
use Rattle.server_model.specs.meaning.Items.{Thing, Began, Called, Item, Did, AskTold, AskStopped}
use Rattle.server_model.specs.Items.{items_of}
use Rattle.server_model.specs.Laws.{stops_last}
use Rattle.server_model.specs.meaning.Legal.{legal}
use Rattle.server_model.specs.meaning.NewValues.{grants}
use Rattle.server_model.specs.meaning.Outcomes.{Says}
use Rattle.server_model.specs.Runs.{Happened, Served, Server, Runs}

-- ---- settings

-- a request begins with its settings, and a `set` that was answered changes one
abbrev pub set_by : NamedValues → Thing → NamedValues
set_by settings (Began first) = first
set_by settings (Called replay kept called answers draws) = with_set settings called
set_by settings _ = settings

abbrev pub set_in : SessionId → NamedValues → Item → NamedValues
set_in session settings (Did event now other thing) =
    if same_session other session then set_by settings thing else settings
set_in session settings (AskTold event x outcome) = settings
set_in session settings (AskStopped event x) = settings

-- the settings that a session's next call runs in, behind these items
abbrev pub settings_behind : List Item → SessionId → NamedValues
settings_behind items session = fold (set_in session) [] items

-- ---- a call that was served twice

-- A call of a history that was served: its session and what was served before it, whether it had
-- the mark and what it brought, and its answers and draws.
pub record HasServed (history : List Happened) (replay : Bool) (kept : List Draw) (called : Call)
    (answers : List Answer) (draws : List Draw) : Type 0 where
  pub before : List Happened
  pub session : SessionId
  pub now : ℕ
  pub next : Ltxid
  pub behind : List Happened
  pub is : history ≡ before ++ Served session now (up.Call replay kept called)
      (Says (down.Reply answers draws next)) ∷ behind

-- Both times it ran in the same settings, or it was not refused for want of one.
abbrev pub AgreesAgain : (history : List Happened) (replay : Bool) (kept : List Draw)
    (called : Call) (answers : List Answer) (draws again : List Draw)
    → HasServed history replay kept called answers draws
    → HasServed history true draws called answers again → Type 0
AgreesAgain history replay kept called answers draws again first second =
    (settings_behind (items_of first.before) first.session
    ≡ settings_behind (items_of second.before) second.session) ⊎ (ends_unset answers ≡ false)

-- Where a call is served again with the mark, brings the draws of its first time, and is answered
-- the same, the granted ones among the draws of both times are the same, in order.
abbrev pub LegalRedraws : Type 0
LegalRedraws =
    (base : Base) (history : List Happened) (entries : List Entry) (lines : List (List ℕ))
    → legal base (items_of history) entries lines ≡ true
    → (replay : Bool) (kept : List Draw) (called : Call) (answers : List Answer)
    (draws again : List Draw) (first : HasServed history replay kept called answers draws)
    (second : HasServed history true draws called answers again)
    → AgreesAgain history replay kept called answers draws again first second
    → filter (grants base) again ≡ filter (grants base) draws

-- So it is in each run of the plain server.
abbrev pub RunsRedraw : Type 0
RunsRedraw =
    (base : Base) (history : List Happened) (server : Server) → IsSound base
    → Runs base history server → stops_last history ≡ true
    → (replay : Bool) (kept : List Draw) (called : Call) (answers : List Answer)
    (draws again : List Draw) (first : HasServed history replay kept called answers draws)
    (second : HasServed history true draws called answers again)
    → AgreesAgain history replay kept called answers draws again first second
    → filter (grants base) again ≡ filter (grants base) draws
