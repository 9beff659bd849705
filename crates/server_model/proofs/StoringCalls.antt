-- A call without a commit stores no entry, and a run keeps its base.
use Rattle.std.specs.Prelude.{◌≡◌, ◌⊎◌, ℕ, Bool, true, false, List}
use Rattle.std.proofs.Common.{refl, inl, inr, sym, ◌∙◌, ap}
use Rattle.svc_values.specs.declared.draw.Draw.{Draw}
use Rattle.svc_values.specs.declared.statement.Statement.{Statement}
use Rattle.svc_values.specs.declared.call.Call.{Call}
use Rattle.svc_values.specs.declared.call.Call.TheVariants as call
use Rattle.svc_values.specs.declared.frame.Up.TheVariants as up
use Rattle.svc_values.specs.meaning.Calls.{has_commit}
use Rattle.svc_values.specs.meaning.Tables.{with_writes}
use Rattle.server_model.specs.meaning.Base.{Base}
use Rattle.server_model.specs.Core.{Core, committed}
use Rattle.server_model.specs.meaning.Outcomes.{Telling}
use Rattle.server_model.specs.Runs.{Happened, Server, Start, Then, Runs as RunsTo}
use Rattle.server_model.specs.Serve.{Serve, Calls, Works, Answers, Reaches, HaltsInDraw, IsWork, IsSet, IsAlter, AlterStops, AlterMarked, IsDisable, IsRollback, Runs, Refuses, with_alert}
use Rattle.server_model.specs.Sessions.{Sess}
use Rattle.server_model.proofs.PlainAnswers.{work-ending}
use Rattle.server_model.proofs.ToldBlocked.{moves_base}

works_none : (core : Core) (sess : Sess) (replay : Bool) (kept : List Draw) (statements : List Statement) (commit : Bool) (now : ℕ) (after : Core) (t : Sess) (told : Telling)
    → Works core sess replay kept (call.Work statements commit) now after t told → has_commit (call.Work statements commit) ≡ false → after.entries ≡ core.entries
works_none core sess replay kept statements commit now _ _ _ (Answers opening draws left meant drew means plain) none = refl
works_none core sess replay kept statements commit now _ _ _ (Reaches opening draws left meant after t told drew means reached commits) none =
    let both : true ≡ false = sym ((work-ending core.base.shape (with_writes (committed core) sess.writes) sess.settings statements commit draws meant means.run).commit reached) ∙ none in
    let never : ⊥ = cc in absurd never
works_none core sess replay kept statements commit now _ _ _ (HaltsInDraw between opening draws next more left meant drew means halts) none = refl

either_none : (core after : Core) (line : List ℕ) → (after ≡ core) ⊎ (after ≡ with_alert core line) → after.entries ≡ core.entries
either_none core after line (inl same) = ap (λ (c : Core). c.entries) same
either_none core after line (inr added) = ap (λ (c : Core). c.entries) added

calls_none : (core : Core) (sess : Sess) (replay : Bool) (kept : List Draw) (now : ℕ) (called : Call) (after : Core) (t : Sess) (told : Telling)
    → Calls core sess replay kept now called after t told → has_commit called ≡ false → after.entries ≡ core.entries
calls_none core sess replay kept now _ _ _ _ (IsWork statements commit after t told works) none = works_none core sess replay kept statements commit now after t told works none
calls_none core sess replay kept now _ _ _ _ (IsSet name value) none = refl
calls_none core sess replay kept now _ _ _ _ (IsAlter line unmarked) none = refl
calls_none core sess replay kept now _ _ _ _ (AlterStops line after unmarked either) none = either_none core after line either
calls_none core sess replay kept now _ _ _ _ (AlterMarked line marked) none = refl
calls_none core sess replay kept now _ _ _ _ IsDisable none = refl
calls_none core sess replay kept now _ _ _ _ IsRollback none = refl

pub stores_by_commit : (core : Core) (sess : Sess) (now : ℕ) (replay : Bool) (kept : List Draw) (called : Call) (after : Core) (t : Sess) (told : Telling)
    → Serve core sess now (up.Call replay kept called) after t told → has_commit called ≡ false → after.entries ≡ core.entries
stores_by_commit core sess now _ _ _ _ _ _ (Runs replay kept called after t told life calls) none = calls_none core sess replay kept now called after t told calls none
stores_by_commit core sess now _ _ _ _ _ _ (Refuses frame out) none = refl

pub runs_keep_base : (base : Base) (history : List Happened) (server : Server) → RunsTo base history server → server.core.base ≡ base
runs_keep_base base _ _ Start = refl
runs_keep_base base _ _ (Then history more server after runs moves) = moves_base server after more moves ∙ runs_keep_base base history server runs
