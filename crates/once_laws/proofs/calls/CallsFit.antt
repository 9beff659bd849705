-- How the answers to the calls end that a run's connections served: with RolledBack those of a
-- rollback, and with Committed only those of a call with a commit and without the mark.
use Rattle.std.proofs.Common.{◌≡◌, refl, ap, ◌∙◌, Bool, true, false, ℕ, ◌&&◌, List, [], ◌∷◌, Option, Some, None}
use Rattle.std.specs.Prelude.{not}
use Rattle.std.specs.List.{last_or}
use Rattle.std.specs.Option.{option_map_or}
use Rattle.std.proofs.lemmas.Bool.{and_from}
use Rattle.svc_values.specs.declared.answer.Answer.{Answer}
use Rattle.svc_values.specs.declared.answer.Answer.TheVariants as answer
use Rattle.svc_values.specs.declared.call.Call.{Call}
use Rattle.svc_values.specs.declared.call.Call.TheVariants as call
use Rattle.svc_values.specs.declared.draw.Draw.{Draw}
use Rattle.svc_values.specs.declared.frame.Up.TheVariants as up
use Rattle.svc_values.specs.declared.statement.Statement.{Statement}
use Rattle.svc_values.specs.meaning.Endings.{is_committed, is_rolled_back, ends_committed}
use Rattle.svc_values.specs.meaning.Same.{same_bool}
use Rattle.outage_schedule.specs.declared.item.Item.{Item}
use Rattle.outage_schedule.specs.declared.item.Item.TheVariants as item
use Rattle.server_model.specs.Core.{Core}
use Rattle.server_model.specs.meaning.Outcomes.{Telling}
use Rattle.server_model.specs.Serve.{Commits, InReplay, Blocks, Conflicts, Stores, StopsBefore, StopsAfter, Works, Answers as AnswersCall, Reaches, HaltsInDraw, Calls, IsWork, IsSet, IsAlter, AlterStops, AlterMarked, IsDisable, IsRollback, with_last}
use Rattle.server_model.specs.Sessions.{Sess}
use Rattle.once_laws.specs.CallEndings.{ends_rolled_back, fit_call, ends_fittingly, end_fittingly}
use Rattle.world_model.specs.Parts.{implies}
use Rattle.world_model.specs.RunLaws.{RunsAreOrderly}
use Rattle.invariant_laws.specs.SameLaws.{HoldsAtEnds, HoldsInRuns, RunsServe}
use Rattle.once_laws.proofs.calls.AnsweredCalls.{tells, told_by_item, runs_hold, whole_runs_hold}
use Rattle.once_laws.proofs.calls.PlainAnswers.{WorksPlainly, work_plainly}

-- A CALL ------------------------------------------------------------------------------------------

last_with : (before : Option Answer) (first : Answer) (more : List Answer) (last : Answer) → last_or before (with_last (first ∷ more) last) ≡ Some last
last_with before first [] last = refl
last_with before first (next ∷ more) last = last_with (Some first) next more last

pub ends_otherwise : (test : Answer → Bool) (answers : List Answer) (last : Answer) → test last ≡ false → option_map_or test (last_or None (with_last answers last)) false ≡ false
ends_otherwise test [] last none = refl
ends_otherwise test (first ∷ more) last none = ap (λ (a : Option Answer). option_map_or test a false) (last_with None first more last) ∙ none

-- no rollback, and what is committed was sent without the mark
work_fits : (replay : Bool) (statements : List Statement) (commit : Bool) (answers : List Answer) → ends_rolled_back answers ≡ false → (ends_committed answers ≡ true → (not replay && commit) ≡ true) → fit_call replay (call.Work statements commit) answers ≡ true
work_fits replay statements commit answers rolled committed =
    and_from (same_bool (ends_rolled_back answers) false) (implies (ends_committed answers) (not replay && commit)) (ap (λ (b : Bool). same_bool b false) rolled) (by (ends_committed answers) refl)
  where
    by : (test : Bool) → ends_committed answers ≡ test → implies test (not replay && commit) ≡ true
    by false is = refl
    by true is = committed is

never : (answers : List Answer) (replay commit : Bool) → ends_committed answers ≡ false → ends_committed answers ≡ true → (not replay && commit) ≡ true
never answers replay commit none is = absurd (let nothing : ⊥ = cc in nothing)

commits_fit : (core : Core) (sess : Sess) (replay : Bool) (kept : List Draw) (statements : List Statement) (commit : Bool) (answers : List Answer) (draws : List Draw) (after : Core) (t : Sess) (told : Telling) → WorksPlainly commit answers → ends_committed answers ≡ true
    → Commits core sess replay (call.Work statements commit) answers draws after t told → tells fit_call (up.Call replay kept (call.Work statements commit)) told ≡ true
commits_fit core sess replay kept statements commit answers draws _ _ _ plain ends (InReplay marked) =
    work_fits replay statements commit (with_last answers answer.CommitInReplay) (ends_otherwise is_rolled_back answers answer.CommitInReplay refl)
    (never (with_last answers answer.CommitInReplay) replay commit (ends_otherwise is_committed answers answer.CommitInReplay refl))
commits_fit core sess replay kept statements commit answers draws _ _ _ plain ends (Blocks unmarked blocked) = refl
commits_fit core sess replay kept statements commit answers draws _ _ _ plain ends (Conflicts unmarked free differs) =
    work_fits replay statements commit (with_last answers answer.Conflict) (ends_otherwise is_rolled_back answers answer.Conflict refl)
    (never (with_last answers answer.Conflict) replay commit (ends_otherwise is_committed answers answer.Conflict refl))
commits_fit core sess replay kept statements commit answers draws _ _ _ plain ends (Stores may) =
    work_fits replay statements commit answers plain.rolled (λ is. and_from (not replay) commit may.unmarked (plain.committed is))
commits_fit core sess replay kept statements commit answers draws _ _ _ plain ends (StopsBefore may) = refl
commits_fit core sess replay kept statements commit answers draws _ _ _ plain ends (StopsAfter may) = refl

works_fit : (core : Core) (sess : Sess) (replay : Bool) (kept : List Draw) (statements : List Statement) (commit : Bool) (now : ℕ) (after : Core) (t : Sess) (told : Telling) → Works core sess replay kept (call.Work statements commit) now after t told
    → tells fit_call (up.Call replay kept (call.Work statements commit)) told ≡ true
works_fit core sess replay kept statements commit now _ _ _ (AnswersCall opening draws left meant drew means none) =
    work_fits replay statements commit meant.answers (work_plainly _ _ _ statements commit draws meant means.run).rolled (never meant.answers replay commit none)
works_fit core sess replay kept statements commit now _ _ _ (Reaches opening draws left meant after t told drew means ends commits) =
    commits_fit _ _ replay kept statements commit meant.answers draws after t told (work_plainly _ _ _ statements commit draws meant means.run) ends commits
works_fit core sess replay kept statements commit now _ _ _ (HaltsInDraw between opening draws next more left meant drew means halts) = refl

calls_fit : (core : Core) (sess : Sess) (replay : Bool) (kept : List Draw) (now : ℕ) (called : Call) (after : Core) (t : Sess) (told : Telling) → Calls core sess replay kept now called after t told → tells fit_call (up.Call replay kept called) told ≡ true
calls_fit core sess replay kept now _ _ _ _ (IsWork statements commit after t told works) = works_fit core sess replay kept statements commit now after t told works
calls_fit core sess replay kept now _ _ _ _ (IsSet name value) = refl
calls_fit core sess replay kept now _ _ _ _ (IsAlter line unmarked) = refl
calls_fit core sess replay kept now _ _ _ _ (AlterStops line after unmarked same) = refl
calls_fit core sess replay kept now _ _ _ _ (AlterMarked line marked) = refl
calls_fit core sess replay kept now _ _ _ _ IsDisable = refl
calls_fit core sess replay kept now _ _ _ _ IsRollback = refl

-- RUNS --------------------------------------------------------------------------------------------

fitting : (it : Item) → told_by_item fit_call it ≡ true → ends_fittingly it ≡ true
fitting (item.Call marked called answers draws) is = is
fitting it is = refl

pub runs_fit : RunsAreOrderly → RunsServe → HoldsInRuns end_fittingly
runs_fit = runs_hold fit_call calls_fit ends_fittingly fitting

pub whole_runs_fit : RunsAreOrderly → RunsServe → HoldsAtEnds end_fittingly
whole_runs_fit = whole_runs_hold fit_call calls_fit ends_fittingly fitting
