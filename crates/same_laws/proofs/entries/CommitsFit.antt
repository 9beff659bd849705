-- How commits are answered on a run's connections: CommitInReplay ends the answers only of a call
-- with the mark, and a commit with no statement has one answer.
use Rattle.std.proofs.Common.{◌≡◌, refl, ap, Bool, true, false, ℕ, List, [], ◌∷◌}
use Rattle.std.specs.Prelude.{◌==◌, length}
use Rattle.std.proofs.lemmas.Bool.{and_from}
use Rattle.svc_values.specs.declared.answer.Answer.{Answer}
use Rattle.svc_values.specs.declared.answer.Answer.TheVariants as answer
use Rattle.svc_values.specs.declared.call.Call.{Call}
use Rattle.svc_values.specs.declared.call.Call.TheVariants as call
use Rattle.svc_values.specs.declared.draw.Draw.{Draw}
use Rattle.svc_values.specs.declared.frame.Up.TheVariants as up
use Rattle.svc_values.specs.declared.statement.Statement.{Statement}
use Rattle.svc_values.specs.meaning.Calls.{is_lone_commit}
use Rattle.svc_values.specs.meaning.Endings.{ends_with}
use Rattle.outage_schedule.specs.declared.item.Item.{Item}
use Rattle.outage_schedule.specs.declared.item.Item.TheVariants as item
use Rattle.server_model.specs.Core.{Core}
use Rattle.server_model.specs.meaning.Outcomes.{Telling}
use Rattle.server_model.specs.Serve.{Commits, InReplay, Blocks, Conflicts, Stores, StopsBefore, StopsAfter, Works, Answers as AnswersCall, Reaches, HaltsInDraw, Calls, IsWork, IsSet, IsAlter, AlterStops, AlterMarked, IsDisable, IsRollback, with_last}
use Rattle.server_model.specs.Sessions.{Sess}
use Rattle.once_laws.specs.CommitAnswers.{fit_commit, commits_fittingly, commit_fittingly}
use Rattle.world_model.specs.Parts.{implies}
use Rattle.world_model.specs.RunLaws.{RunsAreOrderly}
use Rattle.invariant_laws.specs.Same.{is_no_commit}
use Rattle.invariant_laws.specs.SameLaws.{HoldsAtEnds, HoldsInRuns, RunsServe}
use Rattle.once_laws.proofs.Offered.{tells, told_by_item, runs_hold, whole_runs_hold, ends_otherwise, work_plainly}
use Rattle.same_laws.proofs.entries.LoneStored.{lone_means}
use Rattle.world_model.proofs.Offered.{implied_by}

-- A CALL ------------------------------------------------------------------------------------------

-- a lone commit has one answer
abbrev IsOne : Call → List Answer → Type 0
IsOne called answers = is_lone_commit called ≡ true → (length answers == 1) ≡ true

refused_fit : (marked : Bool) (called : Call) (answers : List Answer) → ends_with is_no_commit answers ≡ false → IsOne called answers → fit_commit marked called answers ≡ true
refused_fit marked called answers none one =
    and_from (implies (ends_with is_no_commit answers) marked) (implies (is_lone_commit called) (length answers == 1)) (ap (λ (b : Bool). implies b marked) none) (implied_by (is_lone_commit called) (length answers == 1) one)

marked_fit : (marked : Bool) (called : Call) (answers : List Answer) → marked ≡ true → IsOne called answers → fit_commit marked called answers ≡ true
marked_fit marked called answers is one =
    and_from (implies (ends_with is_no_commit answers) marked) (implies (is_lone_commit called) (length answers == 1)) (implied_by (ends_with is_no_commit answers) marked (λ ends. is))
    (implied_by (is_lone_commit called) (length answers == 1) one)

-- with another answer at its end it is still one
other_one : (called : Call) (answers : List Answer) (last : Answer) → (is_lone_commit called ≡ true → answers ≡ answer.Committed ∷ []) → IsOne called (with_last answers last)
other_one called answers last alone lone = ap (λ (l : List Answer). length (with_last l last) == 1) (alone lone)

same_one : (called : Call) (answers : List Answer) → (is_lone_commit called ≡ true → answers ≡ answer.Committed ∷ []) → IsOne called answers
same_one called answers alone lone = ap (λ (l : List Answer). length l == 1) (alone lone)

commits_fit : (core : Core) (sess : Sess) (replay : Bool) (kept : List Draw) (called : Call) (answers : List Answer) (draws : List Draw) (after : Core) (t : Sess) (told : Telling) → ends_with is_no_commit answers ≡ false
    → (is_lone_commit called ≡ true → answers ≡ answer.Committed ∷ []) → Commits core sess replay called answers draws after t told → tells fit_commit (up.Call replay kept called) told ≡ true
commits_fit core sess replay kept called answers draws _ _ _ none alone (InReplay marked) = marked_fit replay called (with_last answers answer.CommitInReplay) marked (other_one called answers answer.CommitInReplay alone)
commits_fit core sess replay kept called answers draws _ _ _ none alone (Blocks unmarked blocked) = refl
commits_fit core sess replay kept called answers draws _ _ _ none alone (Conflicts unmarked free differs) =
    refused_fit replay called (with_last answers answer.Conflict) (ends_otherwise is_no_commit answers answer.Conflict refl) (other_one called answers answer.Conflict alone)
commits_fit core sess replay kept called answers draws _ _ _ none alone (Stores may) = refused_fit replay called answers none (same_one called answers alone)
commits_fit core sess replay kept called answers draws _ _ _ none alone (StopsBefore may) = refl
commits_fit core sess replay kept called answers draws _ _ _ none alone (StopsAfter may) = refl

works_fit : (core : Core) (sess : Sess) (replay : Bool) (kept : List Draw) (statements : List Statement) (commit : Bool) (now : ℕ) (after : Core) (t : Sess) (told : Telling) → Works core sess replay kept (call.Work statements commit) now after t told
    → tells fit_commit (up.Call replay kept (call.Work statements commit)) told ≡ true
works_fit core sess replay kept statements commit now _ _ _ (AnswersCall opening draws left meant drew means none) =
    refused_fit replay (call.Work statements commit) meant.answers (work_plainly _ _ _ statements commit draws meant means.run).refused
    (same_one (call.Work statements commit) meant.answers (λ lone. (lone_means _ _ _ (call.Work statements commit) draws meant means.run lone).answers))
works_fit core sess replay kept statements commit now _ _ _ (Reaches opening draws left meant after t told drew means ends commits) =
    commits_fit _ _ replay kept (call.Work statements commit) meant.answers draws after t told (work_plainly _ _ _ statements commit draws meant means.run).refused
    (λ lone. (lone_means _ _ _ (call.Work statements commit) draws meant means.run lone).answers) commits
works_fit core sess replay kept statements commit now _ _ _ (HaltsInDraw between opening draws next more left meant drew means halts) = refl

calls_fit : (core : Core) (sess : Sess) (replay : Bool) (kept : List Draw) (now : ℕ) (called : Call) (after : Core) (t : Sess) (told : Telling) → Calls core sess replay kept now called after t told → tells fit_commit (up.Call replay kept called) told ≡ true
calls_fit core sess replay kept now _ _ _ _ (IsWork statements commit after t told works) = works_fit core sess replay kept statements commit now after t told works
calls_fit core sess replay kept now _ _ _ _ (IsSet name value) = refl
calls_fit core sess replay kept now _ _ _ _ (IsAlter line unmarked) = refl
calls_fit core sess replay kept now _ _ _ _ (AlterStops line after unmarked same) = refl
calls_fit core sess replay kept now _ _ _ _ (AlterMarked line marked) = refl
calls_fit core sess replay kept now _ _ _ _ IsDisable = refl
calls_fit core sess replay kept now _ _ _ _ IsRollback = refl

-- RUNS --------------------------------------------------------------------------------------------

fitting : (it : Item) → told_by_item fit_commit it ≡ true → commits_fittingly it ≡ true
fitting (item.Call marked called answers draws) is = is
fitting it is = refl

pub runs_commit : RunsAreOrderly → RunsServe → HoldsInRuns commit_fittingly
runs_commit = runs_hold fit_commit calls_fit commits_fittingly fitting

pub whole_runs_commit : RunsAreOrderly → RunsServe → HoldsAtEnds commit_fittingly
whole_runs_commit = whole_runs_hold fit_commit calls_fit commits_fittingly fitting
