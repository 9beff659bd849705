-- How the answers of a call end: a statement's answer ends no transaction, so only a commit that is
-- reached does.
use Rattle.std.specs.Prelude.{◌≡◌, ◌+ℤ◌, slice_set, ℕ, ℤ, Bool, true, false, List, [], ◌∷◌, ◌++◌, Option, Some, None, Ok, Err, nat_lt, length, if◌then◌else◌}
use Rattle.std.specs.List.{last_or}
use Rattle.std.specs.Option.{option_map_or}
use Rattle.std.proofs.Common.{refl, sym, ◌∙◌, ap, subst, append-nil}
use Rattle.svc_values.specs.declared.value.Value.{Value}
use Rattle.svc_values.specs.declared.value.Value.TheVariants as value
use Rattle.svc_values.specs.declared.schema.Shape.{Shape}
use Rattle.svc_values.specs.declared.draw.Draw.{Draw}
use Rattle.svc_values.specs.declared.statement.Statement.{Statement}
use Rattle.svc_values.specs.declared.call.Call.{Call}
use Rattle.svc_values.specs.declared.call.Call.TheVariants as call
use Rattle.svc_values.specs.declared.answer.Answer.{Answer}
use Rattle.svc_values.specs.declared.answer.Answer.TheVariants as answer
use Rattle.svc_values.specs.declared.answer.StatementFault.{StatementFault}
use Rattle.svc_values.specs.declared.answer.StatementFault.TheVariants as fault
use Rattle.svc_values.specs.meaning.Calls.{has_commit}
use Rattle.svc_values.specs.meaning.Endings.{is_committed, ends_committed}
use Rattle.stmt_meaning.specs.declared.plan.Plan.{Plan}
use Rattle.stmt_meaning.specs.declared.plan.Plan.TheVariants as plan
use Rattle.stmt_meaning.specs.declared.plan.RowWork.{RowWork}
use Rattle.stmt_meaning.specs.declared.plan.RowWork.TheVariants as row_work
use Rattle.stmt_meaning.specs.declared.plan.TableWork.{TableWork}
use Rattle.stmt_meaning.specs.declared.plan.TableWork.TheVariants as table_work
use Rattle.svc_values.specs.declared.tables.PlainRow.{PlainRow}
use Rattle.svc_values.specs.meaning.Tables.{with_writes}
use Rattle.stmt_meaning.specs.meaning.Operands.{Reading}
use Rattle.stmt_meaning.specs.meaning.Plans.{plan_of, place_of}
use Rattle.stmt_meaning.specs.declared.effect.Effect.{Effect}
use Rattle.stmt_meaning.specs.meaning.Effects.{effect, total, row_effect, table_answer, first_of, wrote, refused, fits_i64, number_at}
use Rattle.svc_values.specs.meaning.Tests.{selected}
use Rattle.stmt_meaning.specs.meaning.Meaning.{Meant, mean, worked, OneDone, AllDone, mean1, done_at, seen_at, statements_done, and_on, ended_by, after_first, is_refusal, commit_answer}
use Rattle.server_model.specs.Serve.{with_last}
use Rattle.server_model.specs.meaning.Walk.{is_ending, ends}

-- ---- one statement

limited-plain : (b : Bool) (rows : List (List Value)) (fault : StatementFault) → is_ending (if b then answer.Refused fault else answer.Rows rows) ≡ false
limited-plain true rows fault = refl
limited-plain false rows fault = refl

summed-plain : (b : Bool) (sum : ℤ) (fault : StatementFault) → is_ending (if b then answer.Number sum else answer.Refused fault) ≡ false
summed-plain true sum fault = refl
summed-plain false sum fault = refl

added-plain : (b : Bool) (one other : Effect) → is_ending one.answer ≡ false → is_ending other.answer ≡ false → is_ending (if b then one else other).answer ≡ false
added-plain true one other here there = here
added-plain false one other here there = there

row-plain : (table : List ℕ) (key : Value) (work : RowWork) (found : Option (List Value)) → is_ending (row_effect table key work found).answer ≡ false
row-plain table key (row_work.Insert row) None = refl
row-plain table key (row_work.Insert row) (Some there) = refl
row-plain table key (row_work.Set at to) None = refl
row-plain table key (row_work.Set at to) (Some there) = refl
row-plain table key (row_work.Add at by) None = refl
row-plain table key (row_work.Add at by) (Some there) = added-plain (fits_i64 (number_at there at +ℤ by)) (wrote table key (Some (slice_set there at (value.Int (number_at there at +ℤ by))))) (refused fault.SumRange) refl refl
row-plain table key row_work.Delete None = refl
row-plain table key row_work.Delete (Some there) = refl
row-plain table key row_work.Get None = refl
row-plain table key row_work.Get (Some there) = refl

table-plain : (work : TableWork) (rows : List (List Value)) → is_ending (table_answer work rows) ≡ false
table-plain (table_work.Select at compared than) rows = limited-plain (nat_lt 32 (length (selected at compared than rows))) (selected at compared than rows) fault.TooManyRows
table-plain table_work.Count rows = refl
table-plain (table_work.Sum at) rows = summed-plain (fits_i64 (total at rows)) (total at rows) fault.SumRange

effect-plain : (asked : Plan) (rows : List (List Value)) → is_ending (effect asked rows).answer ≡ false
effect-plain (plan.AtRow table key work) rows = row-plain table key work (first_of rows)
effect-plain (plan.InTable table work) rows = table-plain work rows
effect-plain (plan.Show shown) rows = refl

some_is : {A : Type 0} (a b : A) → Some a ≡ Some b → a ≡ b
some_is a b same = cc

done-plain : (tables : List PlainRow) (found : Reading Plan) (one : OneDone) → done_at tables found ≡ Some one → is_ending one.answer ≡ false
done-plain tables None one is = cc
done-plain tables (Some (Err refusal, left)) one is = sym (ap (λ (d : OneDone). is_ending d.answer) (some_is _ one is))
done-plain tables (Some (Ok asked, left)) one is = sym (ap (λ (d : OneDone). is_ending d.answer) (some_is _ one is)) ∙ effect-plain asked (seen_at tables (place_of asked))

-- ---- statements

abbrev pub AllPlain : List Answer → Type 0
AllPlain [] = Unit {0}
AllPlain (first ∷ more) = (is_ending first ≡ false) × AllPlain more

first-plain : (one : OneDone) (more : Option AllDone) (done : AllDone) → is_ending one.answer ≡ false → ((inner : AllDone) → more ≡ Some inner → AllPlain inner.answers) → after_first one more ≡ Some done → AllPlain done.answers
first-plain one None done here rest is = cc
first-plain one (Some more) done here rest is = subst (λ (d : AllDone). AllPlain d.answers) (some_is _ done is) (here, rest more refl)

on-plain : (found : Option OneDone) (next : OneDone → Option AllDone) (done : AllDone) → ((one : OneDone) → found ≡ Some one → is_ending one.answer ≡ false) → ((one : OneDone) (inner : AllDone) → next one ≡ Some inner → AllPlain inner.answers) → and_on found next ≡ Some done → AllPlain done.answers
on-plain None next done here rest is = cc
on-plain (Some one) next done here rest is = by (is_refusal one.answer) is
  where
    by : (b : Bool) → (if b then ended_by one else after_first one (next one)) ≡ Some done → AllPlain done.answers
    by true is = subst (λ (d : AllDone). AllPlain d.answers) (some_is _ done is) (here one refl, tt)
    by false is = first-plain one (next one) done (here one refl) (λ inner e. rest one inner e) is

statements-plain : (shape : Shape) (statements : List Statement) (tables : List PlainRow) (settings : List (List ℕ × Value)) (draws : List Draw) (done : AllDone) → statements_done shape tables settings statements draws ≡ Some done → AllPlain done.answers
statements-plain shape [] tables settings draws done is = subst (λ (d : AllDone). AllPlain d.answers) (some_is _ done is) tt
statements-plain shape (first ∷ rest) tables settings draws done is =
    on-plain (mean1 shape tables settings first draws) (λ one. statements_done shape (with_writes tables one.writes) settings rest one.rest) done
    (λ one e. done-plain tables (plan_of shape settings first draws) one e)
    (λ one inner e. statements-plain shape rest (with_writes tables one.writes) settings one.rest inner e) is

-- ---- how answers end

-- an answer that ends no transaction is no commit
not-commit : (a : Answer) → is_ending a ≡ false → is_committed a ≡ false
not-commit (answer.Done n) plain = refl
not-commit (answer.Rows rows) plain = refl
not-commit (answer.Number n) plain = refl
not-commit (answer.Refused fault) plain = refl
not-commit answer.Committed plain = cc
not-commit answer.Conflict plain = refl
not-commit answer.RolledBack plain = refl
not-commit answer.CommitInReplay plain = refl

pub plain-ends : (answers : List Answer) (before : Option Answer) → option_map_or is_ending before false ≡ false → AllPlain answers → option_map_or is_ending (last_or before answers) false ≡ false
plain-ends [] before none plain = none
plain-ends (first ∷ more) before none plain = plain-ends more (Some first) plain.0 plain.1

plain-not : (answers : List Answer) (before : Option Answer) → option_map_or is_committed before false ≡ false → AllPlain answers → option_map_or is_committed (last_or before answers) false ≡ false
plain-not [] before none plain = none
plain-not (first ∷ more) before none plain = plain-not more (Some first) (not-commit first plain.0) plain.1

last-push : (answers : List Answer) (before : Option Answer) (last : Answer) → last_or before (answers ++ last ∷ []) ≡ Some last
last-push [] before last = refl
last-push (first ∷ more) before last = last-push more (Some first) last

false_true : {A : Type 0} → false ≡ true → A
false_true is = let none : ⊥ = cc in absurd none

-- ---- calls

pub record Ending (called : Call) (meant : Meant) : Type 0 where
  -- where it means no commit it ends no transaction
  pub plain : ends_committed meant.answers ≡ false → ends meant.answers ≡ false
  pub commit : ends_committed meant.answers ≡ true → has_commit called ≡ true

plain-ending : (called : Call) (meant : Meant) → AllPlain meant.answers → Ending called meant
plain-ending called meant plain = record {
  plain = λ not. plain-ends meant.answers None refl plain;
  commit = λ is. false_true (sym (plain-not meant.answers None refl plain) ∙ is);
}

done-ending : (statements : List Statement) (commit : Bool) (answers : List Answer) (meant : Meant) → AllPlain answers → meant.answers ≡ answers ++ commit_answer commit → Ending (call.Work statements commit) meant
done-ending statements true answers meant plain is = record {
  plain = λ not. false_true (sym not ∙ ap ends_committed is ∙ ap (λ a. option_map_or is_committed a false) (last-push answers None answer.Committed));
  commit = λ e. refl;
}
done-ending statements false answers meant plain is = plain-ending (call.Work statements false) meant (subst AllPlain (sym (is ∙ append-nil answers)) plain)

worked-ending : (tables : List PlainRow) (settings : List (List ℕ × Value)) (statements : List Statement) (commit : Bool) (found : Option AllDone) (meant : Meant) → ((done : AllDone) → found ≡ Some done → AllPlain done.answers)
    → worked tables settings commit found ≡ Some meant → Ending (call.Work statements commit) meant
worked-ending tables settings statements commit None meant plain is = cc
worked-ending tables settings statements commit (Some done) meant plain is = by done.refused is
  where
    gone : Meant
    gone = record { answers = done.answers; tables = tables; settings = settings; writes = []; reads = done.reads; rest = done.rest }

    stays : Meant
    stays = record { answers = done.answers ++ commit_answer commit; tables = with_writes tables done.writes; settings = settings; writes = done.writes; reads = done.reads; rest = done.rest }

    by : (b : Bool) → (if b then Some gone else Some stays) ≡ Some meant → Ending (call.Work statements commit) meant
    by true is = plain-ending (call.Work statements commit) meant (subst (λ (m : Meant). AllPlain m.answers) (some_is gone meant is) (plain done refl))
    by false is = done-ending statements commit done.answers meant (plain done refl) (sym (ap (λ (m : Meant). m.answers) (some_is stays meant is)))

-- A work call that means no commit ends no transaction, and one that means a commit is one.
pub work-ending : (shape : Shape) (tables : List PlainRow) (settings : List (List ℕ × Value)) (statements : List Statement) (commit : Bool) (draws : List Draw) (meant : Meant) → mean shape tables settings (call.Work statements commit) draws ≡ Some meant → Ending (call.Work statements commit) meant
work-ending shape tables settings statements commit draws meant is =
    worked-ending tables settings statements commit (statements_done shape tables settings statements draws) meant (λ done e. statements-plain shape statements tables settings draws done e) is

-- answers with a commit's answer in the place of the commit still end a transaction
last-with : (before : Option Answer) (first : Answer) (more : List Answer) (last : Answer) → last_or before (with_last (first ∷ more) last) ≡ Some last
last-with before first [] last = refl
last-with before first (next ∷ more) last = last-with (Some first) next more last

pub with-ends : (answers : List Answer) (last : Answer) → ends_committed answers ≡ true → is_ending last ≡ true → ends (with_last answers last) ≡ true
with-ends [] last is ending = false_true is
with-ends (first ∷ more) last is ending = ap (λ a. option_map_or is_ending a false) (last-with None first more last) ∙ ending

pub with-not : (answers : List Answer) (last : Answer) → is_committed last ≡ false → ends_committed (with_last answers last) ≡ false
with-not [] last not = refl
with-not (first ∷ more) last not = ap (λ a. option_map_or is_committed a false) (last-with None first more last) ∙ not

commit-is : (a : Answer) → is_committed a ≡ true → is_ending a ≡ true
commit-is (answer.Done n) is = cc
commit-is (answer.Rows rows) is = cc
commit-is (answer.Number n) is = cc
commit-is (answer.Refused fault) is = cc
commit-is answer.Committed is = refl
commit-is answer.Conflict is = cc
commit-is answer.RolledBack is = cc
commit-is answer.CommitInReplay is = cc

commit-last : (last : Option Answer) → option_map_or is_committed last false ≡ true → option_map_or is_ending last false ≡ true
commit-last None is = is
commit-last (Some a) is = commit-is a is

-- a commit ends a transaction
pub commit-ends : (answers : List Answer) → ends_committed answers ≡ true → ends answers ≡ true
commit-ends answers is = commit-last (last_or None answers) is

worked-settings : (tables : List PlainRow) (settings : List (List ℕ × Value)) (commit : Bool) (found : Option AllDone) (meant : Meant) → worked tables settings commit found ≡ Some meant → meant.settings ≡ settings
worked-settings tables settings commit None meant is = cc
worked-settings tables settings commit (Some done) meant is = by done.refused is
  where
    gone : Meant
    gone = record { answers = done.answers; tables = tables; settings = settings; writes = []; reads = done.reads; rest = done.rest }

    stays : Meant
    stays = record { answers = done.answers ++ commit_answer commit; tables = with_writes tables done.writes; settings = settings; writes = done.writes; reads = done.reads; rest = done.rest }

    by : (b : Bool) → (if b then Some gone else Some stays) ≡ Some meant → meant.settings ≡ settings
    by true is = sym (ap (λ (m : Meant). m.settings) (some_is gone meant is))
    by false is = sym (ap (λ (m : Meant). m.settings) (some_is stays meant is))

-- a work call leaves the settings
pub work-settings : (shape : Shape) (tables : List PlainRow) (settings : List (List ℕ × Value)) (statements : List Statement) (commit : Bool) (draws : List Draw) (meant : Meant) → mean shape tables settings (call.Work statements commit) draws ≡ Some meant → meant.settings ≡ settings
work-settings shape tables settings statements commit draws meant is = worked-settings tables settings commit (statements_done shape tables settings statements draws) meant is
