-- A statement is answered neither Committed, nor RolledBack, nor CommitInReplay. So what a work
-- call means ends neither with RolledBack nor with CommitInReplay, and with Committed only where it
-- has a commit.
use Rattle.std.proofs.Common.{◌≡◌, refl, sym, ap, subst, ◌∙◌, Bool, true, false, ℕ, ◌&&◌, List, [], ◌∷◌, ◌++◌, Option, Some, None, if◌then◌else◌}
use Rattle.std.specs.Prelude.{ℤ, ◌+ℤ◌, Ok, Err, nat_lt, not, length, option_to_list, slice_set}
use Rattle.std.specs.List.{list_all, last_or}
use Rattle.std.specs.Option.{option_map_or}
use Rattle.std.proofs.lemmas.Bool.{and_parts, and_from, not-true}
use Rattle.svc_values.specs.declared.answer.Answer.{Answer}
use Rattle.svc_values.specs.declared.answer.Answer.TheVariants as answer
use Rattle.svc_values.specs.declared.answer.StatementFault.TheVariants as fault
use Rattle.svc_values.specs.declared.call.Call.TheVariants as call
use Rattle.svc_values.specs.declared.draw.Draw.{Draw}
use Rattle.svc_values.specs.declared.schema.Shape.{Shape}
use Rattle.svc_values.specs.declared.statement.Statement.{Statement}
use Rattle.svc_values.specs.declared.tables.PlainRow.{PlainRow}
use Rattle.svc_values.specs.declared.value.Value.{Value}
use Rattle.svc_values.specs.declared.value.Value.TheVariants as value
use Rattle.svc_values.specs.meaning.Endings.{is_committed, is_rolled_back, ends_committed, ends_with}
use Rattle.svc_values.specs.meaning.SettingsList.{NamedValues}
use Rattle.svc_values.specs.meaning.Tables.{with_writes}
use Rattle.svc_values.specs.meaning.Tests.{selected}
use Rattle.stmt_meaning.specs.declared.effect.Effect.{Effect}
use Rattle.stmt_meaning.specs.declared.plan.Plan.{Plan}
use Rattle.stmt_meaning.specs.declared.plan.Plan.TheVariants as plan
use Rattle.stmt_meaning.specs.declared.plan.RowWork.{RowWork}
use Rattle.stmt_meaning.specs.declared.plan.RowWork.TheVariants as row_work
use Rattle.stmt_meaning.specs.declared.plan.TableWork.{TableWork}
use Rattle.stmt_meaning.specs.declared.plan.TableWork.TheVariants as table_work
use Rattle.stmt_meaning.specs.meaning.Effects.{fits_i64, number_at, total, wrote, refused, row_effect, table_answer, first_of, effect}
use Rattle.stmt_meaning.specs.meaning.Meaning.{seen_at, OneDone, done_at, mean1, AllDone, after_first, ended_by, and_on, statements_done, is_refusal, commit_answer, Meant, worked, mean}
use Rattle.stmt_meaning.specs.meaning.Operands.{Reading}
use Rattle.stmt_meaning.specs.meaning.Plans.{plan_of, place_of}
use Rattle.once_laws.specs.CallEndings.{ends_rolled_back}
use Rattle.invariant_laws.specs.Same.{is_no_commit}
use Rattle.world_model.proofs.Offered.{append_all, weaker_all, not_both}

-- neither Committed, nor RolledBack, nor CommitInReplay
abbrev is_plain : Answer → Bool
is_plain a = not (is_committed a) && (not (is_rolled_back a) && not (is_no_commit a))

-- ONE STATEMENT -----------------------------------------------------------------------------------

either_plain : (test : Bool) (one other : Effect) → is_plain one.answer ≡ true → is_plain other.answer ≡ true → is_plain (if test then one else other).answer ≡ true
either_plain true one other first second = first
either_plain false one other first second = second

one_plain : (test : Bool) (one other : Answer) → is_plain one ≡ true → is_plain other ≡ true → is_plain (if test then one else other) ≡ true
one_plain true one other first second = first
one_plain false one other first second = second

row_plain : (table : List ℕ) (key : Value) (work : RowWork) (found : Option (List Value)) → is_plain (row_effect table key work found).answer ≡ true
row_plain table key (row_work.Insert row) None = refl
row_plain table key (row_work.Insert row) (Some there) = refl
row_plain table key (row_work.Set at to) None = refl
row_plain table key (row_work.Set at to) (Some there) = refl
row_plain table key (row_work.Add at more) None = refl
row_plain table key (row_work.Add at more) (Some there) =
    let sum : ℤ = number_at there at +ℤ more in
    either_plain (fits_i64 sum) (wrote table key (Some (slice_set there at (value.Int sum)))) (refused fault.SumRange) refl refl
row_plain table key row_work.Delete None = refl
row_plain table key row_work.Delete (Some there) = refl
row_plain table key row_work.Get None = refl
row_plain table key row_work.Get (Some there) = refl

table_plain : (work : TableWork) (rows : List (List Value)) → is_plain (table_answer work rows) ≡ true
table_plain (table_work.Select at compared than) rows =
    let some : List (List Value) = selected at compared than rows in one_plain (nat_lt 32 (length some)) (answer.Refused fault.TooManyRows) (answer.Rows some) refl refl
table_plain table_work.Count rows = refl
table_plain (table_work.Sum at) rows = one_plain (fits_i64 (total at rows)) (answer.Number (total at rows)) (answer.Refused fault.SumRange) refl refl

effect_plain : (asked : Plan) (rows : List (List Value)) → is_plain (effect asked rows).answer ≡ true
effect_plain (plan.AtRow table key work) rows = row_plain table key work (first_of rows)
effect_plain (plan.InTable table work) rows = table_plain work rows
effect_plain (plan.Show shown) rows = refl

done_plain : (tables : List PlainRow) (reading : Reading Plan) (one : OneDone) → done_at tables reading ≡ Some one → is_plain one.answer ≡ true
done_plain tables None one is = absurd (let none : ⊥ = cc in none)
done_plain tables (Some (Err refusal, left)) one is =
    let same : record { answer = answer.Refused refusal; writes = []; reads = []; rest = left } ≡ one = cc in ap (λ (o : OneDone). is_plain o.answer) (sym same)
done_plain tables (Some (Ok asked, left)) one is =
    let done : Effect = effect asked (seen_at tables (place_of asked)) in
    let same : record { answer = done.answer; writes = option_to_list done.write; reads = option_to_list (place_of asked); rest = left } ≡ one = cc in
    ap (λ (o : OneDone). is_plain o.answer) (sym same) ∙ effect_plain asked (seen_at tables (place_of asked))

-- ALL STATEMENTS ----------------------------------------------------------------------------------

module _ (shape : Shape) (settings : NamedValues) where
  abbrev rest_of : List PlainRow → List Statement → OneDone → Option AllDone
  rest_of tables statements one = statements_done shape (with_writes tables one.writes) settings statements one.rest

  behind_plain : (one : OneDone) (next : Option AllDone) (done : AllDone) → is_plain one.answer ≡ true → ((more : AllDone) → next ≡ Some more → list_all is_plain more.answers ≡ true) → after_first one next ≡ Some done → list_all is_plain done.answers ≡ true
  behind_plain one None done first later is = absurd (let none : ⊥ = cc in none)
  behind_plain one (Some more) done first later is =
      let same : record { answers = one.answer ∷ more.answers; writes = one.writes ++ more.writes; reads = one.reads ++ more.reads; rest = more.rest; refused = more.refused } ≡ done = cc in
      ap (λ (d : AllDone). list_all is_plain d.answers) (sym same) ∙ and_from (is_plain one.answer) (list_all is_plain more.answers) first (later more refl)

  goes_plain : (one : OneDone) (next : Option AllDone) (done : AllDone) (refusal : Bool) → is_plain one.answer ≡ true → ((more : AllDone) → next ≡ Some more → list_all is_plain more.answers ≡ true) → (if refusal then ended_by one else after_first one next) ≡ Some done
      → list_all is_plain done.answers ≡ true
  goes_plain one next done true first later is =
      let same : record { answers = one.answer ∷ []; writes = []; reads = one.reads; rest = one.rest; refused = true } ≡ done = cc in
      ap (λ (d : AllDone). list_all is_plain d.answers) (sym same) ∙ and_from (is_plain one.answer) true first refl
  goes_plain one next done false first later is = behind_plain one next done first later is

  all_plain : (tables : List PlainRow) (statements : List Statement) (draws : List Draw) (done : AllDone) → statements_done shape tables settings statements draws ≡ Some done → list_all is_plain done.answers ≡ true
  all_plain tables [] draws done is =
      let same : record { answers = []; writes = []; reads = []; rest = draws; refused = false } ≡ done = cc in ap (λ (d : AllDone). list_all is_plain d.answers) (sym same)
  all_plain tables (first ∷ statements) draws done is =
      by (mean1 shape tables settings first draws) refl (λ one more so. all_plain (with_writes tables one.writes) statements one.rest more so) is
    where
      by : (one : Option OneDone) → mean1 shape tables settings first draws ≡ one → ((o : OneDone) (more : AllDone) → rest_of tables statements o ≡ Some more → list_all is_plain more.answers ≡ true) → and_on one (rest_of tables statements) ≡ Some done → list_all is_plain done.answers ≡ true
      by None means later is = absurd (let none : ⊥ = cc in none)
      by (Some one) means later is = goes_plain one (rest_of tables statements one) done (is_refusal one.answer) (done_plain tables (plan_of shape settings first draws) one means) (later one) is

-- A CALL ------------------------------------------------------------------------------------------

ends_none : (test : Answer → Bool) (found : Option Answer) (answers : List Answer) → option_map_or test found false ≡ false → list_all (λ a. not (test a)) answers ≡ true → option_map_or test (last_or found answers) false ≡ false
ends_none test found [] none all = none
ends_none test found (a ∷ answers) none all = let parts = and_parts (not (test a)) (list_all (λ one. not (test one)) answers) all in ends_none test (Some a) answers (not-true (test a) parts.0) parts.1

never_committed : (answers : List Answer) → list_all is_plain answers ≡ true → list_all (λ a. not (is_committed a)) answers ≡ true
never_committed answers all = weaker_all is_plain (λ a. not (is_committed a)) answers (λ a is. (and_parts (not (is_committed a)) (not (is_rolled_back a) && not (is_no_commit a)) is).0) all

never_rolled : (answers : List Answer) → list_all is_plain answers ≡ true → list_all (λ a. not (is_rolled_back a)) answers ≡ true
never_rolled answers all = weaker_all is_plain (λ a. not (is_rolled_back a)) answers (λ a is. (and_parts (not (is_rolled_back a)) (not (is_no_commit a)) (and_parts (not (is_committed a)) (not (is_rolled_back a) && not (is_no_commit a)) is).1).0) all

never_refused : (answers : List Answer) → list_all is_plain answers ≡ true → list_all (λ a. not (is_no_commit a)) answers ≡ true
never_refused answers all =
    weaker_all is_plain (λ a. not (is_no_commit a)) answers (λ a is. (and_parts (not (is_rolled_back a)) (not (is_no_commit a)) (and_parts (not (is_committed a)) (not (is_rolled_back a) && not (is_no_commit a)) is).1).1) all

-- what a work call means
pub record WorksPlainly (commit : Bool) (answers : List Answer) : Type 0 where
  pub rolled : ends_rolled_back answers ≡ false
  pub refused : ends_with is_no_commit answers ≡ false
  pub committed : ends_committed answers ≡ true → commit ≡ true

commit_plainly : (commit : Bool) (answers : List Answer) → list_all is_plain answers ≡ true → WorksPlainly commit (answers ++ commit_answer commit)
commit_plainly true answers all = record {
  rolled = ends_none is_rolled_back None (answers ++ answer.Committed ∷ []) refl (append_all (λ a. not (is_rolled_back a)) answers (answer.Committed ∷ []) (never_rolled answers all) refl);
  refused = ends_none is_no_commit None (answers ++ answer.Committed ∷ []) refl (append_all (λ a. not (is_no_commit a)) answers (answer.Committed ∷ []) (never_refused answers all) refl);
  committed = λ is. refl;
}
commit_plainly false answers all = record {
  rolled = ends_none is_rolled_back None (answers ++ []) refl (append_all (λ a. not (is_rolled_back a)) answers [] (never_rolled answers all) refl);
  refused = ends_none is_no_commit None (answers ++ []) refl (append_all (λ a. not (is_no_commit a)) answers [] (never_refused answers all) refl);
  committed = λ is.
      let none : ends_committed (answers ++ []) ≡ false = ends_none is_committed None (answers ++ []) refl (append_all (λ a. not (is_committed a)) answers [] (never_committed answers all) refl) in
      absurd (not_both (ends_committed (answers ++ [])) is none);
}

refused_plainly : (commit : Bool) (answers : List Answer) → list_all is_plain answers ≡ true → WorksPlainly commit answers
refused_plainly commit answers all = record {
  rolled = ends_none is_rolled_back None answers refl (never_rolled answers all);
  refused = ends_none is_no_commit None answers refl (never_refused answers all);
  committed = λ is. absurd (not_both (ends_committed answers) is (ends_none is_committed None answers refl (never_committed answers all)));
}

worked_plainly : (tables : List PlainRow) (settings : NamedValues) (commit : Bool) (found : Option AllDone) (meant : Meant) → ((done : AllDone) → found ≡ Some done → list_all is_plain done.answers ≡ true) → worked tables settings commit found ≡ Some meant
    → WorksPlainly commit meant.answers
worked_plainly tables settings commit None meant all is = absurd (let none : ⊥ = cc in none)
worked_plainly tables settings commit (Some done) meant all is = by done.refused is
  where
    by : (refused : Bool)
        → (if refused
        then Some (record { answers = done.answers; tables = tables; settings = settings; writes = []; reads = done.reads; rest = done.rest })
        else Some (record { answers = done.answers ++ commit_answer commit; tables = with_writes tables done.writes; settings = settings; writes = done.writes; reads = done.reads; rest = done.rest })) ≡ Some meant → WorksPlainly commit meant.answers
    by true is =
        let same : record { answers = done.answers; tables = tables; settings = settings; writes = []; reads = done.reads; rest = done.rest } ≡ meant = cc in
        subst (λ (m : Meant). WorksPlainly commit m.answers) same (refused_plainly commit done.answers (all done refl))
    by false is =
        let same : record { answers = done.answers ++ commit_answer commit; tables = with_writes tables done.writes; settings = settings; writes = done.writes; reads = done.reads; rest = done.rest } ≡ meant = cc in
        subst (λ (m : Meant). WorksPlainly commit m.answers) same (commit_plainly commit done.answers (all done refl))

pub work_plainly : (shape : Shape) (tables : List PlainRow) (settings : NamedValues) (statements : List Statement) (commit : Bool) (draws : List Draw) (meant : Meant) → mean shape tables settings (call.Work statements commit) draws ≡ Some meant → WorksPlainly commit meant.answers
work_plainly shape tables settings statements commit draws meant is =
    worked_plainly tables settings commit (statements_done shape tables settings statements draws) meant (λ done so. all_plain shape settings tables statements draws done so) is
