-- A call that took all its draws leaves those that stand behind them.
use Rattle.std.proofs.Common.{◌≡◌, Bool, true, false, cond, List, [], ◌∷◌, ◌++◌, Option, refl, ap, ◌∙◌}
use Rattle.std.specs.Prelude.{Some, None}
use Rattle.svc_values.specs.declared.draw.Draw.{Draw}
use Rattle.svc_values.specs.declared.schema.Shape.{Shape}
use Rattle.svc_values.specs.declared.statement.Statement.{Statement}
use Rattle.svc_values.specs.declared.call.Call.{Call}
use Rattle.svc_values.specs.declared.call.Call.TheVariants as call
use Rattle.svc_values.specs.declared.tables.PlainRow.{PlainRow}
use Rattle.svc_values.specs.meaning.SettingsList.{NamedValues}
use Rattle.svc_values.specs.meaning.Tables.{with_writes}
use Rattle.stmt_meaning.specs.meaning.Meaning.{OneDone, AllDone, Meant, mean1, is_refusal, ended_by, after_first, and_on, statements_done, worked, commit_answer, mean}
use Rattle.stmt_meaning.proofs.Offered.{mean1-more}

-- ---- statements

abbrev all_behind : List Draw → Option AllDone → Option AllDone
all_behind more None = None
all_behind more (Some done) = Some (record done { rest = done.rest ++ more })

first_more : (one : OneDone) (more : List Draw) (behind long : Option AllDone) → ((done : AllDone) → behind ≡ Some done → long ≡ Some (record done { rest = done.rest ++ more }))
    → (done : AllDone) → after_first one behind ≡ Some done → after_first (record one { rest = one.rest ++ more }) long ≡ Some (record done { rest = done.rest ++ more })
first_more one more None long goes done e = cc
first_more one more (Some others) long goes done e = ap (after_first (record one { rest = one.rest ++ more })) (goes others refl) ∙ ap (all_behind more) e

on_more : (more : List Draw) (first long : Option OneDone) (next : OneDone → Option AllDone) → ((one : OneDone) → first ≡ Some one → long ≡ Some (record one { rest = one.rest ++ more }))
    → ((one : OneDone) (done : AllDone) → next one ≡ Some done → next (record one { rest = one.rest ++ more }) ≡ Some (record done { rest = done.rest ++ more }))
    → (done : AllDone) → and_on first next ≡ Some done → and_on long next ≡ Some (record done { rest = done.rest ++ more })
on_more more None long next goes on done e = cc
on_more more (Some one) long next goes on done e = ap (λ o. and_on o next) (goes one refl) ∙ by_refusal (is_refusal one.answer) (next one) (next (record one { rest = one.rest ++ more })) (on one) done e
  where
    by_refusal : (b : Bool) (behind long_behind : Option AllDone) → ((done : AllDone) → behind ≡ Some done → long_behind ≡ Some (record done { rest = done.rest ++ more })) → (done : AllDone)
        → cond b (ended_by one) (after_first one behind) ≡ Some done → cond b (ended_by (record one { rest = one.rest ++ more })) (after_first (record one { rest = one.rest ++ more }) long_behind) ≡ Some (record done { rest = done.rest ++ more })
    by_refusal true behind long_behind further done e = ap (all_behind more) e
    by_refusal false behind long_behind further done e = first_more one more behind long_behind further done e

statements_more : (shape : Shape) (tables : List PlainRow) (settings : NamedValues) (statements : List Statement) (ds more : List Draw) (done : AllDone)
    → statements_done shape tables settings statements ds ≡ Some done → statements_done shape tables settings statements (ds ++ more) ≡ Some (record done { rest = done.rest ++ more })
statements_more shape tables settings [] ds more done e = ap (all_behind more) e
statements_more shape tables settings (first ∷ rest) ds more done e =
    on_more more (mean1 shape tables settings first ds) (mean1 shape tables settings first (ds ++ more)) (λ one. statements_done shape (with_writes tables one.writes) settings rest one.rest)
    (λ one h. mean1-more shape tables settings first ds more one h)
    (λ one others h. statements_more shape (with_writes tables one.writes) settings rest one.rest more others h)
    done e

-- ---- calls

abbrev meant_behind : List Draw → Option Meant → Option Meant
meant_behind more None = None
meant_behind more (Some meant) = Some (record meant { rest = meant.rest ++ more })

worked_more : (tables : List PlainRow) (settings : NamedValues) (commit : Bool) (more : List Draw) (all long : Option AllDone) → ((done : AllDone) → all ≡ Some done → long ≡ Some (record done { rest = done.rest ++ more }))
    → (meant : Meant) → worked tables settings commit all ≡ Some meant → worked tables settings commit long ≡ Some (record meant { rest = meant.rest ++ more })
worked_more tables settings commit more None long goes meant e = cc
worked_more tables settings commit more (Some done) long goes meant e = ap (worked tables settings commit) (goes done refl) ∙ by_refusal done.refused e
  where
    by_refusal : (b : Bool)
        → cond b (Some (record { answers = done.answers; tables = tables; settings = settings; writes = []; reads = done.reads; rest = done.rest }))
        (Some (record { answers = done.answers ++ commit_answer commit; tables = with_writes tables done.writes; settings = settings; writes = done.writes; reads = done.reads; rest = done.rest })) ≡ Some meant
        → cond b (Some (record { answers = done.answers; tables = tables; settings = settings; writes = []; reads = done.reads; rest = done.rest ++ more }))
        (Some (record { answers = done.answers ++ commit_answer commit; tables = with_writes tables done.writes; settings = settings; writes = done.writes; reads = done.reads; rest = done.rest ++ more })) ≡ Some (record meant { rest = meant.rest ++ more })
    by_refusal true e = ap (meant_behind more) e
    by_refusal false e = ap (meant_behind more) e

-- with more draws behind those that it takes, a work call does the same
pub work_more : (shape : Shape) (tables : List PlainRow) (settings : NamedValues) (statements : List Statement) (commit : Bool) (ds more : List Draw) (meant : Meant)
    → mean shape tables settings (call.Work statements commit) ds ≡ Some meant → mean shape tables settings (call.Work statements commit) (ds ++ more) ≡ Some (record meant { rest = meant.rest ++ more })
work_more shape tables settings statements commit ds more meant e =
    worked_more tables settings commit more (statements_done shape tables settings statements ds) (statements_done shape tables settings statements (ds ++ more))
    (λ done h. statements_more shape tables settings statements ds more done h) meant e

-- and so does each call
pub call_more : (shape : Shape) (tables : List PlainRow) (settings : NamedValues) (called : Call) (ds more : List Draw) (meant : Meant)
    → mean shape tables settings called ds ≡ Some meant → mean shape tables settings called (ds ++ more) ≡ Some (record meant { rest = meant.rest ++ more })
call_more shape tables settings (call.Work statements commit) ds more meant e = work_more shape tables settings statements commit ds more meant e
call_more shape tables settings (call.Set name x) ds more meant e = ap (meant_behind more) e
call_more shape tables settings (call.Alter line) ds more meant e = ap (meant_behind more) e
call_more shape tables settings call.Disable ds more meant e = ap (meant_behind more) e
call_more shape tables settings call.Rollback ds more meant e = ap (meant_behind more) e
