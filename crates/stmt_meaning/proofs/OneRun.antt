-- One statement that ran, its draws taken from a source.
use Rattle.std.proofs.Common.{◌≡◌, inl, List, [], ◌++◌, refl, sym, ap, ◌∙◌, append-nil}
use Rattle.std.specs.Prelude.{Option, Some, None, Result, Ok, Err, option_map, option_to_list}
use Rattle.svc_values.specs.declared.value.Value.{Value}
use Rattle.svc_values.specs.declared.schema.Shape.{Shape}
use Rattle.svc_values.specs.declared.draw.Draw.{Draw}
use Rattle.svc_values.specs.declared.statement.Statement.{Statement}
use Rattle.svc_values.specs.declared.answer.Answer.TheVariants as answer
use Rattle.svc_values.specs.declared.answer.StatementFault.{StatementFault}
use Rattle.svc_values.specs.declared.tables.PlainRow.{PlainRow}
use Rattle.svc_values.specs.meaning.Calls.{operands_of}
use Rattle.svc_values.specs.meaning.SettingsList.{NamedValues}
use Rattle.stmt_meaning.specs.declared.plan.Plan.{Plan}
use Rattle.stmt_meaning.specs.declared.effect.Effect.{Effect}
use Rattle.stmt_meaning.specs.declared.fault.TxnFault.{TxnFault}
use Rattle.stmt_meaning.specs.declared.fault.TxnFault.TheVariants as txn_fault
use Rattle.stmt_meaning.specs.meaning.Operands.{Reading, ◌>>=◌, values_of}
use Rattle.stmt_meaning.specs.meaning.Plans.{Aim, aim_of, place_of, plan_for, plan_at, plan_of}
use Rattle.stmt_meaning.specs.meaning.Effects.{effect}
use Rattle.stmt_meaning.specs.meaning.Meaning.{OneDone, seen_at, done_at, mean1}
use Rattle.stmt_meaning.specs.Drawing.{Drew, Ends}
use Rattle.stmt_meaning.specs.InnerReading.{ReadsAll, left_of}
use Rattle.stmt_meaning.specs.InnerRunning.{RanOne, one_left, one_of}
use Rattle.stmt_meaning.proofs.Asking.{plan_of-more, enough_values}
use Rattle.stmt_meaning.proofs.Drawn.{ends_as}

-- the draws that are left by what was read
same_rest : (rows : List PlainRow) (read : Reading Plan) → option_map (λ (one : OneDone). one.rest) (done_at rows read) ≡ option_map (λ come. come.1) read
same_rest rows None = refl
same_rest rows (Some (Err refusal, left)) = refl
same_rest rows (Some (Ok plan, left)) = refl

-- a statement leaves the draws that are behind those that it asks for
pub mean1-more : (shape : Shape) (rows : List PlainRow) (settings : NamedValues) (asked : Statement) (ds more : List Draw) (one : OneDone) → mean1 shape rows settings asked ds ≡ Some one
    → mean1 shape rows settings asked (ds ++ more) ≡ Some (record one { rest = one.rest ++ more })
mean1-more shape rows settings asked ds more one means = by_read (plan_of shape settings asked ds) refl means
  where
    longer : Option OneDone → Option OneDone
    longer o = option_map (λ (q : OneDone). let r : OneDone = record q { rest = q.rest ++ more } in r) o

    by_read : (read : Reading Plan) → plan_of shape settings asked ds ≡ read → done_at rows read ≡ Some one → done_at rows (plan_of shape settings asked (ds ++ more)) ≡ longer (Some one)
    by_read None e m = cc
    by_read (Some (Err refusal, left)) e m = ap (done_at rows) (plan_of-more shape settings asked ds more left (Err refusal) e) ∙ ap longer m
    by_read (Some (Ok plan, left)) e m = ap (done_at rows) (plan_of-more shape settings asked ds more left (Ok plan) e) ∙ ap longer m

-- draws with which a statement comes to something, all of which it asks for
pub enough_one : (shape : Shape) (rows : List PlainRow) (settings : NamedValues) (asked : Statement) → (ds : List Draw) × ((one : OneDone) × ((mean1 shape rows settings asked ds ≡ Some one) × (one.rest ≡ [])))
enough_one shape rows settings asked = let plan = by_aim (aim_of shape.schemas asked) in (plan.0, done plan.1.0 (plan_of shape settings asked plan.0) plan.1.1)
  where
    then_plan : Aim → Reading (List Value) → Reading Plan
    then_plan aim read = read >>= λ values left. Some (plan_for aim asked values, left)

    by_values : (aim : Aim) (ds : List Draw) (r : Result (List Value) StatementFault) → values_of shape.sequences settings (operands_of asked) ds ≡ Some (r, []) → (s : Result Plan StatementFault) × (plan_at shape settings asked ds (Ok aim) ≡ Some (s, []))
    by_values aim ds (Ok values) e = (plan_for aim asked values, ap (λ read. read >>= λ v left. let come : Reading Plan = Some (plan_for aim asked v, left) in come) e)
    by_values aim ds (Err refusal) e = (Err refusal, ap (λ read. read >>= λ v left. let come : Reading Plan = Some (plan_for aim asked v, left) in come) e)

    by_aim : (aim : Result Aim StatementFault) → (ds : List Draw) × ((r : Result Plan StatementFault) × (plan_at shape settings asked ds aim ≡ Some (r, [])))
    by_aim (Err refusal) = ([], (Err refusal, refl))
    by_aim (Ok aim) = let values = enough_values shape.sequences settings (operands_of asked) in (values.0, by_values aim values.0 values.1.0 values.1.1)

    done : (r : Result Plan StatementFault) (read : Reading Plan) → read ≡ Some (r, []) → (one : OneDone) × ((done_at rows read ≡ Some one) × (one.rest ≡ []))
    done (Err refusal) read e = (_, (ap (done_at rows) e, refl))
    done (Ok plan) read e = (_, (ap (done_at rows) e, refl))

module _ {S : Type 0} (drew : S → Drew → S → Type 0) (shape : Shape) (rows : List PlainRow) (settings : NamedValues) (statement : Statement) (old : S) (before : List Draw) where
  abbrev plans : List Draw → Reading Plan
  plans = λ given. plan_of shape settings statement given

  abbrev left : List Draw → Option (List Draw)
  left = one_left shape rows settings statement

  -- a plan that was done
  pub ran_plan : (plan : Plan) (new : S) (after : List Draw) → ReadsAll drew plans old before (Ok plan) new after → (effected : Effect) → effected ≡ effect plan (seen_at rows (place_of plan))
      → RanOne drew shape rows settings statement old before (one_of effected (option_to_list (place_of plan))) new after
  ran_plan plan new after read effected is = record {
    given = read.given;
    drew_all = read.drew_all;
    behind = read.behind;
    means = ap (done_at rows) read.reads ∙ ap (λ (done : Effect). Some (one_of done (option_to_list (place_of plan)))) (sym is);
    used = refl;
  }

  -- a statement that was refused before it read
  pub ran_refused : (refusal : StatementFault) (new : S) (after : List Draw) → ReadsAll drew plans old before (Err refusal) new after
      → RanOne drew shape rows settings statement old before (record { answer = answer.Refused refusal; writes = []; reads = []; rest = [] }) new after
  ran_refused refusal new after read = record {
    given = read.given;
    drew_all = read.drew_all;
    behind = read.behind;
    means = ap (done_at rows) read.reads;
    used = refl;
  }

  -- one that was ended before it read
  pub ended_plan : (fault : TxnFault) (new : S) → Ends drew (left_of plans) old fault new → Ends drew left old fault new
  ended_plan fault new e = ends_as drew (left_of plans) left (λ given. same_rest rows (plans given)) old fault new e

  -- no memory to do a plan
  pub lacks_work : (plan : Plan) (new : S) (after : List Draw) → ReadsAll drew plans old before (Ok plan) new after → Ends drew left old txn_fault.NoMemory new
  lacks_work plan new after read = record {
    given = read.given;
    between = new;
    drew_all = read.drew_all;
    more = [];
    asked = ap left (append-nil read.given) ∙ same_rest rows (plans read.given) ∙ ap (option_map (λ come. come.1)) read.reads;
    because = inl refl;
  }

  -- no memory behind a statement that ran
  pub lacks_behind : (one : OneDone) (new : S) (after : List Draw) → RanOne drew shape rows settings statement old before one new after → Ends drew left old txn_fault.NoMemory new
  lacks_behind one new after ran = record {
    given = ran.given;
    between = new;
    drew_all = ran.drew_all;
    more = [];
    asked = ap left (append-nil ran.given) ∙ ap (option_map (λ (q : OneDone). q.rest)) ran.means ∙ ap (λ (l : List Draw). Some l) ran.used;
    because = inl refl;
  }
