-- The plan of a statement whose operands are read from a source.
use Rattle.std.proofs.Common.{◌≡◌, List, [], refl, sym, ap, ◌∙◌, append-nil}
use Rattle.std.specs.Prelude.{Some, None, Result, Ok, Err, option_map}
use Rattle.svc_values.specs.declared.value.Value.{Value}
use Rattle.svc_values.specs.declared.schema.Shape.{Shape}
use Rattle.svc_values.specs.declared.draw.Draw.{Draw}
use Rattle.svc_values.specs.declared.statement.Statement.{Statement}
use Rattle.svc_values.specs.declared.answer.StatementFault.{StatementFault}
use Rattle.stmt_meaning.specs.declared.plan.Plan.{Plan}
use Rattle.stmt_meaning.specs.declared.planning.PlanFault.{PlanFault}
use Rattle.stmt_meaning.specs.declared.planning.PlanFault.TheVariants as plan_fault
use Rattle.stmt_meaning.specs.InnerAnswers.{IsRefusedAs}
use Rattle.stmt_meaning.specs.meaning.Operands.{Reading, ◌>>=◌, values_of}
use Rattle.stmt_meaning.specs.meaning.Plans.{Aim, aim_of, plan_for, plan_at, plan_of}
use Rattle.svc_values.specs.meaning.Calls.{operands_of}
use Rattle.stmt_meaning.specs.declared.fault.TxnFault.{TxnFault}
use Rattle.stmt_meaning.specs.declared.stop.Stop.{Stop}
use Rattle.stmt_meaning.specs.declared.stop.Stop.TheVariants as stop
use Rattle.stmt_meaning.specs.Drawing.{Drew, Ends}
use Rattle.stmt_meaning.specs.InnerReading.{ReadsAll, HasRead, left_of}
use Rattle.stmt_meaning.specs.InnerStops.{stop_of_plan}
use Rattle.stmt_meaning.proofs.Drawn.{lacking, ends_as}
use Rattle.svc_values.specs.meaning.SettingsList.{NamedValues}

module _ {S : Type 0} (drew : S → Drew → S → Type 0) (shape : Shape) (settings : NamedValues) (asked : Statement) (old : S) (before : List Draw) where
  abbrev plans : List Draw → Reading Plan
  plans = λ given. plan_of shape settings asked given

  abbrev reads : List Draw → Reading (List Value)
  reads = λ given. values_of shape.sequences settings (operands_of asked) given

  -- a fault of the names, before anything is drawn
  pub named : (refusal : StatementFault) → aim_of shape.schemas asked ≡ Err refusal → ReadsAll drew plans old before (Err refusal) old before
  named refusal e = record { given = []; drew_all = refl; behind = sym (append-nil before); reads = ap (plan_at shape settings asked []) e }

  module _ (aim : Aim) (found : aim_of shape.schemas asked ≡ Ok aim) (new : S) (after : List Draw) where
    abbrev then_plan : Reading (List Value) → Reading Plan
    then_plan read = read >>= λ values left. Some (plan_for aim asked values, left)

    plan_is : (given : List Draw) → plans given ≡ then_plan (reads given)
    plan_is given = ap (plan_at shape settings asked given) found

    same_left : (read : Reading (List Value)) → option_map (λ c. c.1) read ≡ option_map (λ c. c.1) (then_plan read)
    same_left None = refl
    same_left (Some (Ok values, left)) = refl
    same_left (Some (Err refusal, left)) = refl

    ended : (fault : TxnFault) → Ends drew (left_of reads) old fault new → Ends drew (left_of plans) old fault new
    ended fault e = ends_as drew (left_of reads) (left_of plans) (λ given. ap (option_map (λ c. c.1)) (plan_is given) ∙ sym (same_left (reads given))) old fault new e

    pub values_fail : (e : Stop) → HasRead drew reads old before (Err e) new after → HasRead drew plans old before (Err e) new after
    values_fail (stop.Ended fault) e = ended fault e
    values_fail (stop.Refused refusal) read = record { given = read.given; drew_all = read.drew_all; behind = read.behind; reads = plan_is read.given ∙ ap then_plan read.reads }

    module _ (values : List Value) (read : ReadsAll drew reads old before (Ok values) new after) where
      come : (outcome : Result Plan StatementFault) → plan_for aim asked values ≡ outcome → ReadsAll drew plans old before outcome new after
      come outcome is = record {
        given = read.given;
        drew_all = read.drew_all;
        behind = read.behind;
        reads = plan_is read.given ∙ ap then_plan read.reads ∙ ap (λ o. let r : Reading Plan = Some (o, []) in r) is;
      }

      pub planned : (plan : Plan) → plan_for aim asked values ≡ Ok plan → ReadsAll drew plans old before (Ok plan) new after
      planned plan is = come (Ok plan) is

      pub plan_fails : (e : PlanFault) → IsRefusedAs e (plan_for aim asked values) → HasRead drew plans old before (Err (stop_of_plan e)) new after
      plan_fails plan_fault.NoMemory told =
          lacking drew plans old read.given new read.drew_all ([], (plan_for aim asked values, ap plans (append-nil read.given) ∙ plan_is read.given ∙ ap then_plan read.reads))
      plan_fails (plan_fault.Refused refusal) told = come (Err refusal) told
