-- One statement of a transaction.
use Rattle.std.proofs.Common.{◌≡◌, ℕ, List, ◌++◌, refl, sym, ap, ◌∙◌, subst, append-nil}
use Rattle.std.specs.Prelude.{Ok, Err, option_to_list}
use Rattle.svc_values.specs.declared.draw.Draw.{Draw}
use Rattle.svc_values.specs.declared.schema.Shape.{Shape}
use Rattle.svc_values.specs.declared.statement.Statement.{Statement}
use Rattle.svc_values.specs.declared.answer.Answer.{Answer}
use Rattle.svc_values.specs.declared.answer.Answer.TheVariants as answer
use Rattle.svc_values.specs.declared.answer.StatementFault.{StatementFault}
use Rattle.svc_values.specs.declared.tables.PlainRow.{PlainRow}
use Rattle.svc_values.specs.meaning.SettingsList.{NamedValues}
use Rattle.svc_values.specs.meaning.Tables.{with_writes}
use Rattle.stmt_meaning.specs.declared.plan.Plan.{Plan}
use Rattle.stmt_meaning.specs.Drawing.{Drew}
use Rattle.stmt_meaning.specs.InnerReading.{ReadsAll}
use Rattle.stmt_meaning.specs.InnerRunning.{one_of}
use Rattle.stmt_meaning.specs.meaning.Effects.{effect}
use Rattle.stmt_meaning.specs.meaning.Meaning.{OneDone, seen_at}
use Rattle.stmt_meaning.specs.meaning.Operands.{Reading}
use Rattle.stmt_meaning.specs.meaning.Plans.{place_of, plan_of}
use Rattle.stmt_meaning.proofs.Offered.{ran_plan, ran_refused}
use Rattle.table_store.specs.Stored.{Stored}
use Rattle.table_txn.specs.Readings.{AreReadings, HasReadIfAny}
use Rattle.table_txn.specs.InnerSteps.{HasWritten, HasWorked, HasDone}
use Rattle.table_txn.specs.Transactions.{Transaction, shape_of}
use Rattle.table_txn.proofs.ReadingLaws.{readings_after}

-- a plan whose place was read, and then done
pub first_read : (tables : Stored) (old between new : Transaction) (plan : Plan) (result : Answer) → HasReadIfAny tables.rows old.readings (place_of plan) between.readings → between.writes ≡ old.writes → between.pieces ≡ old.pieces
    → HasWritten tables between plan result new → HasWorked tables old plan result new
first_read tables old between new plan result read same kept written = record {
  effected = written.effected;
  effects = subst (λ w. written.effected ≡ effect plan (seen_at (with_writes tables.rows w) (place_of plan))) same written.effects;
  answered = written.answered;
  wrote = written.wrote ∙ ap (λ w. w ++ option_to_list written.effected.write) same;
  was_read = subst (HasReadIfAny tables.rows old.readings (place_of plan)) (sym written.same_readings) read;
  same_pieces = written.same_pieces ∙ kept;
}

-- what a statement did that answered so
abbrev pub AnsweredBy : {S : Type 0} → (S → Drew → S → Type 0) → Stored → List (List ℕ) → NamedValues → Transaction → Statement → S → List Draw → Answer → Transaction → S → List Draw → Type 0
AnsweredBy drew tables names settings old statement old_source before result new new_source after =
    (one : OneDone) × ((result ≡ one.answer) × HasDone drew tables names settings old statement old_source before one new new_source after)

module _ {S : Type 0} (drew : S → Drew → S → Type 0) (tables : Stored) (names : List (List ℕ)) (settings : NamedValues) (old : Transaction) (statement : Statement) (before : S) (taken : List Draw) where
  abbrev rows : List PlainRow
  rows = with_writes tables.rows old.writes

  abbrev shape : Shape
  shape = shape_of tables names

  abbrev plans : List Draw → Reading Plan
  plans = λ given. plan_of shape settings statement given

  -- a plan that was done
  pub done_plan : (plan : Plan) (after : S) (drawn : List Draw) → ReadsAll drew plans before taken (Ok plan) after drawn → (result : Answer) (new : Transaction) → HasWorked tables old plan result new
      → AnsweredBy drew tables names settings old statement before taken result new after drawn
  done_plan plan after drawn read result new worked = (
    one_of worked.effected (option_to_list (place_of plan)),
    (
      worked.answered,
      record {
        ran = ran_plan drew shape rows settings statement before taken plan after drawn read worked.effected worked.effects;
        wrote = worked.wrote;
        was_read = λ reads are. readings_after tables.rows old.readings new.readings (place_of plan) worked.was_read reads are;
        same_pieces = worked.same_pieces;
      },
    ),
  )

  -- a statement that was refused before it read
  pub done_refused : (refusal : StatementFault) (after : S) (drawn : List Draw) → ReadsAll drew plans before taken (Err refusal) after drawn → AnsweredBy drew tables names settings old statement before taken (answer.Refused refusal) old after drawn
  done_refused refusal after drawn read = (
    _,
    (
      refl,
      record {
        ran = ran_refused drew shape rows settings statement before taken refusal after drawn read;
        wrote = sym (append-nil old.writes);
        was_read = λ reads are. subst (AreReadings old.readings) (sym (append-nil reads)) are;
        same_pieces = refl;
      },
    ),
  )
