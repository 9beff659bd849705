-- One statement of a transaction.
use Rattle.std.specs.Prelude.{◌≡◌, ℕ, Bool, List, [], ◌∷◌, ◌++◌, option_to_list}
use Rattle.svc_values.specs.declared.draw.Draw.{Draw}
use Rattle.svc_values.specs.declared.statement.Statement.{Statement}
use Rattle.svc_values.specs.declared.answer.Answer.{Answer}
use Rattle.svc_values.specs.meaning.SettingsList.{NamedValues}
use Rattle.svc_values.specs.meaning.Tables.{with_writes}
use Rattle.stmt_meaning.specs.declared.plan.Plan.{Plan}
use Rattle.stmt_meaning.specs.declared.effect.Effect.{Effect}
use Rattle.stmt_meaning.specs.Drawing.{Drew}
use Rattle.stmt_meaning.specs.meaning.Effects.{effect}
use Rattle.stmt_meaning.specs.InnerRunning.{RanOne}
use Rattle.stmt_meaning.specs.meaning.Meaning.{OneDone, seen_at, is_refusal}
use Rattle.stmt_meaning.specs.meaning.Plans.{place_of}
use Rattle.stmt_meaning.specs.meaning.Reads.{Read, reads_at}
use Rattle.table_store.specs.Stored.{Stored}
use Rattle.table_txn.specs.Readings.{AreReadings, HasReadIfAny}
use Rattle.table_txn.specs.Transactions.{Transaction, shape_of}

-- What a plan does to a transaction on these tables, its place read before.
pub record HasWritten (tables : Stored) (old : Transaction) (asked : Plan) (answer : Answer)
    (new : Transaction) : Type 0 where
  pub effected : Effect
  pub effects : effected ≡ effect asked (seen_at (with_writes tables.rows old.writes)
      (place_of asked))
  pub answered : answer ≡ effected.answer
  pub wrote : new.writes ≡ old.writes ++ option_to_list effected.write
  pub same_readings : new.readings ≡ old.readings
  pub same_pieces : new.pieces ≡ old.pieces

-- What a plan does to a transaction on these tables.
pub record HasWorked (tables : Stored) (old : Transaction) (asked : Plan) (answer : Answer)
    (new : Transaction) : Type 0 where
  pub effected : Effect
  pub effects : effected ≡ effect asked (seen_at (with_writes tables.rows old.writes)
      (place_of asked))
  pub answered : answer ≡ effected.answer
  pub wrote : new.writes ≡ old.writes ++ option_to_list effected.write
  pub was_read : HasReadIfAny tables.rows old.readings (place_of asked) new.readings
  pub same_pieces : new.pieces ≡ old.pieces

-- One statement that ran in a transaction.
pub record HasDone {S : Type 0} (drew : S → Drew → S → Type 0) (tables : Stored)
    (names : List (List ℕ)) (settings : NamedValues) (old : Transaction) (statement : Statement)
    (old_source : S) (before : List Draw) (one : OneDone) (new : Transaction) (new_source : S)
    (after : List Draw) : Type 0 where
  pub ran : RanOne drew (shape_of tables names)
      (with_writes tables.rows old.writes) settings statement old_source before one new_source after
  pub wrote : new.writes ≡ old.writes ++ one.writes
  pub was_read : (reads : List Read) → AreReadings old.readings reads
      → AreReadings new.readings (reads ++ reads_at tables.rows one.reads)
  pub same_pieces : new.pieces ≡ old.pieces

-- The same, its answer put behind those before.
pub record HasNext {S : Type 0} (drew : S → Drew → S → Type 0) (tables : Stored)
    (names : List (List ℕ)) (settings : NamedValues) (old : Transaction) (statement : Statement)
    (old_source : S) (answers : List Answer) (before : List Draw) (is_refused : Bool)
    (new : Transaction) (new_source : S) (more : List Answer) (after : List Draw) : Type 0 where
  pub one : OneDone
  pub done : HasDone drew tables names settings old statement old_source before one new new_source
      after
  pub answered : more ≡ answers ++ one.answer ∷ []
  pub refusal : is_refused ≡ is_refusal one.answer
