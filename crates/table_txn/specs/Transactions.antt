-- A transaction on its way, and what its statements do.
use Rattle.std.specs.Prelude.{◌≡◌, ℕ, false, List, [], ◌++◌, Option, Some, option_map}
use Rattle.svc_values.specs.declared.schema.Shape.{Shape}
use Rattle.svc_values.specs.declared.draw.Draw.{Draw}
use Rattle.svc_values.specs.declared.statement.Statement.{Statement}
use Rattle.svc_values.specs.declared.call.Call.TheVariants as call
use Rattle.svc_values.specs.declared.answer.Answer.{Answer}
use Rattle.svc_values.specs.declared.entry.Piece.{Piece}
use Rattle.svc_values.specs.declared.entry.Write.{Write}
use Rattle.svc_values.specs.meaning.Tables.{with_writes}
use Rattle.stmt_meaning.specs.meaning.Meaning.{Meant, mean}
use Rattle.table_store.specs.Stored.{Stored}
use Rattle.stmt_meaning.specs.Drawing.{Drew, Ends}
use Rattle.stmt_meaning.specs.meaning.Reads.{Read, reads_at}
use Rattle.table_txn.specs.Readings.{Reading, AreReadings}
use Rattle.stmt_meaning.specs.declared.fault.TxnFault.{TxnFault}
use Rattle.svc_values.specs.meaning.SettingsList.{NamedValues}

-- its calls so far with their answers and draws, its writes in order, and its readings
pub record Transaction : Type 0 where
  pub pieces : List Piece
  pub writes : List Write
  pub readings : List Reading

abbrev pub empty : Transaction
empty = record { pieces = []; writes = []; readings = [] }

-- what exists: the tables, and the sequences of these names
abbrev pub shape_of : Stored → List (List ℕ) → Shape
shape_of tables names = record { schemas = tables.schemas; sequences = names }

-- What statements mean in a transaction: on the committed tables with its writes over them, without
-- a commit.
abbrev pub meaning : Stored → List (List ℕ) → NamedValues → Transaction → List Statement → List Draw
    → Option Meant
meaning tables names settings old statements draws =
    mean (shape_of tables names) (with_writes tables.rows old.writes) settings
    (call.Work statements false) draws

-- Statements that ran: they used exactly these draws; the answers are those of their meaning, the
-- writes are behind those before, and what they read is kept. The pieces are as before.
pub record HasRun (tables : Stored) (names : List (List ℕ)) (settings : NamedValues)
    (old : Transaction) (statements : List Statement) (answers : List Answer) (draws : List Draw)
    (new : Transaction) : Type 0 where
  pub meant : Meant
  pub means : meaning tables names settings old statements draws ≡ Some meant
  pub used : meant.rest ≡ []
  pub answered : answers ≡ meant.answers
  pub wrote : new.writes ≡ old.writes ++ meant.writes
  pub was_read : (reads : List Read) → AreReadings old.readings reads
      → AreReadings new.readings (reads ++ reads_at tables.rows meant.reads)
  pub same_pieces : new.pieces ≡ old.pieces

-- A run that was ended by a fault: some draws were given, which begin those that the statements ask
-- for, and then it ended.
abbrev pub HasEnded : {S : Type 0} → Stored → List (List ℕ) → NamedValues → Transaction
    → List Statement → (S → Drew → S → Type 0) → S → TxnFault → S → Type 0
HasEnded tables names settings old statements drew before ended after =
    Ends drew (λ draws. option_map (λ meant. meant.rest)
    (meaning tables names settings old statements draws)) before ended after
