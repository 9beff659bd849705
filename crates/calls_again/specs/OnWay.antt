-- A transaction on its way, and what running one more call of it comes to.
use Rattle.std.specs.Prelude.{◌≡◌, ◌==◌, ℕ, List, [], ◌∷◌, ◌++◌, Option, Some, None, IsTrue, if◌then◌else◌}
use Rattle.svc_values.specs.declared.answer.Answer.{Answer}
use Rattle.svc_values.specs.declared.call.Call.{Call}
use Rattle.svc_values.specs.declared.draw.Draw.{Draw}
use Rattle.svc_values.specs.declared.entry.Piece.{Piece}
use Rattle.svc_values.specs.declared.entry.Write.{Write}
use Rattle.svc_values.specs.meaning.Fitting.{writes_fit}
use Rattle.svc_values.specs.meaning.SettingsList.{NamedValues}
use Rattle.svc_values.specs.meaning.Tables.{with_writes}
use Rattle.stmt_meaning.specs.meaning.Meaning.{Meant, mean}
use Rattle.stmt_meaning.specs.meaning.Reads.{Read, reads_at}
use Rattle.stmt_meaning.specs.meaning.SerialTest.{is_nil}
use Rattle.table_store.specs.Stored.{Stored}
use Rattle.table_txn.specs.Readings.{Reading, AreReadings, StayUnchanged}
use Rattle.table_txn.specs.Transactions.{Transaction, shape_of}

-- its settings now and at its start, its calls, its writes in order, and its readings
pub record OnWay : Type 0 where
  pub settings : NamedValues
  pub at_start : NamedValues
  pub pieces : List Piece
  pub writes : List Write
  pub readings : List Reading

-- the settings before a transaction's first call, where a call has changed them, and else those of
-- now
abbrev pub started_with : Option NamedValues → NamedValues → NamedValues
started_with None now = now
started_with (Some earlier) now = earlier

abbrev pub on_way : NamedValues → Option NamedValues → Transaction → OnWay
on_way settings earlier txn = record {
  settings = settings;
  at_start = started_with earlier settings;
  pieces = txn.pieces;
  writes = txn.writes;
  readings = txn.readings;
}

abbrev pub begun_with : NamedValues → OnWay
begun_with settings = record {
  settings = settings;
  at_start = settings;
  pieces = [];
  writes = [];
  readings = [];
}

-- the same writes, with nothing called or read
abbrev pub probed : OnWay → OnWay
probed going = record {
  settings = going.settings;
  at_start = going.settings;
  pieces = [];
  writes = going.writes;
  readings = [];
}

-- what a call means that uses all its draws
abbrev pub if_used : Option Meant → Option Meant
if_used None = None
if_used (Some meant) = if is_nil meant.rest then Some meant else None

abbrev pub taken_with : Stored → List (List ℕ) → OnWay → Call → List Draw → Option Meant
taken_with tables names going called draws =
    if_used (mean (shape_of tables names) (with_writes tables.rows going.writes) going.settings
    called draws)

-- the answers, where so many draws are left
abbrev pub if_none_left : ℕ → List Answer → Option (List Answer)
if_none_left left answers = if left == 0 then Some answers else None

-- the answer of a call without statements, which takes no draw
abbrev pub answered_alone : List Draw → Answer → Option (List Answer)
answered_alone draws answer = if is_nil draws then Some (answer ∷ []) else None

-- The transaction has what the call wrote and read, and its settings. The pieces are as before.
-- Where each place that was read had what it had, it is so still.
pub record HasGone (tables : Stored) (old : OnWay) (meant : Meant) (new : OnWay) : Type 0 where
  pub settings : new.settings ≡ meant.settings
  pub at_start : new.at_start ≡ old.at_start
  pub pieces : new.pieces ≡ old.pieces
  pub wrote : new.writes ≡ old.writes ++ meant.writes
  pub was_read : (reads : List Read) → AreReadings old.readings reads
      → AreReadings new.readings (reads ++ reads_at tables.rows meant.reads)
  pub unchanged : StayUnchanged tables.rows old.readings new.readings
  pub fits : IsTrue (writes_fit tables.schemas new.writes)

-- whether a call ran, as it means something that uses its draws
abbrev pub GoesBy : Stored → OnWay → Option Meant → Option (List Answer) → OnWay → Type 0
GoesBy tables old None None new = Unit {0}
GoesBy tables old None (Some answers) new = ⊥
GoesBy tables old (Some meant) None new = ⊥
GoesBy tables old (Some meant) (Some answers) new = (answers ≡ meant.answers)
    × HasGone tables old meant new
