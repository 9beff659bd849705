-- What running calls and entries again comes to.
use Rattle.std.specs.Prelude.{◌≡◌, ℕ, Bool, true, false, not, List, Option, Some, None, IsTrue}
use Rattle.svc_values.specs.declared.schema.Shape.{Shape}
use Rattle.svc_values.specs.declared.entry.Piece.{Piece}
use Rattle.svc_values.specs.declared.entry.Write.{Write}
use Rattle.svc_values.specs.declared.tables.PlainRow.{PlainRow}
use Rattle.svc_values.specs.meaning.Endings.{ends_committed}
use Rattle.svc_values.specs.meaning.Fitting.{writes_fit}
use Rattle.svc_values.specs.meaning.SettingsList.{NamedValues}
use Rattle.svc_values.specs.meaning.Tables.{with_writes}
use Rattle.stmt_meaning.specs.meaning.Meaning.{Meant}
use Rattle.stmt_meaning.specs.meaning.SerialTest.{replayed}
use Rattle.table_store.specs.Stored.{Stored}
use Rattle.serial_check.specs.declared.transaction.Ended.{Ended}
use Rattle.serial_check.specs.declared.transaction.Ended.TheVariants as ended
use Rattle.serial_check.specs.meaning.Places.{Course, Goes, Fails, if_ends}

-- Whether a piece was run again as it stands. Then the tables are those committed with these writes
-- over them, and the settings are these.
abbrev pub HasReplayed : List PlainRow → List Write → NamedValues → Option Meant → Bool → Type 0
HasReplayed committed writes settings None replays = replays ≡ false
HasReplayed committed writes settings (Some meant) replays = (replays ≡ true)
    × ((meant.tables ≡ with_writes committed writes) × (meant.settings ≡ settings))

-- whether a piece commits exactly where it is the last one
abbrev pub ends_rightly : Bool → Bool → Bool
ends_rightly commits true = commits
ends_rightly commits false = not commits

-- what the next piece of a transaction left, if it may stand there
abbrev pub next_piece : Shape → List PlainRow → NamedValues → Piece → (is_last : Bool)
    → Option Meant
next_piece shape before settings piece is_last =
    if_ends (ends_rightly (ends_committed piece.answers) is_last)
    (replayed shape before settings piece)

-- the pieces of an entry lead to the tables with these writes, which fit what is declared, or fail
-- at this place
abbrev pub HasCourse : Stored → Course → Ended → Type 0
HasCourse committed (Goes tables) (ended.Whole writes) =
    (tables ≡ with_writes committed.rows writes) × IsTrue (writes_fit committed.schemas writes)
HasCourse committed (Goes tables) (ended.Failed place) = ⊥
HasCourse committed (Fails place) (ended.Whole writes) = ⊥
HasCourse committed (Fails place) (ended.Failed found) = found ≡ place

-- entries lead to these tables of the same declarations, or fail at this place
abbrev pub HasEnded : Stored → Course → Option (List ℕ) → Stored → Type 0
HasEnded old (Goes tables) None new = new ≡ record { schemas = old.schemas; rows = tables }
HasEnded old (Goes tables) (Some place) new = ⊥
HasEnded old (Fails place) None new = ⊥
HasEnded old (Fails place) (Some found) new = found ≡ place
