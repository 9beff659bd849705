-- Transactions that were run call by call, each call on what was committed at its moment.
use Rattle.std.specs.Prelude.{◌≡◌, List, [], ◌∷◌, ◌++◌, Option, Some, None}
use Rattle.svc_values.specs.declared.schema.Shape.{Shape}
use Rattle.svc_values.specs.declared.entry.Piece.{Piece}
use Rattle.svc_values.specs.declared.entry.Write.{Write}
use Rattle.svc_values.specs.declared.tables.PlainRow.{PlainRow}
use Rattle.svc_values.specs.meaning.Tables.{with_writes}
use Rattle.svc_values.specs.Tables.{AreTables}
use Rattle.stmt_meaning.specs.meaning.Meaning.{Meant, mean}
use Rattle.stmt_meaning.specs.meaning.Reads.{Read, reads_at}
use Rattle.stmt_meaning.specs.meaning.Serial.{Replays}
use Rattle.svc_values.specs.meaning.SettingsList.{NamedValues}

-- A call of a transaction: the committed tables at its moment, and the piece that it left.
pub record CallAt : Type 0 where
  pub committed : List PlainRow
  pub piece : Piece

-- The calls in order, each on the tables committed at its moment with the transaction's own earlier
-- writes over them. `own` and `settings` are those before the first call, `own_after` and
-- `settings_after` those after the last.
abbrev pub RanAt : Shape → NamedValues → List Write → List CallAt → NamedValues → List Write
    → Type 0
RanAt shape settings own [] settings_after own_after = (settings_after ≡ settings)
    × (own_after ≡ own)
RanAt shape settings own (moment ∷ moments) settings_after own_after =
    (meant : Meant) × (Replays shape (with_writes moment.committed own) settings moment.piece meant
    × RanAt shape meant.settings (own ++ meant.writes) moments settings_after own_after)

-- what a call read at its moment, and what those behind it read
abbrev pub reads_then : List PlainRow → (Meant → List Read) → Option Meant → List Read
reads_then committed behind None = []
reads_then committed behind (Some meant) = reads_at committed meant.reads ++ behind meant

-- What the calls read, in order: each place with what was committed there at its call's moment,
-- whatever the transaction's own writes say.
abbrev pub reads_of : Shape → NamedValues → List Write → List CallAt → List Read
reads_of shape settings own [] = []
reads_of shape settings own (moment ∷ moments) =
    reads_then moment.committed (λ meant. reads_of shape meant.settings (own ++ meant.writes)
    moments) (mean shape (with_writes moment.committed own) settings moment.piece.call
    moment.piece.draws)

-- all at one moment
abbrev pub at_once : List PlainRow → List CallAt → List CallAt
at_once now [] = []
at_once now (moment ∷ moments) = record {
  committed = now;
  piece = moment.piece;
} ∷ at_once now moments

abbrev pub AreOrdered : List CallAt → Type 0
AreOrdered [] = Unit {0}
AreOrdered (moment ∷ moments) = AreTables moment.committed × AreOrdered moments

abbrev pub pieces_of : List CallAt → List Piece
pieces_of [] = []
pieces_of (moment ∷ moments) = moment.piece ∷ pieces_of moments
