-- A serial run as a test that computes.
use Rattle.std.specs.Prelude.{◌&&◌, Bool, true, false, not, List, [], ◌∷◌, Option, Some, None, if◌then◌else◌}
use Rattle.svc_values.specs.declared.draw.Draw.{Draw}
use Rattle.svc_values.specs.declared.schema.Shape.{Shape}
use Rattle.svc_values.specs.declared.entry.Piece.{Piece}
use Rattle.svc_values.specs.declared.entry.Entry.{Entry}
use Rattle.svc_values.specs.meaning.Endings.{ends_committed}
use Rattle.svc_values.specs.meaning.Same.{same_answers}
use Rattle.svc_values.specs.declared.tables.PlainRow.{PlainRow}
use Rattle.stmt_meaning.specs.meaning.Meaning.{Meant, mean}
use Rattle.svc_values.specs.meaning.SettingsList.{NamedValues}

abbrev pub is_nil : List Draw → Bool
is_nil [] = true
is_nil (draw ∷ draws) = false

abbrev pub if_replayed : Piece → Option Meant → Option Meant
if_replayed piece None = None
if_replayed piece (Some meant) = if is_nil meant.rest
    && same_answers meant.answers piece.answers then Some meant else None

-- what the piece left, if its call uses all its draws and gives exactly its answers
abbrev pub replayed : Shape → List PlainRow → NamedValues → Piece → Option Meant
replayed shape tables settings piece = if_replayed piece
    (mean shape tables settings piece.call piece.draws)

abbrev pub if_commits : Bool → Option Meant → (Meant → Option (List PlainRow))
    → Option (List PlainRow)
if_commits commits None next = None
if_commits commits (Some meant) next = if commits then next meant else None

-- the tables after a transaction, if these pieces are one
abbrev pub transaction_after : Shape → List PlainRow → NamedValues → List Piece
    → Option (List PlainRow)
transaction_after shape before settings [] = None
transaction_after shape before settings (piece ∷ []) =
    if_commits (ends_committed piece.answers) (replayed shape before settings piece)
    (λ meant. Some meant.tables)
transaction_after shape before settings (piece ∷ next ∷ more) =
    if_commits (not (ends_committed piece.answers)) (replayed shape before settings piece)
    (λ meant. transaction_after shape meant.tables meant.settings (next ∷ more))

abbrev pub and_then : Option (List PlainRow) → (List PlainRow → Option (List PlainRow))
    → Option (List PlainRow)
and_then None next = None
and_then (Some between) next = next between

-- the tables after entries, if they are a serial run
abbrev pub serial_after : Shape → List PlainRow → List Entry → Option (List PlainRow)
serial_after shape start [] = Some start
serial_after shape start (entry ∷ entries) =
    and_then (transaction_after shape start entry.settings entry.pieces)
    (λ between. serial_after shape between entries)
