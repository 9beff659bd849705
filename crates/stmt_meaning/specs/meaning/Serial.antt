-- A serial run of entries: one transaction after the other on plain tables.
use Rattle.std.specs.Prelude.{◌≡◌, true, false, List, [], ◌∷◌, Some}
use Rattle.svc_values.specs.declared.schema.Shape.{Shape}
use Rattle.svc_values.specs.declared.entry.Piece.{Piece}
use Rattle.svc_values.specs.declared.entry.Entry.{Entry}
use Rattle.svc_values.specs.meaning.Endings.{ends_committed}
use Rattle.svc_values.specs.declared.tables.PlainRow.{PlainRow}
use Rattle.stmt_meaning.specs.meaning.Meaning.{Meant, mean}
use Rattle.svc_values.specs.meaning.SettingsList.{NamedValues}

-- The piece's call, run on these tables and settings with the piece's draws, uses them all and
-- gives exactly the piece's answers.
pub record Replays (shape : Shape) (tables : List PlainRow) (settings : NamedValues) (piece : Piece)
    (meant : Meant) : Type 0 where
  pub run : mean shape tables settings piece.call piece.draws ≡ Some meant
  pub draws : meant.rest ≡ []
  pub answers : meant.answers ≡ piece.answers

-- Pieces run whole, one after the other. The last one commits, and none before it does.
abbrev pub Transaction : Shape → List PlainRow → NamedValues → List Piece → List PlainRow → Type 0
Transaction shape before settings [] after = ⊥
Transaction shape before settings (piece ∷ []) after =
    (meant : Meant) × (Replays shape before settings piece meant
    × ((ends_committed piece.answers ≡ true) × (after ≡ meant.tables)))
Transaction shape before settings (piece ∷ next ∷ more) after =
    (meant : Meant) × (Replays shape before settings piece meant
    × ((ends_committed piece.answers ≡ false)
    × Transaction shape meant.tables meant.settings (next ∷ more) after))

-- Entries run one after the other, each beginning with its settings.
abbrev pub Serial : Shape → List PlainRow → List Entry → List PlainRow → Type 0
Serial shape start [] after = after ≡ start
Serial shape start (entry ∷ entries) after =
    (between : List PlainRow) × (Transaction shape start entry.settings entry.pieces between
    × Serial shape between entries after)
