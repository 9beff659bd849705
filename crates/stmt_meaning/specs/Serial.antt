-- A serial run of entries: one transaction after the other on plain tables.
-- Here is what contracts and proofs say of it besides.
use Rattle.std.specs.Prelude.{◌≡◌, true, false, List, [], ◌∷◌}
use Rattle.svc_values.specs.declared.schema.Shape.{Shape}
use Rattle.svc_values.specs.declared.entry.Piece.{Piece}
use Rattle.svc_values.specs.meaning.Endings.{ends_committed}
use Rattle.svc_values.specs.declared.tables.PlainRow.{PlainRow}
use Rattle.stmt_meaning.specs.meaning.Meaning.{Meant}
use Rattle.svc_values.specs.meaning.SettingsList.{NamedValues}
use Rattle.stmt_meaning.specs.meaning.Serial.{Replays}

-- Pieces run whole, one after the other.
abbrev pub RunWhole : Shape → List PlainRow → NamedValues → List Piece → NamedValues → List PlainRow
    → Type 0
RunWhole shape before settings [] settings_after after = (settings_after ≡ settings)
    × (after ≡ before)
RunWhole shape before settings (piece ∷ pieces) settings_after after =
    (meant : Meant) × (Replays shape before settings piece meant
    × RunWhole shape meant.tables meant.settings pieces settings_after after)

-- the last one commits, and none before it does
abbrev pub CommitLast : List Piece → Type 0
CommitLast [] = ⊥
CommitLast (piece ∷ []) = ends_committed piece.answers ≡ true
CommitLast (piece ∷ next ∷ more) = (ends_committed piece.answers ≡ false) × CommitLast (next ∷ more)
