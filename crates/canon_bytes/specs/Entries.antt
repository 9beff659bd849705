-- Identifiers of transactions, and what the journal keeps of a transaction: pieces, writes,
-- entries. Here is what contracts and proofs say of it besides.
use Rattle.std.specs.Prelude.{ℕ, List, ◌++◌}
use Rattle.std.specs.List.{AllByRecursion}
use Rattle.svc_values.specs.Calls.{IsMade}
use Rattle.svc_values.specs.Identifiers.{IsLtxid}
use Rattle.svc_values.specs.declared.entry.Ltxid.{Ltxid}
use Rattle.svc_values.specs.declared.entry.Piece.{Piece}
use Rattle.svc_values.specs.declared.entry.Write.{Write}
use Rattle.svc_values.specs.declared.entry.Entry.{Entry}
use Rattle.canon_bytes.specs.meaning.Numbers.{spell_bool}
use Rattle.canon_bytes.specs.meaning.TextBytes.{spell_bytes}
use Rattle.canon_bytes.specs.TextBytes.{FitsName}
use Rattle.canon_bytes.specs.meaning.Lists.{spell_list}
use Rattle.canon_bytes.specs.Lists.{FitsListed}
use Rattle.canon_bytes.specs.Options.{spell_option, FitsOption}
use Rattle.canon_bytes.specs.meaning.Values.{spell_value, spell_row}
use Rattle.canon_bytes.specs.Values.{FitsValue, FitsRow}
use Rattle.canon_bytes.specs.meaning.Draws.{spell_draws}
use Rattle.canon_bytes.specs.Draws.{FitsDraws}
use Rattle.canon_bytes.specs.meaning.AnswerBytes.{spell_answers}
use Rattle.canon_bytes.specs.AnswerBytes.{FitsAnswers}
use Rattle.canon_bytes.specs.meaning.CallBytes.{spell_call}
use Rattle.canon_bytes.specs.CallBytes.{FitsCall}
use Rattle.canon_bytes.specs.meaning.SettingsBytes.{spell_settings}
use Rattle.canon_bytes.specs.SettingsBytes.{FitsSettings}
use Rattle.canon_bytes.specs.meaning.Entries.{spell_ltxid}

abbrev pub FitsLtxid : Ltxid → Type 0
FitsLtxid x = IsLtxid x

unfoldable pub spell_piece : Piece → List ℕ
spell_piece piece = spell_call piece.call ++ spell_answers piece.answers ++ spell_draws piece.draws

abbrev pub FitsPiece : Piece → Type 0
FitsPiece piece = FitsCall piece.call × FitsAnswers piece.answers × FitsDraws piece.draws

-- the row is absent where it is deleted
unfoldable pub spell_write : Write → List ℕ
spell_write write = spell_bytes write.table ++ spell_value write.key
    ++ spell_option spell_row write.row

abbrev pub FitsWrite : Write → Type 0
FitsWrite write = FitsName write.table × FitsValue write.key × FitsOption FitsRow write.row

unfoldable pub spell_entry : Entry → List ℕ
spell_entry entry =
    spell_ltxid entry.ltxid ++ spell_bool entry.completed ++ spell_settings entry.settings
    ++ spell_list spell_piece entry.pieces ++ spell_list spell_write entry.writes

abbrev pub FitsEntry : Entry → Type 0
FitsEntry entry = FitsLtxid entry.ltxid × FitsSettings entry.settings
    × FitsListed FitsPiece entry.pieces × FitsListed FitsWrite entry.writes

-- ---- the rules that a writer's caller sees to

abbrev pub IsMadePiece : Piece → Type 0
IsMadePiece piece = IsMade piece.call

abbrev pub IsMadeEntry : Entry → Type 0
IsMadeEntry entry = IsLtxid entry.ltxid × AllByRecursion IsMadePiece entry.pieces
