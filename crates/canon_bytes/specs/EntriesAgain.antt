-- What was written is read again, whatever follows: calls, identifiers, pieces, writes and entries.
use Rattle.std.proofs.Common.{◌≡◌, ℕ, ◌^◌, ◌<◌, ◌≤◌, true, List, ◌++◌, Result, Ok, refl, arith, append_assoc}
use Rattle.std.specs.Prelude.{Option, Some, None, nat_le}
use Rattle.svc_values.specs.declared.call.Call.{Call}
use Rattle.svc_values.specs.declared.call.Call.TheVariants as call
use Rattle.svc_values.specs.declared.entry.Ltxid.{Ltxid}
use Rattle.svc_values.specs.declared.entry.Piece.{Piece}
use Rattle.svc_values.specs.declared.entry.Write.{Write}
use Rattle.svc_values.specs.declared.entry.Entry.{Entry}
use Rattle.canon_bytes.specs.declared.fault.Fault.{Fault}
use Rattle.canon_bytes.specs.meaning.Numbers.{spell_u64}
use Rattle.canon_bytes.specs.meaning.Options.{option_at}
use Rattle.canon_bytes.specs.Options.{spell_option, FitsOption}
use Rattle.canon_bytes.specs.meaning.Values.{spell_row, row_at}
use Rattle.canon_bytes.specs.Values.{FitsRow}
use Rattle.canon_bytes.specs.meaning.Draws.{spell_draw, draw_at}
use Rattle.canon_bytes.specs.Draws.{FitsDraw}
use Rattle.canon_bytes.specs.meaning.AnswerBytes.{spell_answer, answer_at}
use Rattle.canon_bytes.specs.AnswerBytes.{FitsAnswer}
use Rattle.canon_bytes.specs.meaning.StatementBytes.{spell_statement, statement_at}
use Rattle.canon_bytes.specs.StatementBytes.{FitsStatement}
use Rattle.canon_bytes.specs.meaning.CallBytes.{spell_call, work_at, set_at, call_at}
use Rattle.canon_bytes.specs.CallBytes.{FitsCall}
use Rattle.canon_bytes.specs.meaning.Entries.{spell_ltxid, part_at, ltxid_at, piece_at, write_at, entry_at}
use Rattle.canon_bytes.specs.Entries.{spell_piece, spell_write, spell_entry, FitsLtxid, FitsPiece, FitsWrite, FitsEntry}
use Rattle.canon_bytes.specs.Again.{u64_again, bool_again, name_again, text_again, list_again, listed_again}
use Rattle.canon_bytes.specs.ValuesAgain.{value_again, row_again, draw_again, answer_again}
use Rattle.canon_bytes.specs.StatementsAgain.{statement_again}
use Rattle.canon_bytes.specs.SettingsAgain.{settings_again}

pub call_again : (x : Call) (rest : List ℕ) → FitsCall x
    → call_at (spell_call x ++ rest) ≡ Ok (x, rest)
unfolding call_at work_at set_at
call_again (call.Work statements commit) rest fits =
    simp append_assoc (rw (
      list_again spell_statement FitsStatement statement_at statement_again
          8 statements _ fits.0,
      bool_again commit rest tt,
      fits.1,
    ) refl)
call_again (call.Set name value) rest fits =
    simp append_assoc (rw (name_again name _ fits.0, value_again value rest fits.1) refl)
call_again (call.Alter line) rest fits = rw (text_again line rest fits) refl
call_again call.Disable rest fits = refl
call_again call.Rollback rest fits = refl

pub option_again : {X : Type 0} (spell : X → List ℕ) (fits : X → Type 0)
    (x_at : List ℕ → Result (X × List ℕ) Fault)
    → ((x : X) (rest : List ℕ) → fits x → x_at (spell x ++ rest) ≡ Ok (x, rest))
    → (option : Option X) (rest : List ℕ) → FitsOption fits option
    → option_at x_at (spell_option spell option ++ rest) ≡ Ok (option, rest)
unfolding option_at
option_again spell fits x_at again None rest fit = refl
option_again spell fits x_at again (Some x) rest fit = rw (again x rest fit) refl

le_small : (n : ℕ) → n ≤ 2 ^ 63 → nat_le n (2 ^ 63) ≡ true
le_small n h = grind arith

part_again : (n : ℕ) (rest : List ℕ) → n ≤ 2 ^ 63 → part_at (spell_u64 n ++ rest) ≡ Ok (n, rest)
unfolding part_at
part_again n rest small =
    let below : n < 2 ^ 64 = omega (arith, small) in
    rw (u64_again n rest below, le_small n small) refl

pub ltxid_again : (x : Ltxid) (rest : List ℕ) → FitsLtxid x
    → ltxid_at (spell_ltxid x ++ rest) ≡ Ok (x, rest)
unfolding ltxid_at spell_ltxid
ltxid_again x rest fits = simp append_assoc
    (rw (
      part_again x.incarnation _ fits.0,
      part_again x.session _ fits.1,
      part_again x.number rest fits.2,
    ) refl)

pub piece_again : (x : Piece) (rest : List ℕ) → FitsPiece x
    → piece_at (spell_piece x ++ rest) ≡ Ok (x, rest)
unfolding piece_at spell_piece
piece_again x rest fits =
    simp append_assoc (rw (
      call_again x.call _ fits.0,
      listed_again spell_answer FitsAnswer answer_at answer_again x.answers _ fits.1,
      listed_again spell_draw FitsDraw draw_at draw_again x.draws rest fits.2,
    ) refl)

pub write_again : (x : Write) (rest : List ℕ) → FitsWrite x
    → write_at (spell_write x ++ rest) ≡ Ok (x, rest)
unfolding write_at spell_write
write_again x rest fits = simp append_assoc
    (rw (
      name_again x.table _ fits.0,
      value_again x.key _ fits.1,
      option_again spell_row FitsRow row_at row_again x.row rest fits.2,
    ) refl)

pub entry_again : (x : Entry) (rest : List ℕ) → FitsEntry x
    → entry_at (spell_entry x ++ rest) ≡ Ok (x, rest)
unfolding entry_at spell_entry
entry_again x rest fits =
    simp append_assoc (rw (
      ltxid_again x.ltxid _ fits.0,
      bool_again x.completed _ tt,
      settings_again x.settings _ fits.1,
      listed_again spell_piece FitsPiece piece_at piece_again x.pieces _ fits.2,
      listed_again spell_write FitsWrite write_at write_again x.writes rest fits.3,
    ) refl)
