-- Identifiers of transactions, and what the journal keeps of a transaction: pieces, writes,
-- entries.
use Rattle.std.specs.Prelude.{ℕ, ◌^◌, List, ◌++◌, length, Result, Ok, Err, nat_le, if◌then◌else◌}
use Rattle.svc_values.specs.declared.entry.Ltxid.{Ltxid}
use Rattle.svc_values.specs.declared.entry.Piece.{Piece}
use Rattle.svc_values.specs.declared.entry.Write.{Write}
use Rattle.svc_values.specs.declared.entry.Entry.{Entry}
use Rattle.canon_bytes.specs.meaning.Numbers.{spell_u64, u64_at, bool_at}
use Rattle.canon_bytes.specs.meaning.TextBytes.{name_at}
use Rattle.canon_bytes.specs.meaning.Lists.{listed_at}
use Rattle.canon_bytes.specs.meaning.Options.{option_at}
use Rattle.canon_bytes.specs.meaning.Values.{value_at, row_at}
use Rattle.canon_bytes.specs.meaning.Draws.{draws_at}
use Rattle.canon_bytes.specs.meaning.AnswerBytes.{answers_at}
use Rattle.canon_bytes.specs.meaning.CallBytes.{call_at}
use Rattle.canon_bytes.specs.meaning.SettingsBytes.{settings_at}
use Rattle.canon_bytes.specs.meaning.Reading.{◌>>=◌}
use Rattle.canon_bytes.specs.declared.fault.Fault.{Fault}
use Rattle.canon_bytes.specs.declared.fault.Fault.TheVariants.{BadPart}

-- three numbers, 24 bytes
unfoldable pub spell_ltxid : Ltxid → List ℕ
spell_ltxid x = spell_u64 x.incarnation ++ spell_u64 x.session ++ spell_u64 x.number

-- a part of an identifier, at most 2^63
unfoldable pub part_at : List ℕ → Result (ℕ × List ℕ) Fault
part_at bytes = do
  n ← u64_at bytes
  if nat_le n.0 (2 ^ 63) then Ok n else Err (BadPart (length bytes))

unfoldable pub ltxid_at : List ℕ → Result (Ltxid × List ℕ) Fault
ltxid_at bytes = do
  incarnation ← part_at bytes
  session ← part_at incarnation.1
  number ← part_at session.1
  Ok (record { incarnation = incarnation.0; session = session.0; number = number.0 }, number.1)

unfoldable pub piece_at : List ℕ → Result (Piece × List ℕ) Fault
piece_at bytes = do
  call ← call_at bytes
  answers ← answers_at call.1
  draws ← draws_at answers.1
  Ok (record { call = call.0; answers = answers.0; draws = draws.0 }, draws.1)

unfoldable pub write_at : List ℕ → Result (Write × List ℕ) Fault
write_at bytes = do
  table ← name_at bytes
  key ← value_at table.1
  row ← option_at row_at key.1
  Ok (record { table = table.0; key = key.0; row = row.0 }, row.1)

unfoldable pub entry_at : List ℕ → Result (Entry × List ℕ) Fault
entry_at bytes = do
  ltxid ← ltxid_at bytes
  completed ← bool_at ltxid.1
  settings ← settings_at completed.1
  pieces ← listed_at piece_at settings.1
  writes ← listed_at write_at pieces.1
  Ok (
    record {
      ltxid = ltxid.0;
      completed = completed.0;
      settings = settings.0;
      pieces = pieces.0;
      writes = writes.0;
    },
    writes.1,
  )
