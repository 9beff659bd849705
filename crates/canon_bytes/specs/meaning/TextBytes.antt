-- Names, texts and octets: the number of bytes, and the bytes.
use Rattle.std.specs.Prelude.{ℕ, ◌+◌, ◌-◌, List, ◌++◌, length, take, drop, Result, Ok, Err, nat_lt, if◌then◌else◌}
use Rattle.std.specs.Str.{is_utf8}
use Rattle.std.specs.Str.Lossy.{utf8_valid_len}
use Rattle.svc_values.specs.meaning.Texts.{is_name}
use Rattle.canon_bytes.specs.meaning.Numbers.{spell_u64, u64_at}
use Rattle.canon_bytes.specs.meaning.Reading.{◌>>=◌}
use Rattle.canon_bytes.specs.declared.fault.Fault.{Fault}
use Rattle.canon_bytes.specs.declared.fault.Fault.TheVariants.{Short, BadText, BadPart}

unfoldable pub spell_bytes : List ℕ → List ℕ
spell_bytes bytes = spell_u64 (length bytes) ++ bytes

-- that many bytes, at most limit of them; the limit is judged before the bytes are there
unfoldable pub bytes_at : ℕ → List ℕ → Result (List ℕ × List ℕ) Fault
bytes_at limit bytes = do
  n ← u64_at bytes
  if nat_lt limit n.0 then Err (BadPart (length bytes))
      else (if nat_lt (length n.1) n.0 then Err Short else Ok (take n.0 n.1, drop n.0 n.1))

-- bytes that are no name are at fault from their number on
unfoldable pub name_at : List ℕ → Result (List ℕ × List ℕ) Fault
name_at bytes = do
  name ← bytes_at 16 bytes
  if is_name name.0 then Ok name else Err (BadPart (length bytes))

-- a text is at fault where UTF-8 ends
unfoldable pub text_at : List ℕ → Result (List ℕ × List ℕ) Fault
text_at bytes = do
  text ← bytes_at 64 bytes
  if is_utf8 text.0 then Ok text else Err (BadText (length text.0 - utf8_valid_len text.0
      + length text.1))

unfoldable pub octets_at : List ℕ → Result (List ℕ × List ℕ) Fault
octets_at bytes = bytes_at 64 bytes
