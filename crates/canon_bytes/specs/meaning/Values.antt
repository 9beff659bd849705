-- Values, their kinds, and rows.
use Rattle.std.specs.Prelude.{ℕ, suc, ◌==◌, List, [], ◌∷◌, length, Result, Ok, Err, if◌then◌else◌}
use Rattle.svc_values.specs.declared.value.Kind.{Kind}
use Rattle.svc_values.specs.declared.value.Kind.TheVariants as kind
use Rattle.svc_values.specs.declared.value.Value.{Value}
use Rattle.svc_values.specs.declared.value.Value.TheVariants.{Int, Text, Bytes}
use Rattle.canon_bytes.specs.meaning.Numbers.{spell_i64, i64_at}
use Rattle.canon_bytes.specs.meaning.TextBytes.{spell_bytes, text_at, octets_at}
use Rattle.canon_bytes.specs.meaning.Lists.{spell_list, list_at}
use Rattle.canon_bytes.specs.meaning.Reading.{◌>>=◌}
use Rattle.canon_bytes.specs.declared.fault.Fault.{Fault}
use Rattle.canon_bytes.specs.declared.fault.Fault.TheVariants.{Short, BadTag}

unfoldable pub kind_at : List ℕ → Result (Kind × List ℕ) Fault
kind_at [] = Err Short
kind_at (tag ∷ rest) =
    if tag == 1 then Ok (kind.Int, rest)
    else (if tag == 2 then Ok (kind.Text, rest)
    else (if tag == 3 then Ok (kind.Bytes, rest)
    else Err (BadTag (suc (length rest)))))

abbrev pub spell_value : Value → List ℕ
spell_value (Int n) = 1 ∷ spell_i64 n
spell_value (Text text) = 2 ∷ spell_bytes text
spell_value (Bytes bytes) = 3 ∷ spell_bytes bytes

unfoldable pub value_at : List ℕ → Result (Value × List ℕ) Fault
value_at [] = Err Short
value_at (tag ∷ rest) =
    if tag == 1 then (i64_at rest >>= λ n. Ok (Int n.0, n.1))
    else (if tag == 2 then (text_at rest >>= λ text. Ok (Text text.0, text.1))
    else (if tag == 3 then (octets_at rest >>= λ bytes. Ok (Bytes bytes.0, bytes.1))
    else Err (BadTag (suc (length rest)))))

-- a row: a list of at most eight values
abbrev pub spell_row : List Value → List ℕ
spell_row row = spell_list spell_value row

abbrev pub row_at : List ℕ → Result (List Value × List ℕ) Fault
row_at bytes = list_at value_at 8 bytes
