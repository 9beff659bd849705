-- Texts: fixed words, hexadecimal digits, and the bytes of a document.
use Rattle.std.specs.Prelude.{ℕ, ◌&&◌, List, [], ◌∷◌, length, Bool, nat_lt, nat_le, if◌then◌else◌, Option, Some, None, option_and_then, Result, Ok, Err}
use Rattle.std.specs.Str.{bytes_eq, is_utf8}
use Rattle.std.specs.List.{list_any}
use Rattle.serde_json.specs.Data.{Data}
use Rattle.serde_json.specs.Find.{get_item, as_str}
use Rattle.serde_json.specs.Read.{read}
use Rattle.hex.specs.Hex.{decode_of}
use Rattle.hex.specs.declared.error.FromHexError.{FromHexError}
use Rattle.json_form.specs.declared.fault.DocCode.TheVariants.{TooLong, NotJson, Unknown, BadImage}
use Rattle.json_form.specs.declared.hexadecimal.Digits.{Digits}
use Rattle.json_form.specs.declared.hexadecimal.Digits.TheVariants as digits
use Rattle.json_form.specs.meaning.Faults.{Fault, ◌>>=◌, here}
use Rattle.json_form.specs.meaning.Values.{items_of, text_of}

-- what a fixed word stands for: the first of the pairs with this word
abbrev pub chosen : {A : Type 0} → List (List ℕ × A) → List ℕ → Result A Fault
chosen [] word = Err (here Unknown)
chosen (pair ∷ pairs) word = if bytes_eq pair.0 word then Ok pair.1 else chosen pairs word

-- a text that is a fixed word
abbrev pub word_of : {A : Type 0} → List (List ℕ × A) → Data → Result A Fault
word_of pairs d = text_of d >>= chosen pairs

-- what the word stands for, if there is one
abbrev pub named : {A : Type 0} → List (List ℕ × A) → Option (List ℕ) → Result A Fault
named pairs None = Err (here Unknown)
named pairs (Some word) = chosen pairs word

-- what the text that an array begins with stands for
abbrev pub head_of : {A : Type 0} → List (List ℕ × A) → Data → Result A Fault
head_of pairs d = items_of d >>= λ ds. named pairs (option_and_then as_str (get_item 0 ds))

-- what the digits spell
abbrev pub octets_or_fault : Result (List ℕ) FromHexError → Result (List ℕ) Fault
octets_or_fault (Ok bytes) = Ok bytes
octets_or_fault (Err e) = Err (here BadImage)

-- the octets that pairs of hexadecimal digits spell, in either case
abbrev pub octets_in : List ℕ → Result (List ℕ) Fault
octets_in text = octets_or_fault (decode_of text)

-- a digit from A to F
abbrev pub is_capital : ℕ → Bool
is_capital digit = nat_le 65 digit && nat_le digit 70

-- the octets of digits in either case, or in lower case alone
abbrev pub octets_by : Digits → List ℕ → Result (List ℕ) Fault
octets_by digits.Any text = octets_in text
octets_by digits.Lower text = if list_any is_capital text then Err (here BadImage) else octets_in
    text

-- a text of pairs of hexadecimal digits
abbrev pub octets_of : Digits → Data → Result (List ℕ) Fault
octets_of case d = text_of d >>= octets_by case

-- a reading as JSON, if there is one
abbrev pub json_or_fault : Option Data → Result Data Fault
json_or_fault None = Err (here NotJson)
json_or_fault (Some d) = Ok d

-- the JSON value that bytes spell, which have to be UTF-8
abbrev pub json_of : List ℕ → Result Data Fault
json_of bytes = if is_utf8 bytes then json_or_fault (read bytes) else Err (here NotJson)

-- the JSON value that at most so many bytes spell
abbrev pub json_at : ℕ → List ℕ → Result Data Fault
json_at limit bytes = if nat_lt limit (length bytes) then Err (here TooLong) else json_of bytes
