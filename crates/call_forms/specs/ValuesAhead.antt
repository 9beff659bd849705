-- Values that are read from their tokens.
use Rattle.std.specs.Prelude.{◌≡◌, ℕ, List, ◌∷◌, Some, None, Ok}
use Rattle.json.specs.Token.{Token}
use Rattle.serde_json.specs.Data.{Data}
use Rattle.serde_json.specs.Find.{as_object}
use Rattle.json_form.specs.declared.hexadecimal.Digits.{Digits}
use Rattle.json_form.specs.Streams.{value_ahead}
use Rattle.svc_values.specs.declared.value.Value.{Value}
use Rattle.call_forms.specs.meaning.Values.{value_of}

-- the token alone is a value that is no object and is read as this
abbrev pub IsPlain : Token → Value → Type 0
IsPlain token x = (d : Data) × ((depth : ℕ) (rest : List Token)
    → value_ahead depth (token ∷ rest) ≡ Some (d, rest)) × (as_object d ≡ None)
    × ((digits : Digits) → value_of digits d ≡ Ok x)
