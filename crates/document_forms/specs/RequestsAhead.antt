-- A request whose members are read one after the other.
use Rattle.std.specs.Prelude.{◌≡◌, ℕ, List, [], ◌∷◌, Some, option_map, Ok, codes}
use Rattle.json.specs.Token.{Token}
use Rattle.serde_json.specs.Data.{Data}
use Rattle.json_form.specs.declared.hexadecimal.Digits.TheVariants as digits
use Rattle.json_form.specs.meaning.Values.{whole_of}
use Rattle.json_form.specs.meaning.Arrays.{array_of, each_of}
use Rattle.json_form.specs.meaning.Objects.{Named}
use Rattle.json_form.specs.Objects.{putting}
use Rattle.json_form.specs.Streams.{value_ahead}
use Rattle.call_forms.specs.meaning.Calls.{call_of}
use Rattle.document_forms.specs.declared.script_ahead.RequestAhead.{RequestAhead}
use Rattle.document_forms.specs.meaning.Scripts.{settings_of}

abbrev pub request_members : List (List ℕ)
request_members = codes "settings" ∷ codes "calls" ∷ codes "again" ∷ []

-- what was read is what these members are read as
pub record IsRequestRead (ahead : RequestAhead) (ms : Named) : Type 0 where
  pub settings : option_map settings_of (ms (codes "settings")) ≡ option_map
      (λ settings. Ok settings) ahead.settings
  pub calls : option_map (array_of 1 1024 (each_of (call_of digits.Any)))
      (ms (codes "calls")) ≡ option_map (λ calls. Ok calls) ahead.calls
  pub again : option_map (whole_of 0 4) (ms (codes "again")) ≡ option_map
      (λ again. Ok again) ahead.again

-- the tokens begin with a value, and once it was passed it is read with the members before as the
-- one at this name
abbrev pub PassesMember : ℕ → List ℕ → RequestAhead → List Token → RequestAhead → List Token
    → Type 0
PassesMember depth name old ts new rest = (d : Data) × (value_ahead depth ts ≡ Some (d, rest))
    × ((ms : Named) → IsRequestRead old ms → IsRequestRead new (putting name d ms))
