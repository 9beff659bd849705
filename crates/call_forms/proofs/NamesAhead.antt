-- A name that was read from its token.
use Rattle.std.proofs.Common.{◌≡◌, ℕ, List, ◌∷◌, Bool, true, false, Some, Result, Ok, Err, refl, sym, ap, ◌∙◌}
use Rattle.std.specs.Prelude.{IfOk, IfSome, IsErrOf, ◌↔◌, if◌then◌else◌}
use Rattle.std.specs.Result.{result_ok}
use Rattle.json.specs.Token.{Token}
use Rattle.json.specs.Json.{parse_map}
use Rattle.json.proofs.Grammar.{value_is}
use Rattle.serde_json.specs.Read.{of_json, converted}
use Rattle.json_form.specs.declared.fault.DocCode.TheVariants.{Limit}
use Rattle.json_form.specs.meaning.Faults.{here}
use Rattle.json_form.specs.Streams.{value_ahead, Begins}
use Rattle.svc_values.specs.declared.text.NameFault.{NameFault}
use Rattle.svc_values.specs.declared.text.NameFault.TheVariants.{BadName}
use Rattle.svc_values.specs.meaning.Texts.{is_name}
use Rattle.call_forms.specs.meaning.Values.{name_of}

abbrev made : List ℕ → Result (List ℕ) NameFault
made name = Ok name

not_bad : (b : Bool) (name : List ℕ) → (b ≡ false → IsErrOf (made name) BadName) → b ≡ true
not_bad true name bad = refl
not_bad false name bad = let never = bad refl in absurd (cc)

pub name_begins : (depth : ℕ) (text : List ℕ) (ts r : List Token) (told : Result (List ℕ) NameFault) → ts ≡ Token.string text ∷ r → IfOk told (λ name. name ≡ text) → (IsErrOf told BadName ↔ (is_name text ≡ false))
    → IfSome (result_ok told) (λ name. Begins name_of depth ts name r)
unfolding name_of
name_begins depth text ts r (Err e) first same bad = tt
name_begins depth text ts r (Ok name) first same bad =
    ap (λ ks. parse_map name_of (value_ahead depth ks)) first ∙ ap (λ o. parse_map name_of (converted of_json o)) (value_is depth (Token.string text ∷ r))
    ∙ ap (λ b. Some (if b then Ok text else Err (here Limit), r)) (not_bad (is_name text) name bad.1) ∙ ap (λ t. Some (Ok t, r)) (sym same)
