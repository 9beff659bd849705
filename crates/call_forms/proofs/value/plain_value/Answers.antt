use Rattle.std.proofs.Common.{◌≡◌, Ok, List, ℕ, sym, subst, ◌∙◌, w64, FitsSigned, rules, arith}
use Rattle.std.specs.Prelude.{IfSome}
use Rattle.std.proofs.lemmas.Int.{to_z-of_z}
use Rattle.json.specs.Token.{Token}
use Rattle.serde_json.specs.Data.{string}
use Rattle.svc_values.specs.declared.value.Value.TheVariants as value
use Rattle.call_forms.specs.meaning.Values.{line_of}
use Rattle.call_forms.specs.ValuesAhead.{IsPlain}
use Rattle.call_forms.proofs.ValuesAhead.{line_told, text_plain, integer_plain}
use Rattle.call_forms.proofs.value.plain_value.Goals as goal

pub returns-in_ok-text-in-String : goal.returns-in_ok-text-in-String
returns-in_ok-text-in-String c =
    let text = c.in-String.text.now in
    let told = line_told text c.new.result c.new.ensures.made c.new.ensures.long in
    let read = subst (λ o. IfSome o (λ (line : List ℕ). line_of (string text) ≡ Ok line)) (sym c.ok.ensures.value ∙ c.in_ok-text-in-String.was) told in
    rw c.in-String.is (text_plain text c.in_ok-text-in-String.text read)

pub returns-in_ok-number-in-Number : goal.returns-in_ok-number-in-Number
returns-in_ok-number-in-Number c =
    let z = c.in_ok-number-in-Number.number in
    let fits : FitsSigned w64 z = search (rules, arith) in
    let plain = integer_plain c.in-Number.text.now z c.in_ok-number-in-Number.ensures fits in
    rw c.in-Number.is (subst (λ n. IsPlain (Token.number c.in-Number.text.now) (value.Int n)) (sym (to_z-of_z w64 z fits)) plain)
