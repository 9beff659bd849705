use Rattle.std.proofs.Common.{◌≡◌, ◌≤◌, ℤ, length, to_z, of_z, w64, FitsSigned, sym, subst, ap, ◌∙◌, arith, rules}
use Rattle.std.proofs.lemmas.Bool.{eqb-true}
use Rattle.std.proofs.lemmas.Int.{to_z-of_z}
use Rattle.json.specs.Token.{Token}
use Rattle.svc_values.specs.declared.value.Value.TheVariants as value
use Rattle.call_forms.specs.ValuesAhead.{IsPlain}
use Rattle.call_forms.proofs.Offered.{integer_plain}
use Rattle.answer_forms.proofs.KnownItems.{line_plain}
use Rattle.answer_forms.proofs.rows_ahead.is_value.Goals as goal

pub returns-in-Text : goal.returns-in-Text
returns-in-Text c = λ held.
    let same : c.in-String.text.now ≡ c.as_str.result.now = search (rules, held) in
    let short : length c.in-Text.line ≤ 64 = omega (arith, c.as_str.ensures.short, ap length c.as_str.ensures.text) in
    rw (c.in-String.is, c.in-Text.is) (line_plain c.in-String.text.now c.in-Text.line (same ∙ c.as_str.ensures.text) short)

pub returns-in-Some : goal.returns-in-Some
returns-in-Some c = λ held.
    let found = c.in-Some.number in
    let known = c.in-Int.known in
    let fits : FitsSigned w64 found = search (rules, arith) in
    let known_fits : FitsSigned w64 known = search (rules, arith) in
    let bits : of_z w64 found ≡ of_z w64 known = eqb-true (of_z w64 found) (of_z w64 known) held in
    let same : found ≡ known = sym (to_z-of_z w64 found fits) ∙ ap (to_z w64) bits ∙ to_z-of_z w64 known known_fits in
    rw (c.in-Number.is, c.in-Int.is) (subst (λ (z : ℤ). IsPlain (Token.number c.in-Number.text.now) (value.Int z)) same (integer_plain c.in-Number.text.now found c.in-Some.ensures fits))
