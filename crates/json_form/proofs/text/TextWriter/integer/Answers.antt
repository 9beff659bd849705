use Rattle.std.proofs.Common.{ℤ, sym, subst, w64}
use Rattle.std.proofs.lemmas.Int.{to_z-of_z}
use Rattle.std.specs.Fmt.{signed_decimal}
use Rattle.json.specs.Token.{Token}
use Rattle.json_form.specs.Numbers.{IsShort}
use Rattle.json_form.proofs.ShortNumbers.{integer_short, written_short}
use Rattle.json_form.proofs.text.TextWriter.integer.Goals as goal

pub invariant_of-self : goal.invariant_of-self
invariant_of-self c =
    let passed = sym (to_z-of_z w64 c.args.number c.ranges.number) in
    let short = subst (λ (z : ℤ). IsShort (Token.number (signed_decimal z))) passed (integer_short c.args.number c.ranges.number) in
    written_short c.i64.result c.self.inside.writer c.i64.new.self _ c.i64.ensures short c.self.invariant
