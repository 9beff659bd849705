use Rattle.std.proofs.Common.{ap, ap₂, sym, ◌∙◌, rules, FitsSigned}
use Rattle.std.proofs.lemmas.Int.{to_z-of_z}
use Rattle.std.specs.Int.{w64}
use Rattle.std.specs.Prelude.{Some}
use Rattle.std.specs.Option.{option_copied}
use Rattle.svc_values.specs.declared.draw.Draw.TheVariants as draw
use Rattle.server_model.specs.meaning.NewValues.{Count, with_way}
use Rattle.legal_draws.proofs.WaysGiven.{given_way, is_found}
use Rattle.legal_draws.proofs.numbers.Numbers.given_value.Goals as goal

pub unwrap-requires : goal.unwrap-requires
unwrap-requires c = is_found c.args.self.now c.args.name.now c.args.blocks c.count.result c.count.ensures c.requires

pub returns : goal.returns
returns c =
    let numbers = c.args.self.now in
    let name = c.args.name.now in
    let count = c.unwrap.result.now in
    let fits : FitsSigned w64 c.next.result = search rules in
    let some = sym (ap option_copied c.unwrap.ensures) ∙ c.count.ensures in
    given_way numbers name count c.args.blocks some c.requires
    ∙ sym (ap Some (ap₂ (λ given after. (given, after))
    (ap₂ draw.Seq c.copied.ensures (to_z-of_z w64 c.next.result fits ∙ c.next.ensures ∙ ap (λ (way : Count). way.next) c.in_ok-way.ensures))
    (c.in_ok-after.ensures ∙ ap (with_way numbers name) c.in_ok-way.ensures)))
