use Rattle.std.proofs.Common.{ap, sym, ◌∙◌}
use Rattle.std.proofs.lemmas.Int.{to_z-of_z}
use Rattle.std.specs.Int.{w64}
use Rattle.std.specs.Prelude.{Some}
use Rattle.server_model.specs.meaning.NewValues.{gave}
use Rattle.legal_draws.proofs.WaysTaken.{no_way_gives, way_gives}
use Rattle.legal_draws.proofs.count.Count.after.Goals as goal

pub returns-in_default : goal.returns-in_default
returns-in_default c =
    let bits = to_z-of_z w64 c.args.value c.ranges.value in
    sym (no_way_gives c.args.self.now.maybe c.args.self.now c.args.value (λ blocks within is. c.in_default.ensures blocks (within, bits ∙ is)))

pub returns : goal.returns
returns c =
    let bits = to_z-of_z w64 c.args.value c.ranges.value in
    ap Some (c.in_ok-gave.ensures ∙ ap gave c.in_ok-way.ensures)
    ∙ sym (way_gives c.args.self.now.maybe c.in-Some.blocks c.args.self.now c.args.value c.in-Some.ensures.0 (sym bits ∙ c.in-Some.ensures.1))
