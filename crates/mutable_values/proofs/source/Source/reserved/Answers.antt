use Rattle.std.proofs.Common.{◌≡◌, ℤ, List, ap, ap₂, sym, set, get_or, ◌∙◌}
use Rattle.std.proofs.lemmas.Int.{to_z-of_z}
use Rattle.std.specs.Int.{w64}
use Rattle.mutable_values.specs.declared.source.SeqState.{SeqState}
use Rattle.mutable_values.specs.Sources.{Opening, are_sequences}
use Rattle.mutable_values.proofs.Draws.{reserve_absent, reserve_is, reserve_keeps}
use Rattle.mutable_values.proofs.source.Source.reserved.Goals as goal

pub invariant_of-self : goal.invariant_of-self
invariant_of-self c =
    let opening = c.args.self.now in
    let at = c.in-Some.at in
    let sequence = c.index_mut.result.now in
    let view : c.self.inside.sequences.items ≡ opening.sequences = ap (λ (o : Opening). o.sequences) c.self.view_is in
    let kept = reserve_keeps opening c.args.name.now at sequence c.args.upto (ap are_sequences (sym view) ∙ c.self.invariant) (sym c.place.ensures ∙ c.in-Some.is)
    (c.index_mut.ensures.value ∙ ap (λ l. get_or l at sequence) view) c.requires in
    let after : List SeqState → ℤ → List SeqState = λ l upto. set l at (record sequence { upto = upto }) in
    ap₂ (λ l upto. are_sequences (after l upto)) view (to_z-of_z w64 c.args.upto c.ranges.upto) ∙ kept

pub returns-in-Some : goal.returns-in-Some
returns-in-Some c =
    let opening = c.args.self.now in
    let at = c.in-Some.at in
    let sequence = c.index_mut.result.now in
    let view : c.self.inside.sequences.items ≡ opening.sequences = ap (λ (o : Opening). o.sequences) c.self.view_is in
    let is = reserve_is opening c.args.name.now at sequence c.args.upto (ap are_sequences (sym view) ∙ c.self.invariant) (sym c.place.ensures ∙ c.in-Some.is)
    (c.index_mut.ensures.value ∙ ap (λ l. get_or l at sequence) view) in
    let after : Opening → ℤ → Opening = λ o upto. record o { sequences = set o.sequences at (record sequence { upto = upto }) } in
    ap₂ after c.self.view_is (to_z-of_z w64 c.args.upto c.ranges.upto) ∙ sym is

pub returns-in_default : goal.returns-in_default
returns-in_default c = absurd (reserve_absent c.args.self.now c.args.name.now c.args.upto (sym c.place.ensures ∙ c.in_default.is) c.requires)
