use Rattle.std.proofs.Common.{◌≡◌, ℕ, ℤ, List, Option, Some, int_le, FitsSigned, ap, ap₂, sym, ◌∙◌, refl, rules, set, get_or, position}
use Rattle.std.proofs.lemmas.Int.{to_z-of_z}
use Rattle.std.proofs.lemmas.List.Quantifiers.{position-Some}
use Rattle.std.specs.Int.{w64, cast_signed, cast_unsigned}
use Rattle.std.specs.Str.{bytes_eq}
use Rattle.svc_values.specs.declared.draw.Draw.TheVariants as draw
use Rattle.mutable_values.specs.declared.source.SeqState.{SeqState}
use Rattle.mutable_values.specs.declared.source.Drawn.TheVariants as drawn
use Rattle.mutable_values.specs.Sources.{Opening, DrawnFrom, are_sequences, next_value}
use Rattle.mutable_values.proofs.Draws.{give_keeps, new_past, new_within, placed, same_item}
use Rattle.mutable_values.proofs.Firsts.{sequence_none}
use Rattle.mutable_values.proofs.source.Source.next_value.Goals as goal

pub returns-in_default-clause-none : goal.returns-in_default-clause-none
returns-in_default-clause-none c = (λ err. sequence_none c.args.self.now.sequences c.args.name.now (sym c.place.ensures ∙ c.in_default.is), λ none. refl)

pub returns-then-not-has_value-clause-drawn : goal.returns-then-not-has_value-clause-drawn
returns-then-not-has_value-clause-drawn c = λ kept.
    let opening = c.args.self.now in
    let at = c.in-Some.at in
    let sequence = c.index-sequence.result.now in
    let view : c.self.inside.sequences.items ≡ opening.sequences = ap (λ (o : Opening). o.sequences) c.self.view_is in
    let fits : FitsSigned w64 c.next_end-upto.result = search rules in
    let bits = to_z-of_z w64 c.next_end-upto.result fits ∙ c.next_end-upto.ensures in
    let told : List ℕ → ℤ → Option DrawnFrom = λ name upto. Some (record { answer = drawn.Reserve name upto; opening = opening; kept = kept }) in
    new_past opening kept c.args.name.now 0 at sequence (sym c.place.ensures ∙ c.in-Some.is) (c.index-sequence.ensures ∙ ap (λ l. get_or l at sequence) view) (sym c.has_value.ensures ∙ c.if-not-has_value.true)
    ∙ sym (ap₂ told c.copied-name.ensures bits)

pub returns-then-not-has_value-clause-none : goal.returns-then-not-has_value-clause-none
returns-then-not-has_value-clause-none c = (λ err. absurd (cc), λ none. absurd (placed c.args.self.now.sequences c.args.name.now c.in-Some.at (sym c.place.ensures ∙ c.in-Some.is) none))

pub invariant_of-self : goal.invariant_of-self
invariant_of-self c =
    let items = c.self.inside.sequences.items in
    let name = c.args.name.now in
    let at = c.in-Some.at in
    let sequence = c.index_mut.result.now in
    let view : items ≡ c.args.self.now.sequences = ap (λ (o : Opening). o.sequences) c.self.view_is in
    let place : position (λ one. bytes_eq one.name name) items ≡ Some at = ap (position (λ one. bytes_eq one.name name)) view ∙ sym c.place.ensures ∙ c.in-Some.is in
    let same = same_item items at sequence c.index-sequence.result.now (position-Some (λ one. bytes_eq one.name name) items at sequence place).0 c.index_mut.ensures.value c.index-sequence.ensures in
    let within = ap (λ (s : SeqState). int_le s.next s.upto) same ∙ sym c.has_value.ensures ∙ c.if-not-has_value.false in
    ap (λ s. are_sequences (set items at s)) c.give-value.ensures.rest ∙ give_keeps items name at sequence c.self.invariant place c.index_mut.ensures.value within

pub returns-clause-drawn : goal.returns-clause-drawn
returns-clause-drawn c = λ kept.
    let opening = c.args.self.now in
    let items = c.self.inside.sequences.items in
    let name = c.args.name.now in
    let at = c.in-Some.at in
    let sequence = c.index_mut.result.now in
    let view : items ≡ opening.sequences = ap (λ (o : Opening). o.sequences) c.self.view_is in
    let place : position (λ one. bytes_eq one.name name) opening.sequences ≡ Some at = sym c.place.ensures ∙ c.in-Some.is in
    let is = c.index_mut.ensures.value ∙ ap (λ l. get_or l at sequence) view in
    let same = same_item opening.sequences at sequence c.index-sequence.result.now (position-Some (λ one. bytes_eq one.name name) opening.sequences at sequence place).0 is
    (c.index-sequence.ensures ∙ ap (λ l. get_or l at c.index-sequence.result.now) view) in
    let within = ap (λ (s : SeqState). int_le s.next s.upto) same ∙ sym c.has_value.ensures ∙ c.if-not-has_value.false in
    let fits : FitsSigned w64 c.give-value.result = search rules in
    let told : List ℕ → ℤ → Opening → Option DrawnFrom = λ n value after. Some (record { answer = drawn.Value (draw.Seq n value); opening = after; kept = kept }) in
    let after : Opening → SeqState → Opening = λ o s. record o { sequences = set o.sequences at s } in
    let bits = to_z-of_z w64 c.give-value.result fits ∙ c.give-value.ensures.given in
    new_within opening kept name 0 at sequence (ap are_sequences (sym view) ∙ c.self.invariant) place is within
    ∙ sym (ap₂ (λ n value. told n value (after opening (next_value sequence))) c.copied-name.ensures bits)
    ∙ sym (ap₂ (λ o s. told c.copied-name.result (cast_signed w64 (cast_unsigned w64 c.give-value.result)) (after o s)) c.self.view_is c.give-value.ensures.rest)

pub returns-clause-none : goal.returns-clause-none
returns-clause-none c = (λ err. absurd (cc), λ none. absurd (placed c.args.self.now.sequences c.args.name.now c.in-Some.at (sym c.place.ensures ∙ c.in-Some.is) none))
