use Rattle.std.proofs.Common.{◌≡◌, ◌<◌, ◌++◌, ◌∙◌, List, length, map, take, drop, sym, ap, subst, rules, arith}
use Rattle.std.proofs.Math.ListN.{set}
use Rattle.std.proofs.lemmas.Grind.{common_steps}
use Rattle.std.proofs.lemmas.List.Edits.{map_over_more}
use Rattle.std.proofs.lemmas.List.Elements.{All-set}
use Rattle.std.specs.Prelude.{IsTrue}
use Rattle.mutable_values.specs.declared.source.SeqState.{SeqState}
use Rattle.mutable_values.specs.Sources.{are_sequences}
use Rattle.server_model.specs.Core.{reopened}
use Rattle.service_core.specs.Resting.{leaves_room}
use Rattle.service_core.proofs.Renewing.{still_sequences}
use Rattle.service_core.proofs.again.renewed.Goals as goal

pub loop-sequence-preserved : goal.loop-sequence-preserved
loop-sequence-preserved c =
    let at = c.loop-sequence.sequence-index in
    let items = c.loop-sequence.sequence-items in
    let here : at < length items = omega arith in
    let there : at < length c.args.core.source.sequences = omega (arith, ap length c.deref_mut-sequence-items.ensures.value, ap length c.into_sequences-sequences.ensures) in
    record {
      so_far = ap (λ (s : SeqState). set items at s) (c.go_behind.ensures ∙ ap reopened (sym c.sequence-item.is))
          ∙ map_over_more reopened c.args.core.source.sequences items at c.sequence-item.result there c.loop-sequence.invariant.so_far c.sequence-item.is;
      room = All-set (λ (s : SeqState). IsTrue (leaves_room s)) items at c.go_behind.new.sequence
          (subst (λ (s : SeqState). IsTrue (leaves_room s)) (sym c.go_behind.ensures) (c.loop-sequence.invariant.room at c.sequence-item.result here)) c.loop-sequence.invariant.room;
    }

pub new-requires : goal.new-requires
new-requires c =
    let made = c.into_sequences-sequences.result in
    let items = c.loop-sequence.sequence-items in
    let same : take made.len (items ++ drop (length items) made.items) ≡ map reopened c.args.core.source.sequences = first_of (search rules, grind (arith, common_steps)) in
    subst (λ (states : List SeqState). IsTrue (are_sequences states)) (sym same) (still_sequences c.args.core.source.sequences c.requires.sequences)
