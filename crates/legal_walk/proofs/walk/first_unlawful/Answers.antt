use Rattle.std.proofs.Common.{◌+◌, ◌&&◌, Bool, drop, map, refl, sym, ap, ◌∙◌}
use Rattle.server_model.specs.meaning.Legal.{items_hold}
use Rattle.server_model.specs.meaning.Walk.{walk_of}
use Rattle.plain_items.specs.Views.{item_as}
use Rattle.legal_walk.specs.Items.{after_item}
use Rattle.legal_walk.proofs.Looping.{base_of, starts, items_next, items_end}
use Rattle.legal_walk.proofs.walk.first_unlawful.Goals as goal

pub loop-at-init : goal.loop-at-init
loop-at-init c = λ base start. (walk_of base c.args.entries.now, (c.in_ok-walker.ensures base start, refl))

pub step-requires : goal.step-requires
step-requires c =
    let here = c.loop-at.invariant (base_of c.args.start) (starts c.args.start) in
    (base_of c.args.start, (here.0, here.1.0))

pub returns-then-not-branch : goal.returns-then-not-branch
returns-then-not-branch c = λ base start.
    let here = c.loop-at.invariant base start in
    let item = c.index-items-at.result in
    let rest = items_hold base (after_item base here.0 (item_as item)) (map item_as (drop (c.loop-at.at + 1) c.args.items.now)) in
    sym (here.1.1 ∙ items_next base here.0 c.args.items.now c.loop-at.at item c.loop-at-test.true c.index-items-at.is
    ∙ ap (λ (b : Bool). b && rest) (sym (c.in_ok-step.ensures base here.0 here.1.0).0 ∙ c.if-not-branch.true))

pub loop-at-preserved : goal.loop-at-preserved
loop-at-preserved c = λ base start.
    let here = c.loop-at.invariant base start in
    let item = c.index-items-at.result in
    let step = c.in_ok-step.ensures base here.0 here.1.0 in
    let rest = items_hold base (after_item base here.0 (item_as item)) (map item_as (drop (c.loop-at.at + 1) c.args.items.now)) in (
      after_item base here.0 (item_as item),
      (
        step.1 c.if-not-branch.false,
        here.1.1 ∙ items_next base here.0 c.args.items.now c.loop-at.at item c.loop-at-test.true c.index-items-at.is ∙ ap (λ (b : Bool). b && rest) (sym step.0 ∙ c.if-not-branch.false),
      ),
    )

pub returns-then-is_done : goal.returns-then-is_done
returns-then-is_done c = λ base start.
    let here = c.loop-at.invariant base start in
    sym c.if-is_done.true ∙ (c.is_done.ensures base here.0 here.1.0 ∙ sym (here.1.1 ∙ items_end base here.0 c.args.items.now c.loop-at.at c.loop-at-test.false))

pub returns : goal.returns
returns c = λ base start.
    let here = c.loop-at.invariant base start in
    sym c.if-is_done.false ∙ (c.is_done.ensures base here.0 here.1.0 ∙ sym (here.1.1 ∙ items_end base here.0 c.args.items.now c.loop-at.at c.loop-at-test.false))
