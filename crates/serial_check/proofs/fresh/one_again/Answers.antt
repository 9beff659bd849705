use Rattle.std.proofs.Common.{◌≡◌, ◌+◌, ◌≤◌, Bool, true, false, List, ◌++◌, length, take, drop, sym, ap, ◌∙◌, subst, arith}
use Rattle.std.specs.Prelude.{if◌then◌else◌}
use Rattle.std.proofs.lemmas.List.{take_all}
use Rattle.svc_values.specs.declared.draw.Draw.{Draw}
use Rattle.serial_check.specs.meaning.Places.{draws_again}
use Rattle.serial_check.specs.Given.{Keeps}
use Rattle.serial_check.proofs.FreshSteps.{draws_front, draws_on, no_draw_left}
use Rattle.serial_check.proofs.fresh.one_again.Goals as goal

pub returns-then-branch : goal.returns-then-branch
returns-then-branch c before keeps =
    let draws = c.args.draws.now in
    let i = c.loop-draw.draw-index in
    let so_far = c.loop-draw.invariant before keeps in
    let told = c.in_ok-comes_again.ensures (before ++ take i draws) so_far.0 in
    let on = draws_on before draws i c.draw-item.result c.loop-draw-test.true c.draw-item.is c.in_ok-comes_again.field-0 told.0 in (
      sym (so_far.1 ∙ (on ∙ ap (λ (t : Bool). if t then true else draws_again (before ++ take (i + 1) draws) (drop (i + 1) draws)) c.if-branch.true)),
      λ never. absurd (let clash : ◌≡◌ {A = Bool} true false = never in cc),
    )

pub loop-draw-preserved : goal.loop-draw-preserved
loop-draw-preserved c before keeps =
    let draws = c.args.draws.now in
    let i = c.loop-draw.draw-index in
    let so_far = c.loop-draw.invariant before keeps in
    let told = c.in_ok-comes_again.ensures (before ++ take i draws) so_far.0 in
    let on = draws_on before draws i c.draw-item.result c.loop-draw-test.true c.draw-item.is c.in_ok-comes_again.field-0 told.0 in (
      subst (Keeps c.comes_again.new.kept) (draws_front before draws i c.draw-item.result c.loop-draw-test.true c.draw-item.is) told.1,
      so_far.1 ∙ (on ∙ ap (λ (t : Bool). if t then true else draws_again (before ++ take (i + 1) draws) (drop (i + 1) draws)) c.if-branch.false),
    )

pub returns : goal.returns
returns c before keeps =
    let draws = c.args.draws.now in
    let i = c.loop-draw.draw-index in
    let so_far = c.loop-draw.invariant before keeps in
    let over : length draws ≤ i = omega (arith, c.loop-draw-test.false) in (
      sym (so_far.1 ∙ no_draw_left before draws i over),
      λ same. subst (λ (l : List Draw). Keeps c.loop-draw.kept (before ++ l)) (take_all i draws over) so_far.0,
    )
