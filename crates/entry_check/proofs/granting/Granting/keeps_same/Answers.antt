use Rattle.std.proofs.Common.{◌∙◌, ◌&&◌, ◌+◌, Bor, List, sym, ap, drop, arith}
use Rattle.std.specs.List.{filter}
use Rattle.svc_values.specs.declared.draw.Draw.{Draw}
use Rattle.svc_values.specs.meaning.Same.{same_draw, same_draws}
use Rattle.entry_check.specs.InnerGranting.{keeps}
use Rattle.entry_check.proofs.Granted.{none_kept, some_kept, not_kept, all_kept}
use Rattle.entry_check.proofs.Compared.{none_is, other_is, same_is}
use Rattle.entry_check.proofs.granting.Granting.keeps_same.Goals as goal
use Rattle.entry_check.proofs.granting.Granting.keeps_same.Goals.{then-keeps+in-Some+else-ne, else-keeps}

pub returns-in_default : goal.returns-in_default
returns-in_default c =
    sym (none_kept (keeps c.args.self.now.kinds c.args.self.now.sequences.now) c.args.left.now c.loop-draw.rest.now c.draw-item.result c.loop-draw.draw-index
    c.loop-draw-test.true c.draw-item.is (sym c.keeps.ensures ∙ c.if-keeps.true) c.in_default.ensures)
    ∙ c.loop-draw.invariant

pub returns-then-ne : goal.returns-then-ne
returns-then-ne c =
    let kept = keeps c.args.self.now.kinds c.args.self.now.sequences.now in
    let one = c.draw-item.result in
    let first = c.in-Some.first in
    let other = other_is one first.draw.now _ same_draw c.tests_equality.ensures.draws (sym c.ne.ensures ∙ c.if-ne.true) in
    sym (some_kept kept c.args.left.now c.loop-draw.rest.now one c.loop-draw.draw-index c.loop-draw-test.true c.draw-item.is (sym c.keeps.ensures ∙ c.if-keeps.true) first.draw.now first.behind.now c.in-Some.ensures
    ∙ ap (λ b. b && same_draws (filter kept (drop (c.loop-draw.draw-index + 1) c.args.left.now)) (filter kept first.behind.now)) other)
    ∙ c.loop-draw.invariant

pub loop-draw-preserved : goal.loop-draw-preserved
loop-draw-preserved c =
    let kept = keeps c.args.self.now.kinds c.args.self.now.sequences.now in
    let left = c.args.left.now in
    let old = c.loop-draw.rest.now in
    let one = c.draw-item.result in
    let i = c.loop-draw.draw-index in
    let rest = filter kept (drop (i + 1) left) in
    elim c.if-keeps.branch [
      | then-keeps+in-Some+else-ne w ↦
          let first = w.in-Some.first in
          let same = same_is one first.draw.now _ same_draw c.tests_equality.ensures.draws (sym w.ne.ensures ∙ w.if-ne.false) in
          ap (λ (now : Bor (List Draw)). same_draws rest (filter kept now.now)) w.rest-is
          ∙ sym (some_kept kept left old one i c.loop-draw-test.true c.draw-item.is (sym c.keeps.ensures ∙ w.if-keeps.true) first.draw.now first.behind.now w.in-Some.ensures
          ∙ ap (λ b. b && same_draws rest (filter kept first.behind.now)) same)
          ∙ c.loop-draw.invariant
      | else-keeps w ↦
          ap (λ (now : Bor (List Draw)). same_draws rest (filter kept now.now)) w.rest-is
          ∙ sym (not_kept kept left old one i c.loop-draw-test.true c.draw-item.is (sym c.keeps.ensures ∙ w.if-keeps.false))
          ∙ c.loop-draw.invariant
    ]

pub returns : goal.returns
returns c =
    none_is c.is_none.result c.first-2.result c.is_none.ensures
    ∙ all_kept (keeps c.args.self.now.kinds c.args.self.now.sequences.now) c.args.left.now c.loop-draw.rest.now c.loop-draw.draw-index (omega arith) c.first-2.result c.first-2.ensures
    ∙ c.loop-draw.invariant
