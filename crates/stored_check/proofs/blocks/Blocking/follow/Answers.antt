use Rattle.std.proofs.Common.{◌∙◌, refl, sym}
use Rattle.stored_check.specs.Blocking.{answered_as}
use Rattle.stored_check.proofs.BlocksOn.{stays_at, left_at, comes_at, has_first}
use Rattle.stored_check.proofs.blocks.Blocking.follow.Goals as goal

pub returns-then-has : goal.returns-then-has
returns-then-has c = λ blocks is. stays_at c.args.self.now blocks (answered_as c.args.one.now) is (sym c.has.ensures.blocked ∙ c.if-has.true)

pub returns-then-not-is_next : goal.returns-then-not-is_next
returns-then-not-is_next c = λ blocks is. left_at c.args.self.now _ blocks (answered_as c.args.one.now) is (sym c.has.ensures.blocked ∙ c.if-has.false) (sym c.is_next.ensures ∙ c.if-not-is_next.true) refl refl c.missed-self.ensures

pub behind_first-self-requires : goal.behind_first-self-requires
behind_first-self-requires c = has_first c.args.self.now.coming.now c.args.one.now.ltxid (sym c.is_next.ensures ∙ c.if-not-is_next.false)

pub returns : goal.returns
returns c = λ blocks is. comes_at c.args.self.now _ blocks (answered_as c.args.one.now) is (sym c.has.ensures.blocked ∙ c.if-has.false) (sym c.is_next.ensures ∙ c.if-not-is_next.false) c.in_ok-add.ensures.blocked c.behind_first-self.ensures refl
