use Rattle.std.proofs.Common.{◌∙◌, refl, sym}
use Rattle.stored_check.proofs.BlocksOn.{wrong_not, done_if}
use Rattle.stored_check.proofs.blocks.Blocking.fault.Goals as goal

pub returns-then-is_some : goal.returns-then-is_some
returns-then-is_some c = λ blocks is. wrong_not c.args.self.now.wrong c.args.self.now blocks is refl (sym c.is_some.ensures ∙ c.if-is_some.true)

pub returns-then-is_empty : goal.returns-then-is_empty
returns-then-is_empty c = λ blocks is. done_if c.args.self.now blocks is (sym c.is_some.ensures ∙ c.if-is_some.false) _ (sym c.is_empty.ensures ∙ c.if-is_empty.true)

pub returns : goal.returns
returns c = λ blocks is. done_if c.args.self.now blocks is (sym c.is_some.ensures ∙ c.if-is_some.false) _ (sym c.is_empty.ensures ∙ c.if-is_empty.false)
