use Rattle.std.proofs.Common.{◌∙◌, refl, sym, ap, arith}
use Rattle.load_document.specs.meaning.Loads.{behind}
use Rattle.load_document.proofs.Steps.{one_step, no_step}
use Rattle.load_document.proofs.drawing.behind.Goals as goal

pub loop-preserved : goal.loop-preserved
loop-preserved c = (
  one_step behind c.args.draws c.loop.counter c.loop.state c.next-state.result c.loop-test.true (λ m. ap (λ x. behind m x) (sym c.next-state.ensures)) ∙ c.loop.invariant.0,
  omega (arith, c.loop-test.true),
)

pub returns : goal.returns
returns c = sym (no_step behind c.args.draws c.loop.counter c.loop.state c.loop-test.false refl) ∙ c.loop.invariant.0
