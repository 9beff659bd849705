use Rattle.invariant_laws.proofs.sendings.KeptOuts.{outs_law}
use Rattle.invariant_laws.proofs.once_laws.calls_that_are_out_wait.Goals as goal

pub returns : goal.returns
returns c = outs_law
