use Rattle.invariant_laws.specs.Once.{none_foreign}
use Rattle.fresh_laws.proofs.OwnValues.{values_own}
use Rattle.fresh_laws.proofs.OwnedValues.{at_end}
use Rattle.fresh_laws.proofs.laws.values_are_own.Goals as goal

pub returns-clause-so_far : goal.returns-clause-so_far
returns-clause-so_far c = values_own c.runs_are_orderly.ensures c.runs_serve.ensures c.runs_legal.ensures c.runs_fresh_new.ensures

pub returns-clause-whole : goal.returns-clause-whole
returns-clause-whole c = at_end none_foreign (values_own c.runs_are_orderly.ensures c.runs_serve.ensures c.runs_legal.ensures c.runs_fresh_new.ensures)
