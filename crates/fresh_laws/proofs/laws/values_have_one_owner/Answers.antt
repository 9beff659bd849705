use Rattle.invariant_laws.specs.Once.{owned}
use Rattle.fresh_laws.proofs.OwnedValues.{at_end, values_owned}
use Rattle.fresh_laws.proofs.laws.values_have_one_owner.Goals as goal

pub returns-clause-so_far : goal.returns-clause-so_far
returns-clause-so_far c = values_owned c.runs_are_orderly.ensures c.runs_serve.ensures c.runs_legal.ensures c.runs_fresh_new.ensures

pub returns-clause-whole : goal.returns-clause-whole
returns-clause-whole c = at_end owned (values_owned c.runs_are_orderly.ensures c.runs_serve.ensures c.runs_legal.ensures c.runs_fresh_new.ensures)
