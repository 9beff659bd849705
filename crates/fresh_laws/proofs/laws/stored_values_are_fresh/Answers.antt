use Rattle.fresh_laws.proofs.FreshRuns.{stored_fresh}
use Rattle.fresh_laws.proofs.OwnedValues.{at_end}
use Rattle.fresh_laws.proofs.laws.stored_values_are_fresh.Goals as goal

pub returns-clause-so_far : goal.returns-clause-so_far
returns-clause-so_far c = stored_fresh c.runs_are_orderly.ensures c.runs_serve.ensures c.runs_legal.ensures c.runs_fresh_new.ensures

pub returns-clause-whole : goal.returns-clause-whole
returns-clause-whole c = at_end _ (stored_fresh c.runs_are_orderly.ensures c.runs_serve.ensures c.runs_legal.ensures c.runs_fresh_new.ensures)
