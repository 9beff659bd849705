use Rattle.world_model.proofs.basic.KeptSessions.{apart_law, made_law, counted_law, named_law}
use Rattle.world_model.proofs.laws.sessions_stay_apart.Goals as goal

pub returns-clause-apart : goal.returns-clause-apart
returns-clause-apart c = apart_law

pub returns-clause-made : goal.returns-clause-made
returns-clause-made c = made_law

pub returns-clause-counted : goal.returns-clause-counted
returns-clause-counted c = counted_law

pub returns-clause-named : goal.returns-clause-named
returns-clause-named c = named_law
