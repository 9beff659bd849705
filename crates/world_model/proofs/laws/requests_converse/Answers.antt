use Rattle.world_model.proofs.script.KeptTalks.{talks_begin, talks_are_kept, conversations_law}
use Rattle.world_model.proofs.laws.requests_converse.Goals as goal

pub returns-clause-start : goal.returns-clause-start
returns-clause-start c = talks_begin

pub returns-clause-event : goal.returns-clause-event
returns-clause-event c = talks_are_kept

pub returns-clause-acts : goal.returns-clause-acts
returns-clause-acts c = conversations_law
