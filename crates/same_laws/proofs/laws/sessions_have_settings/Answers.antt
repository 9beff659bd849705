use Rattle.same_laws.proofs.RunsStarts.{sessions_set}
use Rattle.same_laws.proofs.laws.sessions_have_settings.Goals as goal

pub returns : goal.returns
returns c = sessions_set
