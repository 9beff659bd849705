use Rattle.same_laws.proofs.RunsStarts.{settings_carried}
use Rattle.same_laws.proofs.laws.begins_carry_settings.Goals as goal

pub returns : goal.returns
returns c = settings_carried
