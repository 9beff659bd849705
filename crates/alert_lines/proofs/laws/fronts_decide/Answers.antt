use Rattle.alert_lines.proofs.Going.{none_goes_on, some_go_on}
use Rattle.alert_lines.proofs.laws.fronts_decide.Goals as goal

pub returns-clause-none : goal.returns-clause-none
returns-clause-none c = none_goes_on

pub returns-clause-some : goal.returns-clause-some
returns-clause-some c = some_go_on
