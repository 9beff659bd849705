use Rattle.form_laws.proofs.Served.{served_calls_pass}
use Rattle.form_laws.proofs.laws.served_calls_are_of_scripts.Goals as goal

pub returns : goal.returns
returns c = served_calls_pass
