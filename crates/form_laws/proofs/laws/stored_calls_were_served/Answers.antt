use Rattle.form_laws.proofs.Stored.{stored_calls_pass}
use Rattle.form_laws.proofs.laws.stored_calls_were_served.Goals as goal

pub returns : goal.returns
returns c = stored_calls_pass
