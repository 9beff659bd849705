use Rattle.form_laws.proofs.Events.{events_are_fit}
use Rattle.form_laws.proofs.laws.events_are_fit.Goals as goal

pub returns : goal.returns
returns c = events_are_fit
