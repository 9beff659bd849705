use Rattle.same_laws.proofs.SameEnd.{same_reported}
use Rattle.same_laws.proofs.laws.reports_are_same.Goals as goal

pub returns : goal.returns
returns c = λ document report seen t server is over. same_reported document report seen t server is over
