use Rattle.same_laws.proofs.NoClashReports.{none_clashes}
use Rattle.same_laws.proofs.laws.reports_clash_nowhere.Goals as goal

pub returns : goal.returns
returns c = λ document report seen t server calls is alike. none_clashes c.runs_are_orderly.ensures c.runs_keep_invariant.ensures.run document report seen t server calls is alike
