use Rattle.stmt_meaning.proofs.Reruns.{RanAt-at_once, rerun-whole, rerun-transaction}
use Rattle.stmt_meaning.proofs.laws.unchanged_runs_same.Goals as goal

pub returns-clause-same : goal.returns-clause-same
returns-clause-same c = λ shape now settings settings_after own own_after moments in_now ordered ran stand. RanAt-at_once shape now settings_after own_after settings own moments in_now ordered ran stand

pub returns-clause-whole : goal.returns-clause-whole
returns-clause-whole c = λ shape now settings settings_after own_after moments in_now ordered ran stand. rerun-whole shape now settings_after own_after settings moments in_now ordered ran stand

pub returns-clause-serial : goal.returns-clause-serial
returns-clause-serial c = λ shape now settings settings_after own_after moments in_now ordered ran stand last. rerun-transaction shape now settings_after own_after settings moments in_now ordered ran stand last
