use Rattle.stmt_meaning.proofs.Reruns.{RanAt-more, reads-more}
use Rattle.stmt_meaning.proofs.laws.runs_go_on.Goals as goal

pub returns : goal.returns
returns c = λ shape settings settings_after own own_after moments last meant ran replays. (RanAt-more shape last meant moments settings settings_after own own_after ran replays, reads-more shape last meant moments settings settings_after own own_after ran replays)
