use Rattle.same_laws.proofs.entries.SameEntries.{entries_reported, same_over}
use Rattle.same_laws.proofs.laws.entries_make_same.Goals as goal

pub returns : goal.returns
returns c = record { state = λ granted t whole same. same_over granted t whole same; report = entries_reported c.runs_keep_invariant.ensures.reached c.reports_are_same.ensures }
