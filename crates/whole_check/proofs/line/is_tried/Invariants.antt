use Rattle.std.proofs.Common.{◌≡◌, drop}
use Rattle.run_clauses.specs.meaning.Tried.{holds}
use Rattle.whole_check.proofs.line.is_tried.Given as goal

abbrev pub invariant-loop-other : goal.invariant-loop-other
invariant-loop-other l = holds (drop l.other-index l.ids) l.ltxid ≡ holds l.ids l.ltxid
