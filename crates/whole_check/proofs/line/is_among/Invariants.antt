use Rattle.std.proofs.Common.{◌≡◌, drop}
use Rattle.std.specs.List.{list_any}
use Rattle.svc_values.specs.meaning.Identifiers.{same_session}
use Rattle.whole_check.proofs.line.is_among.Given as goal

abbrev pub invariant-loop-other : goal.invariant-loop-other
invariant-loop-other l = list_any (same_session l.session) (drop l.other-index l.sessions) ≡ list_any (same_session l.session) l.sessions
