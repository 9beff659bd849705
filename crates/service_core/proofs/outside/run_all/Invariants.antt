use Rattle.std.proofs.Common.{drop}
use Rattle.svc_values.specs.meaning.Identifiers.{session_of}
use Rattle.service_core.proofs.Throughout.{SoFar}
use Rattle.service_core.proofs.outside.run_all.Given as goal

abbrev pub invariant-loop-call : goal.invariant-loop-call
invariant-loop-call g l = SoFar l.now (session_of l.initial.session.ltxid) l.calls (drop l.call-index l.calls) l.runs.items l.initial.session l.initial.core (g.D.Disk.state l.initial.disk) l.session l.core (g.D.Disk.state l.disk)
