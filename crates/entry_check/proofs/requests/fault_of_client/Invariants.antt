use Rattle.std.proofs.Common.{◌≡◌, drop}
use Rattle.std.specs.List.{list_all}
use Rattle.entry_check.proofs.requests.fault_of_client.Given as goal

abbrev pub invariant-loop-request : goal.invariant-loop-request
invariant-loop-request g l = list_all (g.J.JudgesRequest.test l.judge) (drop l.request l.requests) ≡ list_all (g.J.JudgesRequest.test l.judge) l.requests
