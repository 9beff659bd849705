use Rattle.std.proofs.Common.{◌≡◌, drop}
use Rattle.std.specs.List.{list_all}
use Rattle.entry_check.proofs.requests.fault_of_requests.Given as goal

abbrev pub invariant-loop-client : goal.invariant-loop-client
invariant-loop-client g l =
    list_all (list_all (g.J.JudgesRequest.test l.judge)) (drop l.client l.clients) ≡ list_all (list_all (g.J.JudgesRequest.test l.judge)) l.clients
