use Rattle.std.proofs.Common.{◌≡◌, drop}
use Rattle.std.specs.List.{list_all}
use Rattle.stored_check.specs.Facts.{marks_in, are_stored}
use Rattle.stored_check.proofs.known.Known.wrong_of_client.Given as goal

abbrev pub invariant-loop-request : goal.invariant-loop-request
invariant-loop-request l = list_all (are_stored (marks_in l.self)) (drop l.request l.requests) ≡ list_all (are_stored (marks_in l.self)) l.requests
