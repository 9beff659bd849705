use Rattle.std.proofs.Common.{◌≡◌, drop}
use Rattle.std.specs.List.{list_all}
use Rattle.stored_check.specs.Facts.{marks_in, are_stored}
use Rattle.stored_check.proofs.known.Known.wrong_outcome.Given as goal

abbrev pub invariant-loop-client : goal.invariant-loop-client
invariant-loop-client l = list_all (list_all (are_stored (marks_in l.self))) (drop l.client l.clients) ≡ list_all (list_all (are_stored (marks_in l.self))) l.clients
