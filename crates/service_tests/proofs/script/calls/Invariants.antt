use Rattle.std.specs.List.{AllByRecursion}
use Rattle.svc_values.specs.Calls.{IsMade}
use Rattle.service_tests.proofs.script.calls.Given as goal

abbrev pub invariant-loop-does : goal.invariant-loop-does
invariant-loop-does g l = AllByRecursion IsMade l.calls.items
