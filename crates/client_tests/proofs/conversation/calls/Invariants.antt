use Rattle.std.proofs.Common.{◌≡◌, length}
use Rattle.std.specs.List.{AllByRecursion}
use Rattle.svc_values.specs.Calls.{IsMade}
use Rattle.client_tests.proofs.conversation.calls.Given as goal

abbrev pub invariant-loop-does : goal.invariant-loop-does
invariant-loop-does g l = record { made : AllByRecursion IsMade l.calls.items; many : length l.calls.items ≡ l.does-index }
