use Rattle.std.proofs.Common.{◌≡◌}
use Rattle.client_model.specs.meaning.Talk.{settled}
use Rattle.driver_core.proofs.request.put_all.Given as goal

abbrev pub invariant-loop-name : goal.invariant-loop-name
invariant-loop-name l = settled l.settings l.name-iterator.rest.items ≡ settled l.initial.settings l.fn.sets.items
