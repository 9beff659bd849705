use Rattle.driver_core.specs.Driving.{ArePast}
use Rattle.client_tests.proofs.conversation.goes_on.Given as goal

abbrev pub invariant-loop-tick : goal.invariant-loop-tick
invariant-loop-tick g l = ArePast l.driver.talk l.now
