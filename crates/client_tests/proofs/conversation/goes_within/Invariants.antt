use Rattle.driver_core.specs.Driving.{ArePast}
use Rattle.client_tests.proofs.conversation.goes_within.Given as goal

abbrev pub invariant-loop-lines : goal.invariant-loop-lines
invariant-loop-lines g l = ArePast l.driver.talk l.now
