use Rattle.standby_ship.proofs.Appending.{SoFar}
use Rattle.standby_ship.proofs.shipping.append_each.Given as goal

abbrev pub invariant-loop-payload : goal.invariant-loop-payload
invariant-loop-payload g l = SoFar l.payloads l.payload-index l.store (g.D.Disk.state l.initial.disk) (g.D.Disk.state l.disk)
