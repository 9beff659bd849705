use Rattle.service_core.proofs.Renewing.{opens_short, opens_whole}
use Rattle.service_core.proofs.resting.Resting.add_opening.Goals as goal

pub returns-in-Ok : goal.returns-in-Ok
returns-in-Ok g c =
    let disk = g.D.Disk.state c.args.disk.now in
    let mid = g.D.Disk.state c.raise.new.disk in
    opens_whole c.args.horizon c.args.self.now disk c.requires.journal c.raise.new.self mid c.in-Ok.ensures c.raises_horizon.ensures c.begin.result c.begin.new.self (g.D.Disk.state c.begin.new.disk) c.begin.ensures

pub returns-in-Err : goal.returns-in-Err
returns-in-Err g c =
    let disk = g.D.Disk.state c.args.disk.now in
    opens_short c.args.horizon c.args.self.now disk c.requires.journal c.in-Err.fault c.raise.new.self (g.D.Disk.state c.raise.new.disk) c.in-Err.ensures
