use Rattle.server_session.proofs.Cores.{line_stores}
use Rattle.server_session.proofs.alter.store_line.Goals as goal

pub returns : goal.returns
returns g c =
    let state = g.D.Disk.state in
    rw c.stored.ensures (line_stores c.args.core.now (state c.args.disk.now) c.args.line.now c.alert.new.self (state c.alert.new.disk) c.alert.result c.requires c.alert.ensures)
