use Rattle.std.proofs.Common.{sym}
use Rattle.server_session.specs.Running.{Ground}
use Rattle.server_session.proofs.Desks.{ran_places, runs_over}
use Rattle.server_session.proofs.desk.Desk.run.Goals as goal

pub returns : goal.returns
returns g c =
    let state = g.D.Disk.state in
    let ground : Ground = record { tables = c.args.tables.now; settings = c.args.settings.now; txn = c.args.txn.now; statements = c.args.statements.now } in
    let places = ran_places g.row.D.Denot state ground c.args.self.now c.run.new.draws c.run.new.self c.run.result c.requires.prepared c.run.ensures.ran c.run.ensures.ended in
    record {
      ran = rw c.ended_by.ensures (runs_over g.row.D.Denot state ground c.args.self.now c.run.new.draws c.run.new.self c.run.result c.requires.prepared c.run.ensures.ran c.run.ensures.ended c.run.ensures.fits c.run.ensures.unchanged);
      source = sym places.source;
      kept = sym places.kept;
      log = sym places.log;
      disk = sym places.disk;
    }
