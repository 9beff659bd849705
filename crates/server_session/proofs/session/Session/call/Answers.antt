use Rattle.server_session.proofs.Storeless.{disable_told, rollback_told, set_told}
use Rattle.server_session.proofs.session.Session.call.Goals as goal

pub returns-in_ok-told-in-Set : goal.returns-in_ok-told-in-Set
returns-in_ok-told-in-Set g c =
    set_told c.args.call.now c.args.replay c.args.kept.now c.args.now c.in_ok-told-in-Set.told c.args.self.now c.set.new.self c.args.core.now (g.D.Disk.state c.args.disk.now) c.requires.fits c.requires.belongs
    c.in-Set.name c.in-Set.value c.in-Set.is c.in_ok-told-in-Set.ensures.told c.in_ok-told-in-Set.ensures.seen

pub returns-in_ok-told-in-Disable : goal.returns-in_ok-told-in-Disable
returns-in_ok-told-in-Disable g c =
    disable_told c.args.call.now c.args.replay c.args.kept.now c.args.now c.in_ok-told-in-Disable.told c.args.self.now c.disable.new.self c.args.core.now (g.D.Disk.state c.args.disk.now) c.requires.fits c.requires.belongs
    c.in-Disable.is c.in_ok-told-in-Disable.ensures.told c.in_ok-told-in-Disable.ensures.seen

pub returns-in_ok-told-in-Rollback : goal.returns-in_ok-told-in-Rollback
returns-in_ok-told-in-Rollback g c =
    rollback_told c.args.call.now c.args.replay c.args.kept.now c.args.now c.in_ok-told-in-Rollback.told c.args.self.now c.roll_back.new.self c.args.core.now (g.D.Disk.state c.args.disk.now) c.requires.fits c.requires.belongs
    c.in-Rollback.is c.in_ok-told-in-Rollback.ensures.told c.in_ok-told-in-Rollback.ensures.seen
