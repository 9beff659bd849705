use Rattle.std.proofs.Common.{◌∙◌, sym}
use Rattle.service_core.proofs.Renewing.{has_begun, may_rise, not_raised, raise_failed, was_raised}
use Rattle.service_core.proofs.resting.Resting.raise.Goals as goal

pub returns-then-not-is_below : goal.returns-then-not-is_below
returns-then-not-is_below g c = not_raised c.args.horizon c.args.self.now (g.D.Disk.state c.args.disk.now) c.requires.current (sym c.if-not-is_below.true ∙ c.is_below.ensures)

pub returns-in-Ok : goal.returns-in-Ok
returns-in-Ok g c =
    let old = c.args.self.now in
    let disk = g.D.Disk.state c.args.disk.now in
    let current = c.requires.current in
    let below = sym c.if-not-is_below.false ∙ c.is_below.ensures in
    was_raised c.args.horizon old disk current c.forget-in-Ok.new.self c.forget.new.self (g.D.Disk.state c.forget.new.disk) below
    (c.in-Ok.ensures current.knows.is_opened old.has_horizon (has_begun old disk current) (may_rise c.args.horizon old disk current below c.requires.may)) c.forget-in-Ok.ensures

pub returns-in-Err : goal.returns-in-Err
returns-in-Err g c =
    let old = c.args.self.now in
    let disk = g.D.Disk.state c.args.disk.now in
    let current = c.requires.current in
    let below = sym c.if-not-is_below.false ∙ c.is_below.ensures in
    raise_failed c.args.horizon old disk current c.in-Err.fault c.forget.new.self (g.D.Disk.state c.forget.new.disk) below
    (c.in-Err.ensures current.knows.is_opened old.has_horizon (has_begun old disk current) (may_rise c.args.horizon old disk current below c.requires.may))
