use Rattle.std.proofs.Common.{◌+◌, sym, subst}
use Rattle.commit_log.specs.declared.records.Record.TheVariants as kept
use Rattle.commit_log.specs.Adds.{AddsTo, MayAddTo}
use Rattle.service_core.proofs.Renewing.{began, has_begun, may_begin}
use Rattle.service_core.proofs.resting.Resting.begin.Goals as goal

pub returns : goal.returns
returns g c =
    let old = c.args.self.now in
    let disk = g.D.Disk.state c.args.disk.now in
    let end = g.D.Disk.state c.begin.new.disk in
    let current = c.requires.current in
    let number = c.incarnation-incarnation.ensures in
    let adds = c.begin.ensures current.knows.is_opened old.has_horizon (has_begun old disk current)
    (subst (λ n. MayAddTo current.knows.is_opened old.has_horizon disk (kept.Opened (n + 1))) (sym number) (may_begin old disk current c.requires.few)) in
    began old disk current c.requires.few c.begin.result c.begin.new.self end c.requires.horizon
    (subst (λ n. AddsTo current.knows.is_opened old.has_horizon c.begin.result c.begin.new.self disk end (kept.Opened (n + 1))) number adds)
