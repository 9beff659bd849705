use Rattle.std.proofs.Common.{◌∙◌, ap}
use Rattle.service_core.specs.Within.{Within}
use Rattle.standby_ship.specs.Starting.{with_second}
use Rattle.standby_ship.proofs.Made.{beside_seen, beside_soundly}
use Rattle.standby_ship.proofs.pair.Pair.indexed.Goals as goal

pub indexed-primary-requires-clause-begins : goal.indexed-primary-requires-clause-begins
indexed-primary-requires-clause-begins g c = c.requires.primary

pub indexed-primary-requires-clause-indexes : goal.indexed-primary-requires-clause-indexes
indexed-primary-requires-clause-indexes g c = c.requires.indexes

pub beside-requires : goal.beside-requires
beside-requires g c =
    beside_soundly (g.D.Disk.state c.args.primary) (g.D.Disk.state c.args.second) c.args.grants c.requires.primary c.requires.second c.requires.same c.indexed-primary.result c.indexed-primary.ensures.made c.keeps_to_it.ensures (g.met.D.Disk.reads_now c.args.second)

pub returns-clause-made : goal.returns-clause-made
returns-clause-made g c = c.beside.ensures ∙ ap (λ (w : Within). with_second w (g.D.Disk.state c.args.second)) c.indexed-primary.ensures.made

pub returns-clause-seen : goal.returns-clause-seen
returns-clause-seen g c journal reads =
    beside_seen (g.D.Disk.state c.args.primary) (g.D.Disk.state c.args.second) c.args.grants c.requires.primary c.requires.second c.requires.same c.indexed-primary.result c.indexed-primary.ensures.made c.keeps_to_it.ensures (g.met.D.Disk.reads_now c.args.second)
    journal (c.indexed-primary.ensures.seen journal reads) c.beside.result c.beside.ensures
