use Rattle.std.proofs.Common.{refl, sym}
use Rattle.world_core.proofs.Underway.{cut_leads}
use Rattle.world_core.proofs.traffic.Traffic.cut.Goals as goal

pub returns-then-is_some-clause-machine : goal.returns-then-is_some-clause-machine
returns-then-is_some-clause-machine c = λ m is. cut_leads c.args.self.now m c.args.number c.args.up c.args.down c.cut-reached.new.self c.gone.new.self c.cut-reached.result _ is refl (c.cut-reached.ensures.links m.links is.links) (sym c.if-is_some.ensures) c.gone.ensures
