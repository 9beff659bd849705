use Rattle.world_core.proofs.Underway.{reap_leads}
use Rattle.world_core.proofs.traffic.Traffic.reap.Goals as goal

pub returns : goal.returns
returns c = λ m is. let reaped = c.reap.ensures m.links is.links in reap_leads c.args.self.now m c.args.number c.reap.new.self c.reap.result is reaped.0 reaped.1
