use Rattle.std.proofs.Common.{sym, ◌∙◌}
use Rattle.world_core.proofs.Draining.{drain_leads}
use Rattle.world_core.proofs.traffic.Traffic.drain.Goals as goal

pub returns : goal.returns
returns c = λ m is. drain_leads c.args.self.now c.close.new.self m c.drain.new.self c.deref.result.now c.len.result is c.in_ok-idle.ensures.after (c.deref.ensures.value ∙ c.in_ok-idle.ensures.closed) (c.len.ensures ∙ sym c.deref.ensures.len) c.in_ok-close.ensures.closed
