use Rattle.world_core.proofs.Bases.{one_base_on, one_base_stopped}
use Rattle.world_core.proofs.ground.Ground.begin_opening.Goals as goal

pub returns-in-Ok-clause-base : goal.returns-in-Ok-clause-base
returns-in-Ok-clause-base g c =
    let set = c.stop_after.ensures.stop c.requires.seen.0 c.requires.seen.1.0 in
    one_base_on _ _ _ _ (g.met.S.Service.honest c.stop_after.new.self set.0 set.1.0).pictures c.stop_after.ensures.base c.in-Ok.ensures.base

pub returns-in-Err-Stopped-clause-base : goal.returns-in-Err-Stopped-clause-base
returns-in-Err-Stopped-clause-base g c =
    let set = c.stop_after.ensures.stop c.requires.seen.0 c.requires.seen.1.0 in
    one_base_on _ _ _ _ (g.met.S.Service.honest c.stop_after.new.self set.0 set.1.0).pictures c.stop_after.ensures.base (one_base_stopped _ _ _ _ c.in-Err-Stopped.field-0-is c.in-Err-Stopped.ensures.base)
