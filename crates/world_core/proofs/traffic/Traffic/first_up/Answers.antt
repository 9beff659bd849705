use Rattle.world_core.proofs.traffic.Traffic.first_up.Goals as goal

pub first_up-requires : goal.first_up-requires
first_up-requires c = (c.requires.0.links, c.requires.1.links)
