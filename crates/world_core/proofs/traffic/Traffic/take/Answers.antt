use Rattle.world_core.proofs.Standing.{if_ok}
use Rattle.world_core.proofs.Underway.{reply_underway}
use Rattle.world_core.proofs.traffic.Traffic.take.Goals as goal

pub returns : goal.returns
returns c = if_ok c.take.result (λ reply gives m link there is. reply_underway c.args.self.now m c.args.number link link.down reply c.take.new.self is (gives m.links link there is.links)) c.take.ensures

pub take-requires : goal.take-requires
take-requires c = (c.requires.0.links, c.requires.1.links)
