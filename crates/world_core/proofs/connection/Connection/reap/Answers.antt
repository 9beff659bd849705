use Rattle.world_core.proofs.Linking.{reaped_is_link}
use Rattle.world_core.proofs.connection.Connection.reap.Goals as goal

pub returns : goal.returns
returns c = λ link is. reaped_is_link c.args.self.now c.give_back.new.self c.give_back.ensures link is
