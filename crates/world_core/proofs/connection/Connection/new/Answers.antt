use Rattle.world_core.proofs.Linking.{new_is_link}
use Rattle.world_core.proofs.connection.Connection.new.Goals as goal

pub returns : goal.returns
returns c = new_is_link c.new.result c.new-2.result c.new.ensures c.new-2.ensures
