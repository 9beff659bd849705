use Rattle.std.proofs.Common.{true}
use Rattle.commit_log.proofs.log.Log.add.Goals as goal

pub returns : goal.returns
returns g c = c.extend.ensures true true c.requires.ready c.requires.may
