use Rattle.load_laws.proofs.Insides.{tell_none}
use Rattle.load_laws.proofs.laws.insides_tell_none.Goals as goal

pub returns : goal.returns
returns c = tell_none
