use Rattle.mutable_values.proofs.Given.{gives_once_reserved}
use Rattle.mutable_values.proofs.laws.gives_once_reserved.Goals as goal

pub returns : goal.returns
returns c = gives_once_reserved
