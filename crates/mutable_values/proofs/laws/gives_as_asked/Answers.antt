use Rattle.mutable_values.proofs.Given.{gives_as_asked, lies_within}
use Rattle.mutable_values.proofs.laws.gives_as_asked.Goals as goal

pub returns : goal.returns
returns c = record { kind = gives_as_asked; within = lies_within }
