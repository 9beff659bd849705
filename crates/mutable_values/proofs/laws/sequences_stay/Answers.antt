use Rattle.mutable_values.proofs.Staying.{sequences_stay}
use Rattle.mutable_values.proofs.laws.sequences_stay.Goals as goal

pub returns : goal.returns
returns c = sequences_stay
