use Rattle.mutable_values.proofs.Histories.{counts_identifiers, counts_values}
use Rattle.mutable_values.proofs.laws.counts_on.Goals as goal

pub returns : goal.returns
returns c = record { values = counts_values; identifiers = counts_identifiers }
