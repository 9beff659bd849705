use Rattle.mutable_values.proofs.Rising.{values_rise}
use Rattle.mutable_values.proofs.Identifiers.{identifiers_differ}
use Rattle.mutable_values.proofs.laws.none_twice.Goals as goal

pub returns : goal.returns
returns c = record { values = values_rise; identifiers = identifiers_differ }
