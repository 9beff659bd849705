use Rattle.same_laws.proofs.entries.EntriesJoin.{entries_joined}
use Rattle.same_laws.proofs.laws.parts_make_entries.Goals as goal

pub returns : goal.returns
returns c = λ granted t scripts starts goes inside ends drew. entries_joined granted t scripts starts goes inside ends drew
