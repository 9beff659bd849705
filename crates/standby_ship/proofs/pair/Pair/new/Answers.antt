use Rattle.std.proofs.Common.{ap}
use Rattle.std.specs.List.{list_all}
use Rattle.table_store.specs.Given.{is_index_of}
use Rattle.commit_log.specs.meaning.Bases.{schemas_of}
use Rattle.standby_ship.proofs.pair.Pair.new.Goals as goal

pub indexed-requires-clause-primary : goal.indexed-requires-clause-primary
indexed-requires-clause-primary g c = c.requires.primary

pub indexed-requires-clause-second : goal.indexed-requires-clause-second
indexed-requires-clause-second g c = c.requires.second

pub indexed-requires-clause-same : goal.indexed-requires-clause-same
indexed-requires-clause-same g c = c.requires.same

pub indexed-requires-clause-indexes : goal.indexed-requires-clause-indexes
indexed-requires-clause-indexes g c journal reads = ap (list_all (is_index_of (schemas_of journal.base))) c.new.ensures.items
