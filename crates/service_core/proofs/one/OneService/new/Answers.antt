use Rattle.std.proofs.Common.{ap}
use Rattle.std.specs.List.{list_all}
use Rattle.table_store.specs.Given.{is_index_of}
use Rattle.commit_log.specs.meaning.Bases.{schemas_of}
use Rattle.service_core.proofs.one.OneService.new.Goals as goal

pub indexed-requires-clause-indexes : goal.indexed-requires-clause-indexes
indexed-requires-clause-indexes g c journal reads = ap (list_all (is_index_of (schemas_of journal.base))) c.new.ensures.items
