use Rattle.std.specs.Prelude.{IsTrue}
use Rattle.std.specs.List.{list_all}
use Rattle.table_store.specs.Given.{is_index_of}
use Rattle.serial_check.proofs.asked.with_often_asked.Given as goal

abbrev pub invariant-loop-one : goal.invariant-loop-one
invariant-loop-one l = IsTrue (list_all (is_index_of l.schemas) l.all.items)
