use Rattle.std.proofs.Common.{◌≡◌, ◌++◌, take}
use Rattle.std.specs.List.{flat_map}
use Rattle.std.specs.Option.{option_to_list}
use Rattle.before_run.specs.Indexes.{index_by}
use Rattle.before_run.proofs.indexes.add_each.Given as goal

abbrev pub invariant-loop-name : goal.invariant-loop-name
invariant-loop-name l = l.all.items ≡ l.fn.all.items ++ flat_map (λ name. option_to_list (index_by l.table name)) (take l.name-index l.names)
