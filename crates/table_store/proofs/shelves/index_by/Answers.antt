use Rattle.std.proofs.Common.{ap, ◌∙◌}
use Rattle.table_store.specs.Rows.{KeysRise, all_rows}
use Rattle.table_store.proofs.Changes.{all_with_entry, empty_table, shelved_there, unchanged_there}
use Rattle.table_store.proofs.shelves.index_by.Goals as goal

pub returns-in-Some-clause-shelved : goal.returns-in-Some-clause-shelved
returns-in-Some-clause-shelved c =
    shelved_there c.args.shelves.now (c.get_mut.follows.lender c.index_by.new.self) c.args.table.now c.index_by.new.self c.requires (c.get_mut.follows.holds c.index_by.new.self) c.index_by.ensures.rising

pub returns-in-Some-clause-rows : goal.returns-in-Some-clause-rows
returns-in-Some-clause-rows c =
    ap all_rows
    (unchanged_there c.args.shelves.now (c.get_mut.follows.lender c.index_by.new.self) c.args.table.now c.in-Some.shelf.now c.index_by.new.self c.in-Some.ensures.value (c.get_mut.follows.holds c.index_by.new.self) c.index_by.ensures.same)

pub returns-in_ok-insert-in-None-clause-shelved : goal.returns-in_ok-insert-in-None-clause-shelved
returns-in_ok-insert-in-None-clause-shelved c =
    let put = rw (c.get_mut.follows.holds-at-none, c.copied.ensures) at c.in_ok-insert-in-None.ensures.entries in
    (c.in_ok-insert-in-None.ensures.ordered, rw put (all_with_entry KeysRise c.args.shelves.now.entries c.args.table.now c.index_by-in-None.new.self c.requires.1 c.index_by-in-None.ensures.rising))

pub returns-in_ok-insert-in-None-clause-rows : goal.returns-in_ok-insert-in-None-clause-rows
returns-in_ok-insert-in-None-clause-rows c =
    let put = rw (c.get_mut.follows.holds-at-none, c.copied.ensures) at c.in_ok-insert-in-None.ensures.updates in
    empty_table c.args.shelves.now c.insert.new.self c.args.table.now c.index_by-in-None.new.self c.requires (returns-in_ok-insert-in-None-clause-shelved c)
    (c.index_by-in-None.ensures.same ∙ c.in_ok-shelf-in-None.ensures) c.in-None.ensures.value put
