use Rattle.std.proofs.Common.{Some}
use Rattle.std.proofs.lemmas.Result.{on_ok_weaker, on_err_weaker}
use Rattle.table_store.proofs.Changes.{changed_there, unchanged_there, shelved_there, changed_anew, all_with_entry}
use Rattle.table_store.specs.Rows.{KeysRise}
use Rattle.table_store.proofs.shelves.put.Goals as goal

pub returns-in-Some-clause-ok : goal.returns-in-Some-clause-ok
returns-in-Some-clause-ok c =
    on_ok_weaker c.put.result
    (changed_there c.args.shelves.now (c.get_mut.follows.lender c.put.new.self) c.args.table.now c.args.key.now (Some c.args.row) c.in-Some.rows.now c.put.new.self c.in-Some.ensures.value (c.get_mut.follows.holds c.put.new.self))
    c.put.ensures.ok

pub returns-in-Some-clause-err : goal.returns-in-Some-clause-err
returns-in-Some-clause-err c =
    on_err_weaker c.put.result
    (unchanged_there c.args.shelves.now (c.get_mut.follows.lender c.put.new.self) c.args.table.now c.in-Some.rows.now c.put.new.self c.in-Some.ensures.value (c.get_mut.follows.holds c.put.new.self))
    c.put.ensures.err

pub returns-in-Some-clause-shelved : goal.returns-in-Some-clause-shelved
returns-in-Some-clause-shelved c =
    shelved_there c.args.shelves.now (c.get_mut.follows.lender c.put.new.self) c.args.table.now c.put.new.self c.requires.shelved (c.get_mut.follows.holds c.put.new.self) c.put.ensures.rising

pub returns-in_ok-insert-in-None-clause-ok : goal.returns-in_ok-insert-in-None-clause-ok
returns-in_ok-insert-in-None-clause-ok c =
    let put = rw (c.get_mut.follows.holds-at-none, c.copied.ensures) at c.in_ok-insert-in-None.ensures.updates in
    changed_anew c.args.shelves.now c.insert.new.self c.args.table.now c.args.key.now (Some c.args.row) c.put-in-None.new.self c.in-None.ensures.value put
    (λ q. rw c.in_ok-rows-in-None.ensures at (c.in_ok-put-in-None.ensures.ok q))

pub returns-in_ok-insert-in-None-clause-shelved : goal.returns-in_ok-insert-in-None-clause-shelved
returns-in_ok-insert-in-None-clause-shelved c =
    let put = rw (c.get_mut.follows.holds-at-none, c.copied.ensures) at c.in_ok-insert-in-None.ensures.entries in
    (c.in_ok-insert-in-None.ensures.ordered, rw put (all_with_entry KeysRise c.args.shelves.now.entries c.args.table.now c.put-in-None.new.self c.requires.shelved.1 c.put-in-None.ensures.rising))
