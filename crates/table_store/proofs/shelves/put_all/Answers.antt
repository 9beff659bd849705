use Rattle.std.proofs.Common.{map}
use Rattle.std.proofs.lemmas.Result.{on_ok_weaker}
use Rattle.table_store.proofs.Changes.{changed_all_there, shelved_there, changed_all_anew, all_with_entry}
use Rattle.table_store.specs.Given.{keyed}
use Rattle.table_store.specs.Rows.{KeysRise}
use Rattle.table_store.proofs.shelves.put_all.Goals as goal

pub returns-in-Some-clause-ok : goal.returns-in-Some-clause-ok
returns-in-Some-clause-ok c =
    on_ok_weaker c.put_all.result
    (changed_all_there c.args.shelves.now (c.get_mut.follows.lender c.put_all.new.self) c.args.table (map keyed c.args.rows.items) c.in-Some.there.now c.put_all.new.self c.in-Some.ensures.value (c.get_mut.follows.holds c.put_all.new.self))
    c.put_all.ensures.ok

pub returns-in-Some-clause-shelved : goal.returns-in-Some-clause-shelved
returns-in-Some-clause-shelved c =
    shelved_there c.args.shelves.now (c.get_mut.follows.lender c.put_all.new.self) c.args.table c.put_all.new.self c.requires (c.get_mut.follows.holds c.put_all.new.self) c.put_all.ensures.rising

pub returns-in_ok-insert-in-None-clause-ok : goal.returns-in_ok-insert-in-None-clause-ok
returns-in_ok-insert-in-None-clause-ok c =
    let put = rw c.get_mut.follows.holds-at-none at c.in_ok-insert-in-None.ensures.updates in
    changed_all_anew c.args.shelves.now c.insert.new.self c.args.table (map keyed c.args.rows.items) c.put_all-in-None.new.self c.in-None.ensures.value put
    (λ q. rw c.in_ok-there-in-None.ensures at (c.in_ok-put_all-in-None.ensures.ok q))

pub returns-in_ok-insert-in-None-clause-shelved : goal.returns-in_ok-insert-in-None-clause-shelved
returns-in_ok-insert-in-None-clause-shelved c =
    let put = rw c.get_mut.follows.holds-at-none at c.in_ok-insert-in-None.ensures.entries in
    (c.in_ok-insert-in-None.ensures.ordered, rw put (all_with_entry KeysRise c.args.shelves.now.entries c.args.table c.put_all-in-None.new.self c.requires.1 c.put_all-in-None.ensures.rising))
