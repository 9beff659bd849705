use Rattle.std.proofs.Common.{None}
use Rattle.std.proofs.lemmas.Result.{on_ok_weaker, on_err_weaker}
use Rattle.table_store.proofs.Changes.{changed_there, unchanged_there, shelved_there, nothing_there}
use Rattle.table_store.proofs.shelves.take_away.Goals as goal

pub returns-in-Some-clause-ok : goal.returns-in-Some-clause-ok
returns-in-Some-clause-ok c =
    on_ok_weaker c.take_away.result
    (changed_there c.args.shelves.now (c.get_mut.follows.lender c.take_away.new.self) c.args.table.now c.args.key.now None c.in-Some.rows.now c.take_away.new.self c.in-Some.ensures.value (c.get_mut.follows.holds c.take_away.new.self))
    c.take_away.ensures.ok

pub returns-in-Some-clause-err : goal.returns-in-Some-clause-err
returns-in-Some-clause-err c =
    on_err_weaker c.take_away.result
    (unchanged_there c.args.shelves.now (c.get_mut.follows.lender c.take_away.new.self) c.args.table.now c.in-Some.rows.now c.take_away.new.self c.in-Some.ensures.value (c.get_mut.follows.holds c.take_away.new.self))
    c.take_away.ensures.err

pub returns-in-Some-clause-shelved : goal.returns-in-Some-clause-shelved
returns-in-Some-clause-shelved c =
    shelved_there c.args.shelves.now (c.get_mut.follows.lender c.take_away.new.self) c.args.table.now c.take_away.new.self c.requires (c.get_mut.follows.holds c.take_away.new.self) c.take_away.ensures.rising

pub returns-in-None-clause-ok : goal.returns-in-None-clause-ok
returns-in-None-clause-ok c =
    rw c.get_mut.follows.holds-at-none (nothing_there c.args.shelves.now.entries c.args.table.now c.args.key.now c.in-None.ensures.value)
