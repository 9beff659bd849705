use Rattle.std.proofs.Common.{Some, ap, ◌∙◌}
use Rattle.std.proofs.lemmas.Result.{IfOk-weaker, on_ok_weaker, on_err_weaker}
use Rattle.table_txn.specs.Own.{place_in}
use Rattle.table_txn.proofs.LatestLaws.{changed_there, unchanged_there, changed_anew}
use Rattle.table_txn.proofs.latest.put.Goals as goal

pub returns-in-Some-clause-before : goal.returns-in-Some-clause-before
returns-in-Some-clause-before c =
    IfOk-weaker c.put_key.result _ _ (λ before was. was ∙ ap (λ keys. place_in keys c.args.key.now) c.in-Some.ensures.value) c.put_key.ensures.before

pub returns-in_ok-insert-in-None-clause-before : goal.returns-in_ok-insert-in-None-clause-before
returns-in_ok-insert-in-None-clause-before c = ap (λ keys. place_in keys c.args.key.now) c.in-None.ensures.value

pub returns-in-Some-clause-ok : goal.returns-in-Some-clause-ok
returns-in-Some-clause-ok c =
    on_ok_weaker c.put_key.result
    (changed_there c.args.latest.now (c.get_mut.follows.lender c.put_key.new.keys) c.args.table.now c.args.key.now (Some c.args.at) c.in-Some.keys.now c.put_key.new.keys c.in-Some.ensures.value (c.get_mut.follows.holds c.put_key.new.keys))
    c.put_key.ensures.ok

pub returns-in-Some-clause-err : goal.returns-in-Some-clause-err
returns-in-Some-clause-err c =
    on_err_weaker c.put_key.result
    (unchanged_there c.args.latest.now (c.get_mut.follows.lender c.put_key.new.keys) c.args.table.now c.in-Some.keys.now c.put_key.new.keys c.in-Some.ensures.value (c.get_mut.follows.holds c.put_key.new.keys))
    c.put_key.ensures.err

pub returns-in_ok-insert-in-None-clause-ok : goal.returns-in_ok-insert-in-None-clause-ok
returns-in_ok-insert-in-None-clause-ok c =
    let put = rw (c.get_mut.follows.holds-at-none, c.copied.ensures) at c.in_ok-insert-in-None.ensures.updates in
    changed_anew c.args.latest.now c.insert.new.self c.args.table.now c.args.key.now (Some c.args.at) c.new-keys.result c.put_key-in-None.new.keys c.in-None.ensures.value c.new-keys.ensures.empty put c.in_ok-put_key-in-None.ensures.ok
