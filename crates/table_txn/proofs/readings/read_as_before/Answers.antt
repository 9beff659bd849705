use Rattle.std.proofs.Common.{false, ap}
use Rattle.table_txn.specs.declared.readings.ReadPlace.{ReadPlace}
use Rattle.table_txn.specs.Found.{kept}
use Rattle.table_txn.proofs.Unchanged.{read_as_before}
use Rattle.table_txn.proofs.readings.read_as_before.Goals as goal

pub returns-clause-ok : goal.returns-clause-ok
returns-clause-ok c =
    let one : ReadPlace = record { found = c.in_ok-found.found; is_torn = false } in
    read_as_before c.args.places.now c.insert.new.self c.args.at one (kept c.args.committed) c.requires.kinds c.requires.kind c.requires.before
    (ap (λ w. let n : ReadPlace = record { found = w; is_torn = false } in n) c.in_ok-found.ensures) c.in_ok-insert.ensures.updates c.in_ok-insert.ensures.entries
