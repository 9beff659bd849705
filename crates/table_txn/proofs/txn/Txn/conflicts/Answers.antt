use Rattle.std.proofs.Common.{ap, subst, sym, ◌∙◌}
use Rattle.std.specs.Option.{option_copied}
use Rattle.table_txn.specs.Knowing.{is_known}
use Rattle.table_txn.specs.Readings.{AreApart, StandWhere, first_changed}
use Rattle.table_txn.specs.Transactions.{Transaction}
use Rattle.table_txn.proofs.ReadingLaws.{tells_conflict}
use Rattle.table_txn.proofs.txn.Txn.conflicts.Goals as goal

pub first_changed-requires : goal.first_changed-requires
first_changed-requires c = subst (λ (t : Transaction). StandWhere (is_known c.args.known) c.args.tables.now.rows t.readings) (sym c.self.view_is) c.requires

pub returns : goal.returns
returns c =
    let readings = ap (λ (t : Transaction). t.readings) c.self.view_is in
    tells_conflict c.args.tables.now.rows c.args.self.now.readings (subst AreApart readings c.first_changed.ensures.apart) (option_copied c.first_changed.result) (c.first_changed.ensures.first ∙ ap (first_changed c.args.tables.now.rows) readings)
