use Rattle.std.specs.Option.{option_copied}
use Rattle.std.proofs.lemmas.Result.{IfOk-weaker}
use Rattle.table_txn.proofs.ScanSteps.{committed_answers}
use Rattle.table_txn.proofs.scanning.show_committed.Goals as goal

pub returns : goal.returns
returns c =
    IfOk-weaker c.show_between.result _ _
    (λ after shown. committed_answers c.args.tables.now.rows c.args.own.now c.args.table.now c.args.scan (option_copied c.row_map.result) c.row_map.ensures.rows c.requires after shown)
    c.show_between.ensures
