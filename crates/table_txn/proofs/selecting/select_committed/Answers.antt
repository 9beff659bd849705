use Rattle.std.proofs.Common.{ap, sym, ◌∙◌}
use Rattle.std.specs.Prelude.{map}
use Rattle.std.proofs.lemmas.Result.{IfOk-weaker}
use Rattle.svc_values.specs.declared.tables.Place.TheVariants as place
use Rattle.svc_values.specs.meaning.Tables.{rows_at}
use Rattle.svc_values.specs.meaning.Tests.{selected}
use Rattle.stmt_meaning.specs.meaning.Effects.{limited}
use Rattle.table_txn.specs.Selecting.{select_answer}
use Rattle.table_txn.proofs.Selects.{answer_at_most, fits_of, seen_unwritten}
use Rattle.table_txn.proofs.selecting.select_committed.Goals as goal

pub answer_of-requires : goal.answer_of-requires
answer_of-requires c =
    let rows = map (λ one. one.row) (rows_at c.args.tables.now.rows (place.Table c.args.table.now)) in
    fits_of (λ rows. rows.items) c.in_ok-found.found (selected c.args.sought.now.column c.args.sought.now.test c.args.sought.now.value rows) c.in_ok-found.ensures

pub returns : goal.returns
returns c =
    let sought = c.args.sought.now in
    let rows = map (λ one. one.row) (rows_at c.args.tables.now.rows (place.Table c.args.table.now)) in
    IfOk-weaker c.answer_of.result _ _
    (λ answer told. told ∙ ap select_answer c.in_ok-found.ensures ∙ answer_at_most (selected sought.column sought.test sought.value rows)
    ∙ sym (ap (λ l. limited (selected sought.column sought.test sought.value (map (λ one. one.row) l))) (seen_unwritten c.args.tables.now.rows c.args.own.now c.args.table.now c.requires)))
    c.answer_of.ensures
