use Rattle.std.specs.Option.{option_map}
use Rattle.svc_values.specs.declared.tables.Place.TheVariants as place
use Rattle.svc_values.specs.meaning.Tables.{rows_at}
use Rattle.svc_values.specs.meaning.Tests.{selected}
use Rattle.table_store.specs.Selection.{at_most_32}
use Rattle.table_store.proofs.Keeps.{of_rows}
use Rattle.table_store.proofs.Sought.{firsts_in}
use Rattle.table_store.proofs.tables.Tables.select.Goals as goal

pub selected-requires : goal.selected-requires
selected-requires c = firsts_in c.args.self.now c.args.table.now c.in-Some.shelf.now c.in-Some.ensures.kept c.in-Some.ensures.rows

pub returns-in-Some : goal.returns-in-Some
returns-in-Some c =
    of_rows c.selected.result (option_map (λ rows. rows.items)) (λ rows. at_most_32 (selected c.args.column c.args.test c.args.value.now rows)) c.args.table.now c.in-Some.shelf.now
    (rows_at c.args.self.now.rows (place.Table c.args.table.now)) c.in-Some.ensures.rows c.selected.ensures
