use Rattle.std.proofs.Common.{◌≡◌, List, IfOk, map, ap, subst, ◌∙◌}
use Rattle.outage_schedule.specs.declared.report.ReportTable.{ReportTable}
use Rattle.serial_check.specs.meaning.Places.{table_place}
use Rattle.serial_check.specs.Printed.{print_given}
use Rattle.serial_check.proofs.PrintedTables.{given_is}
use Rattle.serial_check.proofs.printed.printed_otherwise.Goals as goal

pub returns : goal.returns
returns c =
    subst (λ (tables : List ReportTable). IfOk c.differing.result (λ place. place ≡ table_place 0 c.args.printed.now tables))
    (ap (map print_given) c.as_slice.ensures.value ∙ given_is c.in_ok-tables.tables.items c.args.tables.rows c.args.tables.schemas c.in_ok-tables.ensures)
    c.differing.ensures
