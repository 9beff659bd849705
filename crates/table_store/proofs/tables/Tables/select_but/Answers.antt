use Rattle.std.proofs.Common.{[], refl}
use Rattle.table_store.proofs.Keeps.{keyed_in}
use Rattle.table_store.proofs.Sought.{firsts_in}
use Rattle.table_store.proofs.tables.Tables.select_but.Goals as goal

pub returns-in-None : goal.returns-in-None
returns-in-None c =
    rw (keyed_in c.args.table.now [] c.args.self.now.rows c.in-None.ensures.rows, c.new.ensures.empty) refl

pub selected_but-requires : goal.selected_but-requires
selected_but-requires c = firsts_in c.args.self.now c.args.table.now c.in-Some.shelf.now c.in-Some.ensures.kept c.in-Some.ensures.rows

pub returns-in-Some : goal.returns-in-Some
returns-in-Some c =
    rw (keyed_in c.args.table.now c.in-Some.shelf.now c.args.self.now.rows c.in-Some.ensures.rows) c.selected_but.ensures
