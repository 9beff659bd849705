use Rattle.std.proofs.Common.{ap}
use Rattle.std.specs.Option.{option_copied}
use Rattle.table_store.proofs.shelf.Shelf.selected_but.Goals as goal

pub found_in-requires : goal.found_in-requires
found_in-requires c = rw c.self.view_is c.requires

pub found_by-requires : goal.found_by-requires
found_by-requires c = rw c.self.view_is (c.index.ensures c.in-Some.index.now (ap option_copied c.in-Some.is)).0

pub returns-in-Some : goal.returns-in-Some
returns-in-Some c =
    let column = (c.index.ensures c.in-Some.index.now (ap option_copied c.in-Some.is)).1 in
    rw (c.self.view_is, column) at c.found_by.ensures
