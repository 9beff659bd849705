use Rattle.std.proofs.Common.{sym, ap, ◌∙◌}
use Rattle.std.specs.Prelude.{Some}
use Rattle.std.specs.Map.{values_of}
use Rattle.std.specs.Option.{option_map}
use Rattle.table_store.proofs.Picked.{selected_of}
use Rattle.table_store.proofs.shelf.Shelf.selected.Goals as goal

pub returns-in-None : goal.returns-in-None
returns-in-None c =
    ap (λ found. option_map values_of (option_map (λ rows. rows.entries) found)) (sym c.in-None.is)
    ∙ selected_of (option_map (λ rows. rows.entries) c.in_ok-selected_but.field-0) c.new-none.result c.args.column c.args.test c.args.value.now c.args.self.now c.in_ok-selected_but.ensures c.new-none.ensures.empty

pub returns : goal.returns
returns c =
    ap Some c.in_ok-rows_of-in-Some.ensures
    ∙ ap (λ found. option_map values_of (option_map (λ rows. rows.entries) found)) (sym c.in-Some.is)
    ∙ selected_of (option_map (λ rows. rows.entries) c.in_ok-selected_but.field-0) c.new-none.result c.args.column c.args.test c.args.value.now c.args.self.now c.in_ok-selected_but.ensures c.new-none.ensures.empty
