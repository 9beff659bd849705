use Rattle.std.proofs.Common.{rules, ◌≡◌, List, get_or, map, ap, sym, ◌∙◌}
use Rattle.svc_values.specs.declared.value.Value.{Value}
use Rattle.table_store.specs.Given.{keyed}
use Rattle.table_store.specs.Rows.{keyed_of}
use Rattle.table_store.proofs.Placed.{found_in_place}
use Rattle.table_store.proofs.blocks.get.Goals as goal

pub returns : goal.returns
returns c =
    let block : c.index-blocks-place_of.result ≡ get_or c.args.blocks.now c.place_of.result c.index-blocks-place_of.result = search rules in
    c.get.ensures ∙ ap (λ (l : List (List Value)). keyed_of (map keyed l) c.args.key.now) block
    ∙ sym (found_in_place c.args.key.now c.args.blocks.now c.place_of.result c.index-blocks-place_of.result c.place_of.ensures.place c.place_of.ensures.within)
