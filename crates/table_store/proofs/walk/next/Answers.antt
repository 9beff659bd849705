use Rattle.std.proofs.Common.{rules, [], ◌≡◌, ◌≤◌, length, ap}
use Rattle.std.specs.Prelude.{slice_index_or}
use Rattle.std.specs.Option.{option_map}
use Rattle.table_store.proofs.Walked.{met_behind, none_met}
use Rattle.table_store.proofs.walk.next.Goals as goal

pub returns-in_err-block : goal.returns-in_err-block
returns-in_err-block c =
    let past : length c.args.blocks.now ≤ c.args.at.block = search rules in
    none_met c.args.blocks.now c.args.at past _ (ap (option_map (λ next. (next.0.now, next.1))) c.from_residual.ensures)

pub returns-in-None : goal.returns-in-None
returns-in-None c =
    let block = c.in_ok-block.block.now in
    let past : length block ≤ c.args.at.row = search rules in
    let is : slice_index_or c.args.blocks.now c.args.at.block [] ≡ block = search rules in
    met_behind c.args.blocks.now c.args.at block is past _ c.first_of.ensures
