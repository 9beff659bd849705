use Rattle.std.proofs.Common.{ap, ◌∙◌, slice_set}
use Rattle.table_store.specs.Blocks.{rows_in}
use Rattle.table_store.proofs.Placed.{divided}
use Rattle.table_store.proofs.blocks.divide.Goals as goal

pub returns-clause-rows : goal.returns-clause-rows
returns-clause-rows c =
    ap (λ l. rows_in (slice_set l c.args.at c.in_ok-front.front)) c.in_ok-insert.ensures.items
    ∙ divided c.args.blocks.now.items c.args.at c.index.result.now c.in_ok-front.front c.in_ok-front.behind c.requires.within c.index.ensures c.in_ok-front.ensures.rows
