use Rattle.std.proofs.Common.{rules, List, map, sym, subst}
use Rattle.svc_values.specs.declared.value.Value.{Value}
use Rattle.table_store.specs.Given.{keyed}
use Rattle.table_store.specs.Rows.{KeysRise}
use Rattle.table_store.proofs.Placed.{rises_front, rises_end}
use Rattle.table_store.proofs.block.Block.halves.Goals as goal

pub of-requires : goal.of-requires
of-requires c =
    subst (λ (l : List (List Value)). KeysRise (map keyed l)) (sym c.in_ok-copied_rows.ensures)
    (rises_front c.split_at.result.0.now c.split_at.result.1.now (search rules))

pub of-requires-2 : goal.of-requires-2
of-requires-2 c =
    subst (λ (l : List (List Value)). KeysRise (map keyed l)) (sym c.in_ok-copied_rows-2.ensures)
    (rises_end c.split_at.result.0.now c.split_at.result.1.now (search rules))
