use Rattle.std.proofs.Common.{rules, map, sym, subst}
use Rattle.table_store.specs.Given.{keyed}
use Rattle.table_store.specs.Rows.{KeysRise}
use Rattle.table_store.proofs.Placed.{put_kept}
use Rattle.table_store.proofs.Rising.{put_rises}
use Rattle.table_store.proofs.block.Block.put.Goals as goal

pub invariant_of-self : goal.invariant_of-self
invariant_of-self c =
    put_kept c.put_row.result c.in-Some.rows.now.items c.put_row.new.rows.items c.args.key.now c.args.row (subst (λ v. KeysRise (map keyed v.items)) (sym c.in-Some.ensures.value) c.self.invariant) c.put_row.ensures.ok c.put_row.ensures.err

pub invariant_of-self-in-None : goal.invariant_of-self-in-None
invariant_of-self-in-None c =
    subst (λ v. KeysRise (map keyed v.items)) (sym c.in_ok-self-inside-in-None.ensures.ok)
    (subst KeysRise (sym c.in_ok-put_row-in-None.ensures.ok) (put_rises (map keyed c.in_ok-rows-in-None.rows.items) c.args.key.now c.args.row (search rules)))
