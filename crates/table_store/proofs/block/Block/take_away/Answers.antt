use Rattle.std.proofs.Common.{rules, List, map, sym, subst}
use Rattle.svc_values.specs.declared.value.Value.{Value}
use Rattle.table_store.specs.Given.{keyed}
use Rattle.table_store.specs.Rows.{KeysRise}
use Rattle.table_store.proofs.Placed.{taken_rises}
use Rattle.table_store.proofs.block.Block.take_away.Goals as goal

pub invariant_of-self : goal.invariant_of-self
invariant_of-self c =
    subst (λ (l : List (List Value)). KeysRise (map keyed l)) (sym c.take_row.ensures)
    (taken_rises c.in-Some.rows.now.items c.args.key.now (subst (λ v. KeysRise (map keyed v.items)) (sym c.in-Some.ensures.value) c.self.invariant))

pub invariant_of-self-in-None : goal.invariant_of-self-in-None
invariant_of-self-in-None c =
    subst (λ v. KeysRise (map keyed v.items)) (sym c.in_ok-self-inside-in-None.ensures.ok)
    (subst (λ (l : List (List Value)). KeysRise (map keyed l)) (sym c.take_row-in-None.ensures) (taken_rises c.in_ok-rows-in-None.rows.items c.args.key.now (search rules)))
