-- The blocks of a table's rows that are gone over one after the other.
use Rattle.std.proofs.Common.{◌≡◌, ℕ, ◌+◌, ◌<◌, get_or, drop, List, [], ◌∷◌, ◌++◌, length, map, refl, sym, ◌∙◌, ap}
use Rattle.std.specs.BTreeMap.Range.{entries_between}
use Rattle.std.specs.declared.ops.Bound.{Bound}
use Rattle.std.specs.Map.{values_of}
use Rattle.std.proofs.lemmas.List.{drop_more}
use Rattle.svc_values.specs.declared.value.Value.{Value}
use Rattle.svc_values.specs.meaning.Order.{value_cmp}
use Rattle.table_store.specs.Blocks.{entries_in, rows_in}
use Rattle.table_store.specs.Given.{keyed}
use Rattle.table_store.specs.Rows.{Keyed}
use Rattle.table_store.proofs.Offered.{between_both, values_keyed}

values_both : (xs ys : Keyed) → values_of (xs ++ ys) ≡ values_of xs ++ values_of ys
values_both [] ys = refl
values_both (x ∷ xs) ys = ap (λ l. x.1 ∷ l) (values_both xs ys)

-- the rows of the next block that are between two ends, and those of the blocks behind it
pub next_block : (lo hi : Bound Value) (blocks : List (List (List Value))) (at : ℕ) (block rows : List (List Value)) → at < length blocks → block ≡ get_or blocks at block → map keyed rows ≡ entries_between value_cmp lo hi (map keyed block)
    → values_of (entries_between value_cmp lo hi (entries_in (drop at blocks))) ≡ rows ++ values_of (entries_between value_cmp lo hi (entries_in (drop (at + 1) blocks)))
next_block lo hi blocks at block rows within is are =
    let rest = drop (at + 1) blocks in
    ap (λ (l : List (List (List Value))). values_of (entries_between value_cmp lo hi (entries_in l))) (drop_more blocks at block within)
    ∙ ap (λ (l : List (List Value)). values_of (entries_between value_cmp lo hi (map keyed (l ++ rows_in rest)))) (sym is)
    ∙ ap values_of (between_both lo hi block (rows_in rest))
    ∙ values_both (entries_between value_cmp lo hi (map keyed block)) (entries_between value_cmp lo hi (entries_in rest))
    ∙ ap (λ (l : List (List Value)). l ++ values_of (entries_between value_cmp lo hi (entries_in rest))) (ap values_of (sym are) ∙ values_keyed rows)
