-- Rows of blocks from a place on.
use Rattle.std.proofs.Common.{arith, ◌≡◌, ℕ, zero, suc, ◌+◌, ◌<◌, ◌≤◌, drop, get_or, Bool, true, false, cond, List, [], ◌∷◌, ◌++◌, length, refl, sym, ◌∙◌, ap, subst}
use Rattle.std.specs.Prelude.{⊤, Option, Some, None, not, slice_index_or}
use Rattle.std.specs.Option.{is_some, option_map}
use Rattle.std.proofs.lemmas.List.{drop_all}
use Rattle.svc_values.specs.declared.value.Value.{Value}
use Rattle.table_store.specs.Blocks.{MeetsNext, rows_from, rows_in, same_rows}
use Rattle.table_store.specs.declared.walk.Place.{Place}

-- behind the last block there is no row
past : (blocks : List (List (List Value))) (block row : ℕ) → length blocks ≤ block → rows_from blocks (record { block = block; row = row }) ≡ []
past [] block zero h = refl
past [] block (suc row) h = refl
past (b ∷ blocks) zero row h = absurd (omega (arith, h))
past (b ∷ blocks) (suc block) row h = past blocks block row (omega (arith, h))

-- the rows behind a block are those from the start of the next one
begins : (blocks : List (List (List Value))) (block : ℕ) → rows_in (drop (suc block) blocks) ≡ rows_from blocks (record { block = suc block; row = 0 })
begins [] block = refl
begins (b ∷ []) zero = refl
begins (b ∷ c ∷ blocks) zero = refl
begins (b ∷ blocks) (suc block) = begins blocks block

ended : (blocks : List (List (List Value))) (at : Place) (block : List (List Value)) → slice_index_or blocks at.block [] ≡ block → length block ≤ at.row
    → rows_from blocks at ≡ rows_from blocks (record { block = at.block + 1; row = 0 })
ended blocks at block is h =
    let one : suc at.block ≡ at.block + 1 = omega arith in
    ap (λ l. drop at.row l ++ rows_in (drop (suc at.block) blocks)) is
    ∙ ap (λ l. l ++ rows_in (drop (suc at.block) blocks)) (drop_all at.row block h)
    ∙ begins blocks at.block
    ∙ ap (λ (n : ℕ). rows_from blocks (record { block = n; row = 0 })) one

pub none_met : (blocks : List (List (List Value))) (at : Place) → length blocks ≤ at.block → (met : Option (List Value × Place)) → met ≡ None → MeetsNext blocks at met
none_met blocks at h met none = subst (MeetsNext blocks at) (sym none) (past blocks at.block at.row h)

met_from : (blocks : List (List (List Value))) (at from : Place) → rows_from blocks at ≡ rows_from blocks from → (met : Option (List Value × Place)) → MeetsNext blocks from met → MeetsNext blocks at met
met_from blocks at from same None met = same ∙ met
met_from blocks at from same (Some next) met = same ∙ met

-- what is met from the end of a block is what is met from the start of the next one
pub met_behind : (blocks : List (List (List Value))) (at : Place) (block : List (List Value)) → slice_index_or blocks at.block [] ≡ block → length block ≤ at.row
    → (met : Option (List Value × Place)) → MeetsNext blocks (record { block = at.block + 1; row = 0 }) met → MeetsNext blocks at met
met_behind blocks at block is h = met_from blocks at (record { block = at.block + 1; row = 0 }) (ended blocks at block is h)

no_other : false ≡ true → ⊥
no_other e = subst (λ b. cond b ⊥ ⊤) e tt

-- where nothing more is met, no more rows are there
pub met_last : {T : Type 0} (blocks : List (List (List Value))) (at : Place) (f : T → List Value × Place) (met : Option T) (last : Bool)
    → MeetsNext blocks at (option_map f met) → is_some met ≡ not last → last ≡ same_rows (rows_from blocks at) []
met_last blocks at f None true none is = sym (ap (λ l. same_rows l []) none)
met_last blocks at f None false none is = absurd (no_other is)
met_last blocks at f (Some next) true met is = absurd (no_other (sym is))
met_last blocks at f (Some next) false met is = sym (ap (λ l. same_rows l []) met)

-- the rows of the blocks that are left begin with those of the first
pub left_first : (blocks : List (List (List Value))) (at : ℕ) (block : List (List Value)) → block ≡ get_or blocks at block → at < length blocks
    → rows_in (drop at blocks) ≡ block ++ rows_in (drop (suc at) blocks)
left_first [] at block is within = absurd (omega (arith, within))
left_first (b ∷ blocks) zero block is within = ap (λ l. l ++ rows_in blocks) (sym is)
left_first (b ∷ blocks) (suc at) block is within = left_first blocks at block is (omega (arith, within))

pub none_left : (blocks : List (List (List Value))) (at : ℕ) → length blocks ≤ at → rows_in (drop at blocks) ≡ []
none_left blocks at h = ap rows_in (drop_all at blocks h)
