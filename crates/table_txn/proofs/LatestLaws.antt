-- The places of last writes, kept as maps by table and key.
use Rattle.std.proofs.Common.{◌≡◌, ◌⊎◌, inl, inr, ℕ, true, false, cond, List, [], refl, sym, ◌∙◌, ap, subst}
use Rattle.std.specs.Prelude.{Option, Some, None, IsSome, ◌&&◌}
use Rattle.std.specs.declared.cmp.Ordering.{Ordering}
use Rattle.std.specs.Ordering.{nat_cmp, is_eq}
use Rattle.std.specs.Cmp.Lexicographic.{slice_cmp}
use Rattle.std.specs.BTreeMap.{WritesThrough, Updates, is_at}
use Rattle.std.specs.Map.{lookup}
use Rattle.std.proofs.lemmas.Bool.{cases_Bool}
use Rattle.svc_values.specs.declared.value.Value.{Value}
use Rattle.svc_values.specs.contracts.value.ValueOrd.TheImpl.{cmp-value}
use Rattle.svc_values.specs.meaning.Order.{value_cmp}
use Rattle.table_store.specs.Shelves.{is_place}
use Rattle.table_store.proofs.Offered.{same_if_equal}
use Rattle.svc_values.proofs.Offered.{cmp_is}
use Rattle.table_txn.specs.Own.{Keys, Latest, place_in, keys_kept, place_kept, HasPlace, HasSamePlaces, HasKey}

-- a change of a map of keys, which are compared by `cmp`
pub key_changed : (old new : Keys) (key copied : Value) (at : Option ℕ) → copied ≡ key
    → ((q : Value) → lookup (is_at (cmp-value.it q)) new.entries ≡ cond (is_at (cmp-value.it copied) q) at (lookup (is_at (cmp-value.it q)) old.entries)) → HasKey old key at new
key_changed old new key copied at same changed k =
    subst (λ (f : Value → Value → Ordering). lookup (is_at (f k)) new.entries ≡ cond (is_at (f key) k) at (lookup (is_at (f k)) old.entries)) cmp_is
    (subst (λ (v : Value). lookup (is_at (cmp-value.it k)) new.entries ≡ cond (is_at (cmp-value.it v) k) at (lookup (is_at (cmp-value.it k)) old.entries)) same (changed k))

-- what a map of keys had at one
pub key_was : (old : Keys) (key copied : Value) (was : Option ℕ) → copied ≡ key → was ≡ lookup (is_at (cmp-value.it copied)) old.entries → was ≡ place_in (Some old) key
key_was old key copied was same is =
    is ∙ ap (λ (f : Value → Value → Ordering). lookup (is_at (f copied)) old.entries) cmp_is ∙ ap (λ k. lookup (is_at (value_cmp k)) old.entries) same

-- a change of one map of the maps
changed_in : (old new : Latest) (table : List ℕ) (key : Value) (at : Option ℕ) (kept : Keys)
    → ((t : List ℕ) → keys_kept new t ≡ cond (is_eq (slice_cmp nat_cmp table t)) (Some kept) (keys_kept old t))
    → ((k : Value) → place_in (Some kept) k ≡ cond (is_eq (value_cmp key k)) at (place_kept old table k))
    → HasPlace old table key at new
changed_in old new table key at kept kept_at keyed t k = by_name (cases_Bool (is_eq (slice_cmp nat_cmp table t)))
  where
    by_name : (is_eq (slice_cmp nat_cmp table t) ≡ true) ⊎ (is_eq (slice_cmp nat_cmp table t) ≡ false) → place_kept new t k ≡ cond (is_place table key t k) at (place_kept old t k)
    by_name (inl here) =
        ap (λ s. place_in s k) (kept_at t ∙ ap (λ b. cond b (Some kept) (keys_kept old t)) here) ∙ keyed k
        ∙ ap (λ (u : List ℕ). cond (is_eq (value_cmp key k)) at (place_kept old u k)) (same_if_equal table t here)
        ∙ sym (ap (λ b. cond (b && is_eq (value_cmp key k)) at (place_kept old t k)) here)
    by_name (inr apart) =
        ap (λ s. place_in s k) (kept_at t ∙ ap (λ b. cond b (Some kept) (keys_kept old t)) apart)
        ∙ sym (ap (λ b. cond (b && is_eq (value_cmp key k)) at (place_kept old t k)) apart)

-- a map that was changed where it stands
pub changed_there : (old new : Latest) (table : List ℕ) (key : Value) (at : Option ℕ) (kept after : Keys) → Some kept ≡ keys_kept old table
    → WritesThrough (slice_cmp nat_cmp) (slice_cmp nat_cmp table) old after new → HasKey kept key at after → HasPlace old table key at new
changed_there old new table key at kept after found written keyed =
    changed_in old new table key at after ((written.3 (subst IsSome found refl)).0)
    (λ k. keyed k ∙ ap (λ s. cond (is_eq (value_cmp key k)) at (place_in s k)) found)

pub unchanged_there : (old new : Latest) (table : List ℕ) (kept after : Keys) → Some kept ≡ keys_kept old table
    → WritesThrough (slice_cmp nat_cmp) (slice_cmp nat_cmp table) old after new → after.entries ≡ kept.entries → HasSamePlaces old new
unchanged_there old new table kept after found written same t k = by_name (cases_Bool (is_eq (slice_cmp nat_cmp table t)))
  where
    kept_at : keys_kept new t ≡ cond (is_eq (slice_cmp nat_cmp table t)) (Some after) (keys_kept old t)
    kept_at = (written.3 (subst IsSome found refl)).0 t

    by_name : (is_eq (slice_cmp nat_cmp table t) ≡ true) ⊎ (is_eq (slice_cmp nat_cmp table t) ≡ false) → place_kept new t k ≡ place_kept old t k
    by_name (inl here) =
        ap (λ s. place_in s k) (kept_at ∙ ap (λ b. cond b (Some after) (keys_kept old t)) here) ∙ ap (lookup (is_at (value_cmp k))) same
        ∙ ap (λ s. place_in s k) found ∙ ap (λ (u : List ℕ). place_kept old u k) (same_if_equal table t here)
    by_name (inr apart) = ap (λ s. place_in s k) (kept_at ∙ ap (λ b. cond b (Some after) (keys_kept old t)) apart)

-- the first key of a table
pub changed_anew : (old new : Latest) (table : List ℕ) (key : Value) (at : Option ℕ) (none after : Keys) → None ≡ keys_kept old table → none.entries ≡ []
    → Updates (slice_cmp nat_cmp) old new table (Some after) → HasKey none key at after → HasPlace old table key at new
changed_anew old new table key at none after away nothing written keyed =
    changed_in old new table key at after (written.0)
    (λ k. keyed k ∙ ap (λ l. cond (is_eq (value_cmp key k)) at (lookup (is_at (value_cmp k)) l)) nothing ∙ ap (λ s. cond (is_eq (value_cmp key k)) at (place_in s k)) away)

-- a key that was changed where it stands
pub key_there : (old new : Keys) (key : Value) (slot at : ℕ) → IsSome (place_in (Some old) key) → WritesThrough cmp-value.it (cmp-value.it key) old at new → HasKey old key (Some at) new
key_there old new key slot at some written = key_changed old new key key (Some at) refl ((written.3 found).0)
  where
    found : IsSome (lookup (is_at (cmp-value.it key)) old.entries)
    found = subst (λ (f : Value → Value → Ordering). IsSome (lookup (is_at (f key)) old.entries)) (sym cmp_is) some
