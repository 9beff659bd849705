-- The order of rows by table and key, and rows at a place.
use Rattle.std.proofs.Common.{◌≡◌, ◌⊎◌, inl, inr, ℕ, Bool, true, false, List, refl, sym, ◌∙◌, ap}
use Rattle.std.specs.Prelude.{◌&&◌}
use Rattle.std.specs.Str.{bytes_eq}
use Rattle.std.specs.declared.cmp.Ordering.{Ordering}
use Rattle.std.specs.declared.cmp.Ordering.TheVariants.{Less, Equal, Greater}
use Rattle.std.specs.Ordering.{nat_cmp, match_ordering, ordering_then, ordering_reverse, on, then_cmp}
use Rattle.std.specs.Cmp.{IsTotalOrder, on_total, then_total}
use Rattle.std.specs.Cmp.Lexicographic.{slice_cmp}
use Rattle.std.proofs.lemmas.Bool.{cases_Bool}
use Rattle.std.proofs.lemmas.Cmp.{nat_list_cmp_total, tied_itself}
use Rattle.std.proofs.lemmas.Map.Lookups.{exact_bytes}
use Rattle.svc_values.specs.declared.value.Value.{Value}
use Rattle.svc_values.specs.meaning.Order.{value_cmp}
use Rattle.svc_values.specs.meaning.Same.{same_value}
use Rattle.svc_values.specs.SameLaws.{bytes_decide, same_value_decides}
use Rattle.svc_values.proofs.Offered.{value_cmp_total, exact_values}
use Rattle.svc_values.specs.declared.tables.PlainRow.{PlainRow}
use Rattle.svc_values.specs.declared.tables.Place.TheVariants as place
use Rattle.svc_values.specs.meaning.Tables.{is_at, comes_before}

-- by table, and then by key
abbrev pub row_cmp : PlainRow → PlainRow → Ordering
row_cmp = then_cmp (on (λ (r : PlainRow). r.table) (slice_cmp nat_cmp)) (on (λ (r : PlainRow). r.key) value_cmp)

pub row_cmp_total : IsTotalOrder row_cmp
row_cmp_total = then_total (on_total (λ (r : PlainRow). r.table) nat_list_cmp_total) (on_total (λ (r : PlainRow). r.key) value_cmp_total)

less_from_parts : (t v : Ordering) → match_ordering t true (match_ordering v true false false) false ≡ true → ordering_then t v ≡ Less
less_from_parts Less v h = refl
less_from_parts Equal Less h = refl
less_from_parts Equal Equal h = cc
less_from_parts Equal Greater h = cc
less_from_parts Greater v h = cc

parts_from_less : (t v : Ordering) → ordering_then t v ≡ Less → match_ordering t true (match_ordering v true false false) false ≡ true
parts_from_less Less v h = refl
parts_from_less Equal Less h = refl
parts_from_less Equal Equal h = cc
parts_from_less Equal Greater h = cc
parts_from_less Greater v h = cc

pub less_from_before : (a b : PlainRow) → comes_before a b ≡ true → row_cmp a b ≡ Less
less_from_before a b h = less_from_parts (slice_cmp nat_cmp a.table b.table) (value_cmp a.key b.key) h

pub before_from_less : (a b : PlainRow) → row_cmp a b ≡ Less → comes_before a b ≡ true
before_from_less a b h = parts_from_less (slice_cmp nat_cmp a.table b.table) (value_cmp a.key b.key) h

pub before_trans : (a b c : PlainRow) → comes_before a b ≡ true → comes_before b c ≡ true → comes_before a c ≡ true
before_trans a b c h k = before_from_less a c (row_cmp_total.trans a b c (less_from_before a b h) (less_from_before b c k))

-- no two rows come before each other
pub before_one_way : (a b : PlainRow) → comes_before a b ≡ true → comes_before b a ≡ true → ⊥
before_one_way a b h k =
    let back : row_cmp b a ≡ Greater = row_cmp_total.antisymm b a ∙ ap ordering_reverse (less_from_before a b h) in
    let ahead : row_cmp b a ≡ Less = less_from_before b a k in
    cc

both : (a b : Bool) → (a && b) ≡ true → (a ≡ true) × (b ≡ true)
both true true h = (refl, refl)
both true false h = cc
both false b h = cc

-- a row at a place has its table and key
pub at_place : (table : List ℕ) (key : Value) (row : PlainRow) → is_at (place.Row table key) row ≡ true → (row.table ≡ table) × (row.key ≡ key)
at_place table key row h =
    let parts = both (bytes_eq row.table table) (same_value row.key key) h in
    ((bytes_decide row.table table).0 parts.0, (same_value_decides row.key key).0 parts.1)

both_true : (a b : Bool) → a ≡ true → b ≡ true → (a && b) ≡ true
both_true true true h k = refl
both_true true false h k = k
both_true false b h k = h

pub at_place_if : (table : List ℕ) (key : Value) (row : PlainRow) → row.table ≡ table → row.key ≡ key → is_at (place.Row table key) row ≡ true
at_place_if table key row h k = both_true (bytes_eq row.table table) (same_value row.key key) ((bytes_decide row.table table).1 h) ((same_value_decides row.key key).1 k)

pub at_own_place : (row : PlainRow) → is_at (place.Row row.table row.key) row ≡ true
at_own_place row = at_place_if row.table row.key row refl refl

equal_parts : (t v : Ordering) → t ≡ Equal → v ≡ Equal → ordering_then t v ≡ Equal
equal_parts Less v h k = h
equal_parts Equal v h k = k
equal_parts Greater v h k = h

tied : (a b : PlainRow) → a.table ≡ b.table → a.key ≡ b.key → row_cmp a b ≡ Equal
tied a b h k =
    let tables : slice_cmp nat_cmp a.table b.table ≡ Equal = ap (λ t. slice_cmp nat_cmp a.table t) (sym h) ∙ tied_itself nat_list_cmp_total a.table in
    let keys : value_cmp a.key b.key ≡ Equal = ap (λ v. value_cmp a.key v) (sym k) ∙ tied_itself value_cmp_total a.key in
    equal_parts (slice_cmp nat_cmp a.table b.table) (value_cmp a.key b.key) tables keys

not_tied : (a b : PlainRow) → comes_before a b ≡ true → a.table ≡ b.table → a.key ≡ b.key → ⊥
not_tied a b h t k =
    let equal : row_cmp a b ≡ Equal = tied a b t k in
    let less : row_cmp a b ≡ Less = less_from_before a b h in
    cc

-- rows of which one comes before the other are at two places
pub before_not_at : (a b : PlainRow) → comes_before a b ≡ true → is_at (place.Row a.table a.key) b ≡ false
before_not_at a b h =
    elim (cases_Bool (is_at (place.Row a.table a.key) b)) [
      | inl here ↦ let same = at_place a.table a.key b here in absurd (not_tied a b h (sym same.0) (sym same.1))
      | inr apart ↦ apart
    ]

exact_parts : (a b : PlainRow) (t v : Ordering) → slice_cmp nat_cmp a.table b.table ≡ t → value_cmp a.key b.key ≡ v → ordering_then t v ≡ Equal → (a.table ≡ b.table) × (a.key ≡ b.key)
exact_parts a b Less v p q h = cc
exact_parts a b Equal Less p q h = cc
exact_parts a b Equal Equal p q h = (exact_bytes a.table b.table p, exact_values a.key b.key q)
exact_parts a b Equal Greater p q h = cc
exact_parts a b Greater v p q h = cc

by_order : (a b : PlainRow) (o : Ordering) → row_cmp a b ≡ o → (is_at (place.Row a.table a.key) b ≡ true) ⊎ ((comes_before a b ≡ true) ⊎ (comes_before b a ≡ true))
by_order a b Less h = inr (inl (before_from_less a b h))
by_order a b Equal h =
    let same = exact_parts a b (slice_cmp nat_cmp a.table b.table) (value_cmp a.key b.key) refl refl h in
    inl (at_place_if a.table a.key b (sym same.0) (sym same.1))
by_order a b Greater h = inr (inr (before_from_less b a (row_cmp_total.antisymm b a ∙ ap ordering_reverse h)))

-- two rows are at one place, or one of them comes before the other
pub in_some_order : (a b : PlainRow) → (is_at (place.Row a.table a.key) b ≡ true) ⊎ ((comes_before a b ≡ true) ⊎ (comes_before b a ≡ true))
in_some_order a b = by_order a b (row_cmp a b) refl
