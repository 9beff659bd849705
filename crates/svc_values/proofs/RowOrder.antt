-- The order of rows by table and key.
use Rattle.std.proofs.Common.{◌≡◌, ℕ, Bool, true, false, List, refl, sym, ap, ◌∙◌}
use Rattle.std.specs.Prelude.{◌&&◌}
use Rattle.std.specs.Str.{bytes_eq}
use Rattle.std.specs.Ordering.{nat_cmp, match_ordering, ordering_reverse}
use Rattle.std.specs.declared.cmp.Ordering.{Ordering}
use Rattle.std.specs.declared.cmp.Ordering.TheVariants.{Less, Equal, Greater}
use Rattle.std.specs.Cmp.Lexicographic.{slice_cmp}
use Rattle.std.proofs.lemmas.Cmp.{nat_list_cmp_total}
use Rattle.std.proofs.lemmas.Map.Lookups.{exact_bytes}
use Rattle.svc_values.specs.declared.value.Value.{Value}
use Rattle.svc_values.specs.meaning.Order.{value_cmp}
use Rattle.svc_values.specs.meaning.Same.{same_value}
use Rattle.svc_values.specs.SameLaws.{bytes_decide, same_value_decides}
use Rattle.svc_values.specs.OrderLaws.{value_cmp_total, exact_values}
use Rattle.svc_values.specs.declared.tables.PlainRow.{PlainRow}
use Rattle.svc_values.specs.declared.tables.Place.TheVariants as place
use Rattle.svc_values.specs.meaning.Tables.{is_at, comes_before}

-- of one table and key
pub record AtOne (a b : PlainRow) : Type 0 where
  pub table : a.table ≡ b.table
  pub key : a.key ≡ b.key

both : (a b : Bool) → a && b ≡ true → (a ≡ true) × (b ≡ true)
both true b h = (refl, h)
both false b h = cc

-- a row that stands at a table and key has them
pub is_at-row : (table : List ℕ) (key : Value) (row : PlainRow) → is_at (place.Row table key) row ≡ true → (row.table ≡ table) × (row.key ≡ key)
is_at-row table key row h =
    let p = both (bytes_eq row.table table) (same_value row.key key) h in
    ((bytes_decide row.table table).0 p.0, (same_value_decides row.key key).0 p.1)

pub is_at-own : (row other : PlainRow) → AtOne row other → is_at (place.Row other.table other.key) row ≡ true
is_at-own row other same = rw ((bytes_decide row.table other.table).1 same.table, (same_value_decides row.key other.key).1 same.key) refl

-- how two rows stand to each other
abbrev by_key : Ordering → Bool
by_key o = match_ordering o true false false

by_order : Ordering → Ordering → Bool
by_order t k = match_ordering t true (by_key k) false

before_trans_at : (a b c : PlainRow) (t u : Ordering) → slice_cmp nat_cmp a.table b.table ≡ t → slice_cmp nat_cmp b.table c.table ≡ u → (k l : Ordering) → value_cmp a.key b.key ≡ k → value_cmp b.key c.key ≡ l
    → match_ordering t true (by_key k) false ≡ true → match_ordering u true (by_key l) false ≡ true → comes_before a c ≡ true
before_trans_at a b c Less Less e f k l p q h i = rw (nat_list_cmp_total.trans a.table b.table c.table e f) refl
before_trans_at a b c Less Equal e f k l p q h i =
    let same : b.table ≡ c.table = exact_bytes b.table c.table f in
    let less : slice_cmp nat_cmp a.table c.table ≡ Less = ap (slice_cmp nat_cmp a.table) (sym same) ∙ e in
    rw less refl
before_trans_at a b c Less Greater e f k l p q h i = cc
before_trans_at a b c Equal Less e f k l p q h i =
    let less : slice_cmp nat_cmp a.table c.table ≡ Less = nat_list_cmp_total.congr a.table b.table c.table e ∙ f in
    rw less refl
before_trans_at a b c Equal Equal e f Less Less p q h i =
    let same : slice_cmp nat_cmp a.table c.table ≡ Equal = nat_list_cmp_total.congr a.table b.table c.table e ∙ f in
    let less : value_cmp a.key c.key ≡ Less = value_cmp_total.trans a.key b.key c.key p q in
    rw (same, less) refl
before_trans_at a b c Equal Equal e f Less Equal p q h i = cc
before_trans_at a b c Equal Equal e f Less Greater p q h i = cc
before_trans_at a b c Equal Equal e f Equal l p q h i = cc
before_trans_at a b c Equal Equal e f Greater l p q h i = cc
before_trans_at a b c Equal Greater e f k l p q h i = cc
before_trans_at a b c Greater u e f k l p q h i = cc

pub comes_before-trans : (a b c : PlainRow) → comes_before a b ≡ true → comes_before b c ≡ true → comes_before a c ≡ true
comes_before-trans a b c = before_trans_at a b c (slice_cmp nat_cmp a.table b.table) (slice_cmp nat_cmp b.table c.table) refl refl (value_cmp a.key b.key) (value_cmp b.key c.key) refl refl

self_equal : (o : Ordering) → o ≡ ordering_reverse o → o ≡ Equal
self_equal Less h = cc
self_equal Equal h = refl
self_equal Greater h = cc

-- no row comes before one of its own table and key
pub comes_before-own : (a b : PlainRow) → AtOne a b → comes_before a b ≡ false
comes_before-own a b same =
    let tables : slice_cmp nat_cmp a.table b.table ≡ Equal = ap (slice_cmp nat_cmp a.table) (sym same.table) ∙ self_equal (slice_cmp nat_cmp a.table a.table) (nat_list_cmp_total.antisymm a.table a.table) in
    let keys : value_cmp a.key b.key ≡ Equal = ap (value_cmp a.key) (sym same.key) ∙ self_equal (value_cmp a.key a.key) (value_cmp_total.antisymm a.key a.key) in
    rw (tables, keys) refl

other_way : (a b : PlainRow) (t k : Ordering) → slice_cmp nat_cmp a.table b.table ≡ t → value_cmp a.key b.key ≡ k → match_ordering t true (by_key k) false ≡ false → is_at (place.Row a.table a.key) b ≡ false → comes_before b a ≡ true
other_way a b Less k e p h other = cc
other_way a b Equal Less e p h other = cc
other_way a b Equal Equal e p h other =
    let same : AtOne b a = record { table = sym (exact_bytes a.table b.table e); key = sym (exact_values a.key b.key p) } in
    let here = is_at-own b a same in cc
other_way a b Equal Greater e p h other =
    let tables : slice_cmp nat_cmp b.table a.table ≡ Equal = nat_list_cmp_total.antisymm b.table a.table ∙ ap ordering_reverse e in
    let keys : value_cmp b.key a.key ≡ Less = value_cmp_total.antisymm b.key a.key ∙ ap ordering_reverse p in
    rw (tables, keys) refl
other_way a b Greater k e p h other =
    let tables : slice_cmp nat_cmp b.table a.table ≡ Less = nat_list_cmp_total.antisymm b.table a.table ∙ ap ordering_reverse e in
    rw tables refl

-- of two rows with other tables or keys one comes before the other
pub comes_before-other : (a b : PlainRow) → comes_before a b ≡ false → is_at (place.Row a.table a.key) b ≡ false → comes_before b a ≡ true
comes_before-other a b = other_way a b (slice_cmp nat_cmp a.table b.table) (value_cmp a.key b.key) refl refl
