-- The orders of values and of places are total, and tell exactly what differs. The derived
-- comparisons of values are their order and their test.
use Rattle.std.proofs.Common.{◌≡◌, ℕ, ℤ, pos, Bool, true, false, List, [], ap, refl, sym, ◌∙◌}
use Rattle.std.proofs.Math.Path.{fun_ext}
use Rattle.std.specs.Prelude.{◌&&◌}
use Rattle.std.specs.declared.cmp.Ordering.{Ordering}
use Rattle.std.specs.declared.cmp.Ordering.TheVariants.{Less, Equal, Greater}
use Rattle.std.specs.Ordering.{nat_cmp, int_cmp, ordering_then, ordering_reverse, on, then_cmp, is_eq, eq_by_cmp, as_partial_cmp}
use Rattle.std.specs.Bool.{one_answer}
use Rattle.std.specs.Str.{bytes_eq}
use Rattle.std.specs.Cmp.{IsTotalOrder, IsPartialOrder, Agrees, Equal-is, nat_cmp_total, int_cmp_total, on_total, then_total, both_tied, tied_itself, partial_order_from_agreeing_total}
use Rattle.std.specs.Cmp.Lexicographic.{slice_cmp}
use Rattle.std.proofs.lemmas.Cmp.{nat_list_cmp_total}
use Rattle.std.proofs.lemmas.Map.Lookups.{CmpEqualImpliesEq, exact_signed, exact_bytes}
use Rattle.std.proofs.lemmas.Map.Text.{is_eq-slice_cmp}
use Rattle.svc_values.specs.declared.value.Value.{Value}
use Rattle.svc_values.specs.declared.value.Value.TheVariants as value
use Rattle.svc_values.specs.contracts.value.ValueOrd.TheImpl.{cmp-value}
use Rattle.svc_values.specs.contracts.value.ValuePartialEq.TheImpl.{eq-value}
use Rattle.svc_values.specs.declared.tables.Place.{Place}
use Rattle.svc_values.specs.declared.tables.Place.TheVariants as place
use Rattle.svc_values.specs.contracts.tables.PlacePartialEq.TheImpl.{eq-value as eq-place}
use Rattle.svc_values.specs.meaning.Order.{value_cmp}
use Rattle.svc_values.specs.meaning.Same.{same_value}
use Rattle.svc_values.specs.Same.{same_place}
use Rattle.svc_values.specs.SameLaws.{same_value_decides}
use Rattle.svc_values.specs.Tables.{place_cmp}

-- ---- values

pub by_kind : (a b : Value) → cmp-value.it a b ≡ value_cmp a b
by_kind (value.Int a) (value.Int b) = refl
by_kind (value.Int a) (value.Text b) = refl
by_kind (value.Int a) (value.Bytes b) = refl
by_kind (value.Text a) (value.Int b) = refl
by_kind (value.Text a) (value.Text b) = refl
by_kind (value.Text a) (value.Bytes b) = refl
by_kind (value.Bytes a) (value.Int b) = refl
by_kind (value.Bytes a) (value.Text b) = refl
by_kind (value.Bytes a) (value.Bytes b) = refl

-- the derived comparison is the order of values
pub cmp_is : ◌≡◌ {A = Value → Value → Ordering} cmp-value.it value_cmp
cmp_is = λ i a b. by_kind a b i

pub same_here : (a b : Value) → eq-value.it a b ≡ same_value a b
same_here (value.Int a) (value.Int b) = refl
same_here (value.Int a) (value.Text b) = refl
same_here (value.Int a) (value.Bytes b) = refl
same_here (value.Text a) (value.Int b) = refl
same_here (value.Text a) (value.Text b) = refl
same_here (value.Text a) (value.Bytes b) = refl
same_here (value.Bytes a) (value.Int b) = refl
same_here (value.Bytes a) (value.Text b) = refl
same_here (value.Bytes a) (value.Bytes b) = refl

-- and the derived equality is their test
pub same_is_eq : eq-value.it ≡ same_value
same_is_eq = fun_ext (λ a. fun_ext (same_here a))

-- equal values are the same value
pub exact_values : CmpEqualImpliesEq value_cmp
exact_values (value.Int a) (value.Int b) h = ap value.Int (exact_signed a b h)
exact_values (value.Int a) (value.Text b) h = cc
exact_values (value.Int a) (value.Bytes b) h = cc
exact_values (value.Text a) (value.Int b) h = cc
exact_values (value.Text a) (value.Text b) h = ap value.Text (exact_bytes a b h)
exact_values (value.Text a) (value.Bytes b) h = cc
exact_values (value.Bytes a) (value.Int b) h = cc
exact_values (value.Bytes a) (value.Text b) h = cc
exact_values (value.Bytes a) (value.Bytes b) h = ap value.Bytes (exact_bytes a b h)

abbrev place_of_kind : Value → ℕ
place_of_kind (value.Int n) = 0
place_of_kind (value.Text text) = 1
place_of_kind (value.Bytes bytes) = 2

abbrev number_of : Value → ℤ
number_of (value.Int n) = n
number_of (value.Text text) = pos 0
number_of (value.Bytes bytes) = pos 0

abbrev bytes_of : Value → List ℕ
bytes_of (value.Int n) = []
bytes_of (value.Text text) = text
bytes_of (value.Bytes bytes) = bytes

abbrev cmp_by_parts : Value → Value → Ordering
cmp_by_parts = then_cmp (on place_of_kind nat_cmp)
    (then_cmp (on number_of int_cmp) (on bytes_of (slice_cmp nat_cmp)))

cmp_by_parts_total : IsTotalOrder cmp_by_parts
cmp_by_parts_total = then_total (on_total place_of_kind nat_cmp_total)
    (then_total (on_total number_of int_cmp_total) (on_total bytes_of nat_list_cmp_total))

then_equal : (o : Ordering) → o ≡ ordering_then o Equal
then_equal Less = refl
then_equal Equal = refl
then_equal Greater = refl

by_parts : (a b : Value) → value_cmp a b ≡ cmp_by_parts a b
by_parts (value.Int a) (value.Int b) = then_equal (int_cmp a b)
by_parts (value.Int a) (value.Text b) = refl
by_parts (value.Int a) (value.Bytes b) = refl
by_parts (value.Text a) (value.Int b) = refl
by_parts (value.Text a) (value.Text b) = refl
by_parts (value.Text a) (value.Bytes b) = refl
by_parts (value.Bytes a) (value.Int b) = refl
by_parts (value.Bytes a) (value.Text b) = refl
by_parts (value.Bytes a) (value.Bytes b) = refl

-- the order is total
pub value_cmp_total : IsTotalOrder value_cmp
value_cmp_total = record {
  antisymm = λ x y. by_parts x y ∙ (cmp_by_parts_total.antisymm x y ∙ ap ordering_reverse
      (sym (by_parts y x)));
  trans = λ x y z h k. by_parts x z ∙ cmp_by_parts_total.trans x y z (sym (by_parts x y) ∙ h)
      (sym (by_parts y z) ∙ k);
  congr = λ x y z h. by_parts x z ∙ (cmp_by_parts_total.congr x y z (sym (by_parts x y) ∙ h) ∙
      sym (by_parts y z));
}

-- ---- places

abbrev rank_of : Place → ℕ
rank_of (place.Row table key) = 0
rank_of (place.Table table) = 1

abbrev key_of : Place → Value
key_of (place.Row table key) = key
key_of (place.Table table) = value.Int (pos 0)

abbrev table_of : Place → List ℕ
table_of (place.Row table key) = table
table_of (place.Table table) = table

abbrev place_by_parts : Place → Place → Ordering
place_by_parts = then_cmp (on rank_of nat_cmp)
    (then_cmp (on key_of value_cmp) (on table_of (slice_cmp nat_cmp)))

place_by_parts_total : IsTotalOrder place_by_parts
place_by_parts_total = then_total (on_total rank_of nat_cmp_total)
    (then_total (on_total key_of value_cmp_total) (on_total table_of nat_list_cmp_total))

by_rank : (a b : Place) → place_cmp a b ≡ place_by_parts a b
by_rank (place.Row t k) (place.Row u l) = refl
by_rank (place.Row t k) (place.Table u) = refl
by_rank (place.Table t) (place.Row u l) = refl
by_rank (place.Table t) (place.Table u) = refl

pub place_cmp_total : IsTotalOrder place_cmp
place_cmp_total = record {
  antisymm = λ x y. by_rank x y ∙ (place_by_parts_total.antisymm x y ∙ ap ordering_reverse
      (sym (by_rank y x)));
  trans = λ x y z h k. by_rank x z ∙ place_by_parts_total.trans x y z (sym (by_rank x y) ∙ h)
      (sym (by_rank y z) ∙ k);
  congr = λ x y z h. by_rank x z ∙ (place_by_parts_total.congr x y z (sym (by_rank x y) ∙ h) ∙
      sym (by_rank y z));
}

and_flipped : (a b : Bool) → (a && b) ≡ (b && a)
and_flipped true true = refl
and_flipped true false = refl
and_flipped false true = refl
and_flipped false false = refl

value_tied : (a b : Value) → same_value a b ≡ is_eq (value_cmp a b)
value_tied a b = one_answer (same_value a b) (is_eq (value_cmp a b)) (same_value_decides a b) (
  λ h. exact_values a b ((Equal-is (value_cmp a b)).0 h),
  λ e. ap is_eq (sym (ap (value_cmp a) e) ∙ tied_itself value_cmp_total a),
)

-- two places are equal in the order exactly where they are the same
pub place_tied : (a b : Place) → same_place a b ≡ is_eq (place_cmp a b)
place_tied (place.Row t k) (place.Row u l) =
    and_flipped (bytes_eq t u) (same_value k l)
    ∙ both_tied (same_value k l) (bytes_eq t u) (value_cmp k l) (slice_cmp nat_cmp t u)
    (value_tied k l) (sym (is_eq-slice_cmp t u))
place_tied (place.Row t k) (place.Table u) = refl
place_tied (place.Table t) (place.Row u l) = refl
place_tied (place.Table t) (place.Table u) = sym (is_eq-slice_cmp t u)

-- the derived equality is that test
place_same : (a b : Place) → eq-place.it a b ≡ same_place a b
place_same (place.Row t k) (place.Row u l) = ap (λ f. bytes_eq t u && f k l) same_is_eq
place_same (place.Row t k) (place.Table u) = refl
place_same (place.Table t) (place.Row u l) = refl
place_same (place.Table t) (place.Table u) = refl

pub place_ties : (a b : Place) → eq-place.it a b ≡ eq_by_cmp place_cmp a b
place_ties a b = place_same a b ∙ place_tied a b

pub place_cmp_agrees : Agrees (as_partial_cmp place_cmp) place_cmp
place_cmp_agrees a b = refl

pub place_cmp_partial : IsPartialOrder eq-place.it (as_partial_cmp place_cmp)
place_cmp_partial = partial_order_from_agreeing_total place_cmp place_cmp_total place_cmp_agrees
    place_ties
