-- What stands in an index, and its order.
use Rattle.std.proofs.Common.{◌≡◌, Bool, cond, refl, ◌∙◌, ap, subst}
use Rattle.std.specs.Prelude.{Some, ◌&&◌}
use Rattle.std.specs.declared.cmp.Ordering.{Ordering}
use Rattle.std.specs.declared.cmp.Ordering.TheVariants.{Less, Equal, Greater}
use Rattle.std.specs.Ordering.{is_eq, ordering_then}
use Rattle.std.specs.BTreeSet.{BTreeSet, Updates}
use Rattle.svc_values.specs.declared.value.Value.{Value}
use Rattle.svc_values.specs.meaning.Order.{value_cmp}
use Rattle.svc_values.proofs.Offered.{cmp_is}
use Rattle.table_store.specs.declared.column_index.Pair.{Pair}
use Rattle.table_store.specs.declared.column_index.Spot.{Spot}
use Rattle.table_store.specs.declared.column_index.Spot.TheVariants as spot
use Rattle.table_store.specs.contracts.column_index.PairOrd.TheImpl.{cmp-value as cmp-pair}
use Rattle.table_store.specs.contracts.column_index.SpotOrd.TheImpl.{cmp-value as cmp-spot}
use Rattle.table_store.specs.Indexes.{has_pair, is_value, pair, pair_cmp, spot_cmp}

spots : (a b : Spot) → cmp-spot.it a b ≡ spot_cmp a b
spots spot.Before spot.Before = refl
spots spot.Before (spot.At k) = refl
spots spot.Before spot.Behind = refl
spots (spot.At k) spot.Before = refl
spots (spot.At k) (spot.At l) = ap (λ (f : Value → Value → Ordering). f k l) cmp_is
spots (spot.At k) spot.Behind = refl
spots spot.Behind spot.Before = refl
spots spot.Behind (spot.At k) = refl
spots spot.Behind spot.Behind = refl

pairs : (a b : Pair) → cmp-pair.it a b ≡ pair_cmp a b
pairs a b =
    ap (λ (f : Value → Value → Ordering). ordering_then (f a.value b.value) (cmp-spot.it a.spot b.spot)) cmp_is
    ∙ ap (λ o. ordering_then (value_cmp a.value b.value) o) (spots a.spot b.spot)

-- the derived comparison is the order by value, and then by key
pub pair_cmp_is : ◌≡◌ {A = Pair → Pair → Ordering} cmp-pair.it pair_cmp
pair_cmp_is = λ i a b. pairs a b i

both_equal : (o p : Ordering) → is_eq (ordering_then o p) ≡ (is_eq o && is_eq p)
both_equal Less p = refl
both_equal Equal p = refl
both_equal Greater p = refl

-- after a key was put in at a value, or taken away there
pub pair_changed : (old new : BTreeSet Pair) (w key : Value) (stored : Pair) (b : Bool) → stored ≡ pair w key → Updates cmp-pair.it old new stored b
    → (v k : Value) → has_pair new.keys v k ≡ cond (is_value (Some w) v && is_eq (value_cmp key k)) b (has_pair old.keys v k)
pair_changed old new w key stored b same updates v k =
    let made = subst (λ (p : Pair). Updates pair_cmp old new p b) same (subst (λ (f : Pair → Pair → Ordering). Updates f old new stored b) pair_cmp_is updates) in
    made.0 (pair v k)
    ∙ ap (λ t. cond t b (has_pair old.keys v k)) (both_equal (value_cmp w v) (value_cmp key k))
