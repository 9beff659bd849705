-- No call of a request is stored twice where no two stored calls of one connection, and none of two
-- connections, are one call of one request.
use Rattle.std.proofs.Common.{◌≡◌, refl, arith, ℕ, suc, ◌<◌, ◌&&◌, not, Bool, true, false, List, [], ◌∷◌, map, Some, if◌then◌else◌}
use Rattle.std.specs.Prelude.{◌==◌, drop, flat_map, slice_get}
use Rattle.std.specs.List.{list_all}
use Rattle.std.proofs.lemmas.Bool.{and_parts, and_from}
use Rattle.svc_values.specs.declared.draw.Draw.{Draw}
use Rattle.world_model.specs.meaning.Frames.{Handled}
use Rattle.world_model.specs.meaning.Links.{Link}
use Rattle.invariant_laws.specs.Once.{stopped_draws}
use Rattle.world_model.specs.Sames.{all_with, each_pair, same_owners}
use Rattle.once_laws.specs.StoredOnce.{is_call, is_stored_next, stored_of, StoredCall, stored_call, are_apart, stood_in, stored_on, are_stored_once}
use Rattle.world_model.specs.Traced.{Traced}
use Rattle.once_laws.proofs.values.FreshStored.{Each, each_flat}
use Rattle.once_laws.proofs.values.OwnedLists.{Stands, Here, Later}
use Rattle.world_model.proofs.Offered.{pair_from}

-- LISTS -------------------------------------------------------------------------------------------

each_from : {A : Type 0} (P : A → Type 0) (xs : List A) → ((x : A) → Stands x xs → P x) → Each P xs
each_from P [] each = tt
each_from P (x ∷ xs) each = (each x (Here xs), each_from P xs (λ y stands. each y (Later x xs stands)))

each_there : {A : Type 0} (P : A → Type 0) (x : A) (xs : List A) → Stands x xs → Each P xs → P x
each_there P x _ (Here xs) each = each.0
each_there P x _ (Later y xs stands) each = each_there P x xs stands each.1

each_with : {A : Type 0} (test : A → Bool) (xs : List A) → Each (λ x. test x ≡ true) xs → all_with test xs ≡ true
each_with test [] each = refl
each_with test (x ∷ xs) each = and_from (test x) (all_with test xs) each.0 (each_with test xs each.1)

each_all : {A : Type 0} (test : A → Bool) (xs : List A) → Each (λ x. test x ≡ true) xs → list_all test xs ≡ true
each_all test [] each = refl
each_all test (x ∷ xs) each = and_from (test x) (list_all test xs) each.0 (each_all test xs each.1)

-- of parts that are apart, each from each
pairs_flat : {A B : Type 0} (test : B → B → Bool) (f : A → List B) (xs : List A) → ((index : ℕ) (x : A) → slice_get xs index ≡ Some x → each_pair test (f x) ≡ true)
    → ((index other : ℕ) (x y : A) → index < other → slice_get xs index ≡ Some x → slice_get xs other ≡ Some y → (a b : B) → Stands a (f x) → Stands b (f y) → test a b ≡ true) → each_pair test (flat_map f xs) ≡ true
pairs_flat test f [] own cross = refl
pairs_flat {A} {B} test f (x ∷ xs) own cross =
    pair_from test (f x) (flat_map f xs) (record {
      first = own 0 x refl;
      second = pairs_flat test f xs (λ index y at. own (suc index) y at) (λ index other y z less at there. cross (suc index) (suc other) y z (omega (arith, less)) at there);
      across =
          each_all (λ (a : B). all_with (test a) (flat_map f xs)) (f x)
          (each_from (λ (a : B). all_with (test a) (flat_map f xs) ≡ true) (f x)
          (λ a here. each_with (test a) (flat_map f xs)
          (each_flat (λ (b : B). test a b ≡ true) f xs (λ index y at. each_from (λ (b : B). test a b ≡ true) (f y) (λ b there. cross 0 (suc index) x y (omega arith) refl at a b here there)))));
    })

-- ONE CONNECTION ----------------------------------------------------------------------------------

-- a call that was served at this place, of a transaction that was stored
pub record IsStoredAt (stood : Bool) (served : List Handled) (place : ℕ) (one : Handled) : Type 0 where
  pub at : slice_get served place ≡ Some one
  pub called : is_call one.served.item ≡ true
  pub goes : is_stored_next stood (drop place served) ≡ true

abbrev pub calls_apart : Handled → Handled → Bool
calls_apart one two = not (same_owners one.sent.owner two.sent.owner && (one.sent.call == two.sent.call))

module _ (stopped : List Draw) (stood : Bool) where
  stored_later : (first : Handled) (served : List Handled) (place : ℕ) (one : Handled) → IsStoredAt stood served place one → IsStoredAt stood (first ∷ served) (suc place) one
  stored_later first served place one is = record { at = is.at; called = is.called; goes = is.goes }

  stored_first : (one : Handled) (served : List Handled) → (is_call one.served.item && is_stored_next stood (one ∷ served)) ≡ true → IsStoredAt stood (one ∷ served) 0 one
  stored_first one served is = let parts = and_parts (is_call one.served.item) (is_stored_next stood (one ∷ served)) is in record { at = refl; called = parts.0; goes = parts.1 }

  abbrev calls_in : List Handled → List StoredCall
  calls_in served = map (stored_call stopped) (stored_of stood served)

  -- where a stored call was served
  record IsPlaced (served : List Handled) (stored : StoredCall) : Type 0 where
    place : ℕ
    at : IsStoredAt stood served place stored.one

  all_placed : (whole served : List Handled) → ((place : ℕ) (one : Handled) → IsStoredAt stood served place one → IsPlaced whole (stored_call stopped one)) → Each (IsPlaced whole) (calls_in served)
  all_placed whole [] put = tt
  all_placed whole (one ∷ served) put = by (is_call one.served.item && is_stored_next stood (one ∷ served)) refl (all_placed whole served (λ place other is. put (suc place) other (stored_later one served place other is)))
    where
      by : (test : Bool) → (is_call one.served.item && is_stored_next stood (one ∷ served)) ≡ test → Each (IsPlaced whole) (calls_in served) → Each (IsPlaced whole) (map (stored_call stopped) (if test then one ∷ stored_of stood served else stored_of stood served))
      by true is rest = (put 0 one (stored_first one served is), rest)
      by false is rest = rest

  placed : (served : List Handled) → Each (IsPlaced served) (calls_in served)
  placed served = all_placed served served (λ place one is. record { place = place; at = is })

  pairs_placed : (served : List Handled) → ((place later : ℕ) (one two : Handled) → place < later → IsStoredAt stood served place one → IsStoredAt stood served later two → calls_apart one two ≡ true) → each_pair are_apart (calls_in served) ≡ true
  pairs_placed [] apart = refl
  pairs_placed (one ∷ served) apart =
      by (is_call one.served.item && is_stored_next stood (one ∷ served)) refl
      (pairs_placed served (λ place later a b less first second. apart (suc place) (suc later) a b (omega (arith, less)) (stored_later one served place a first) (stored_later one served later b second)))
    where
      by : (test : Bool) → (is_call one.served.item && is_stored_next stood (one ∷ served)) ≡ test → each_pair are_apart (calls_in served) ≡ true
          → each_pair are_apart (map (stored_call stopped) (if test then one ∷ stored_of stood served else stored_of stood served)) ≡ true
      by false is rest = rest
      by true is rest =
          and_from (all_with (are_apart (stored_call stopped one)) (calls_in served)) (each_pair are_apart (calls_in served))
          (each_with (are_apart (stored_call stopped one)) (calls_in served)
          (each_from (λ (stored : StoredCall). are_apart (stored_call stopped one) stored ≡ true) (calls_in served)
          (λ stored stands. let found = each_there (IsPlaced served) stored (calls_in served) stands (placed served) in
          apart 0 (suc found.place) one stored.one (omega arith) (stored_first one served is) (stored_later one served found.place stored.one found.at))))
          rest

-- ALL CONNECTIONS ---------------------------------------------------------------------------------

pub stored_apart : (t : Traced)
    → ((index : ℕ) (link : Link) → slice_get t.machine.links index ≡ Some link → (place later : ℕ) (one two : Handled) → place < later → IsStoredAt (stood_in t link.held) link.served place one → IsStoredAt (stood_in t link.held) link.served later two → calls_apart one two ≡ true)
    → ((index other : ℕ) (a b : Link) → index < other → slice_get t.machine.links index ≡ Some a → slice_get t.machine.links other ≡ Some b
    → (place later : ℕ) (one two : Handled) → IsStoredAt (stood_in t a.held) a.served place one → IsStoredAt (stood_in t b.held) b.served later two → calls_apart one two ≡ true)
    → are_stored_once t ≡ true
stored_apart t own cross =
    pairs_flat are_apart (stored_on t) t.machine.links
    (λ index link at. pairs_placed (stopped_draws t link.held) (stood_in t link.held) link.served (own index link at))
    (λ index other a b less at there one two first second.
    let here = each_there (IsPlaced (stopped_draws t a.held) (stood_in t a.held) a.served) one (stored_on t a) first (placed (stopped_draws t a.held) (stood_in t a.held) a.served) in
    let far = each_there (IsPlaced (stopped_draws t b.held) (stood_in t b.held) b.served) two (stored_on t b) second (placed (stopped_draws t b.held) (stood_in t b.held) b.served) in
    cross index other a b less at there here.place far.place one.one two.one here.at far.at)
