-- Values that were given: where none is the first of its kind twice, each has one owner.
use Rattle.std.proofs.Common.{◌≡◌, refl, sym, ap, subst, ◌∙◌, arith, ℕ, ◌+◌, ◌≤◌, ◌<◌, ◌&&◌, ◌||◌, Bool, true, false, not, cond, List, [], ◌∷◌, ◌++◌, Option, if◌then◌else◌, ◌⊎◌, inl, inr}
use Rattle.std.specs.Prelude.{◌==◌, nat_lt}
use Rattle.std.specs.List.{list_any}
use Rattle.std.proofs.lemmas.Bool.{and_parts, and_from, or_cases, not-true}
use Rattle.svc_values.specs.declared.draw.Draw.{Draw}
use Rattle.svc_values.specs.meaning.Same.{same_draw}
use Rattle.svc_values.specs.SameLaws.{same_draw_decides}
use Rattle.run_clauses.specs.Fresh.{is_given_again}
use Rattle.server_model.specs.meaning.Fresh.{is_single}
use Rattle.world_model.specs.meaning.Frames.{Owner}
use Rattle.invariant_laws.specs.Once.{Given, later_is_marked, have_one_owner}
use Rattle.world_model.specs.Sames.{all_with, each_pair, same_owners}
use Rattle.invariant_laws.proofs.Offered.{owners_are}
use Rattle.world_model.proofs.Offered.{owners_self, eq_from, eq_to, lt_from, lt_to}

-- ORIGINS -----------------------------------------------------------------------------------------

-- the same value was given to the same call without the mark, at an earlier event
abbrev pub is_origin : Given → Given → Bool
is_origin given one = not one.mark && (same_draw given.value one.value && (same_owners one.owner given.owner && ((one.call == given.call) && nat_lt one.event given.event)))

abbrev pub has_origin : List Given → Given → Bool
has_origin whole given = given.mark && list_any (is_origin given) whole

-- the value is given here, and not from an earlier event
abbrev pub is_first : List Given → Draw → Given → Bool
is_first whole value given = same_draw value given.value && not (has_origin whole given)

abbrev one_if : Bool → ℕ
one_if test = cond test 1 0

abbrev pub firsts : List Given → Draw → List Given → ℕ
firsts whole value [] = 0
firsts whole value (given ∷ more) = one_if (is_first whole value given) + firsts whole value more

pub firsts_both : (whole : List Given) (value : Draw) (xs ys : List Given) → firsts whole value (xs ++ ys) ≡ firsts whole value xs + firsts whole value ys
firsts_both whole value [] ys = omega arith
firsts_both whole value (x ∷ xs) ys = let rest = firsts_both whole value xs ys in omega (arith, rest)

-- MEMBERS -----------------------------------------------------------------------------------------

-- it stands in the list
pub data Stands {A : Type 0} (x : A) : List A → Type 0 where
  Here : (more : List A) → Stands x (x ∷ more)
  Later : (y : A) (more : List A) → Stands x more → Stands x (y ∷ more)

pub stands_any : {A : Type 0} (test : A → Bool) (xs : List A) → list_any test xs ≡ true → (x : A) × (Stands x xs × (test x ≡ true))
stands_any test [] is = absurd (let none : ⊥ = cc in none)
stands_any {A} test (x ∷ xs) is = by (or_cases (test x) (list_any test xs) is) (λ later. stands_any test xs later)
  where
    by : (test x ≡ true) ⊎ (list_any test xs ≡ true) → (list_any test xs ≡ true → (y : A) × (Stands y xs × (test y ≡ true))) → (y : A) × (Stands y (x ∷ xs) × (test y ≡ true))
    by (inl here) again = (x, (Here xs, here))
    by (inr later) again = let found = again later in (found.0, (Later x xs found.1.0, found.1.1))

-- one that is a first is counted
pub some_first : (whole : List Given) (value : Draw) (x : Given) (xs : List Given) → Stands x xs → is_first whole value x ≡ true → 1 ≤ firsts whole value xs
some_first whole value x _ (Here more) is = let one : one_if (is_first whole value x) ≡ 1 = ap one_if is in omega (arith, one)
some_first whole value x _ (Later y more stands) is = let rest = some_first whole value x more stands is in omega (arith, rest)

-- where they are few they are one
pub one_first : (whole : List Given) (value : Draw) (x y : Given) (xs : List Given) → Stands x xs → Stands y xs → is_first whole value x ≡ true → is_first whole value y ≡ true → firsts whole value xs ≤ 1 → x ≡ y
one_first whole value x _ _ (Here more) (Here _) first second few = refl
one_first whole value x y _ (Here more) (Later _ _ stands) first second few =
    let one : one_if (is_first whole value x) ≡ 1 = ap one_if first in
    let rest = some_first whole value y more stands second in
    absurd (let never : ⊥ = omega (arith, one, rest, few) in never)
one_first whole value x y _ (Later _ more stands) (Here _) first second few =
    let one : one_if (is_first whole value y) ≡ 1 = ap one_if second in
    let rest = some_first whole value x more stands first in
    absurd (let never : ⊥ = omega (arith, one, rest, few) in never)
one_first whole value x y _ (Later z more one) (Later _ _ other) first second few = one_first whole value x y more one other first second (omega (arith, few))

-- TWO OF THEM -------------------------------------------------------------------------------------

-- the one from which a value came: itself, or the same value of the same call at an earlier event
pub record From (whole : List Given) (value : Draw) (given : Given) : Type 0 where
  pub one : Given
  pub stands : Stands one whole
  pub first : is_first whole value one ≡ true
  pub owner : one.owner ≡ given.owner
  pub call : one.call ≡ given.call
  pub when : (one ≡ given) ⊎ ((one.event < given.event) × (given.mark ≡ true))

pub from_one : (whole : List Given) (value : Draw) (given : Given) → Stands given whole → same_draw value given.value ≡ true → From whole value given
from_one whole value given stands same = by (has_origin whole given) refl
  where
    by : (test : Bool) → has_origin whole given ≡ test → From whole value given
    by false none = record { one = given; stands = stands; first = and_from (same_draw value given.value) (not (has_origin whole given)) same (ap not none); owner = refl; call = refl; when = inl refl }
    by true has =
        let parts = and_parts given.mark (list_any (is_origin given) whole) has in
        let found = stands_any (is_origin given) whole parts.1 in
        let it : Given = found.0 in
        let one = and_parts (not it.mark) _ found.1.1 in
        let two = and_parts (same_draw given.value it.value) _ one.1 in
        let three = and_parts (same_owners it.owner given.owner) _ two.1 in
        let four = and_parts (it.call == given.call) (nat_lt it.event given.event) three.1 in
        let equal : given.value ≡ it.value = (same_draw_decides given.value it.value).0 two.0 in
        record {
          one = it;
          stands = found.1.0;
          first = and_from (same_draw value it.value) (not (has_origin whole it)) (subst (λ (d : Draw). same_draw value d ≡ true) equal same) (ap (λ (mark : Bool). not (mark && list_any (is_origin it) whole)) (not-true it.mark one.0));
          owner = owners_are it.owner given.owner three.0;
          call = eq_from it.call given.call four.0;
          when = inr (lt_from it.event given.event four.1, parts.0);
        }

-- Of two the later one has the mark. Two that are both firsts do not come here.
marked : (a b one : Given) → (one ≡ a) ⊎ ((one.event < a.event) × (a.mark ≡ true)) → (one ≡ b) ⊎ ((one.event < b.event) × (b.mark ≡ true)) → ((one ≡ a) → (one ≡ b) → ⊥) → later_is_marked a b ≡ true
marked a b one (inl first) (inl second) never = absurd (never first second)
marked a b one (inl first) (inr second) never =
    let below : a.event < b.event = subst (λ (g : Given). g.event < b.event) first second.0 in
    ap (λ (test : Bool). if test then b.mark else a.mark) (lt_to a.event b.event below) ∙ second.1
marked a b one (inr first) (inl second) never =
    let below : b.event < a.event = subst (λ (g : Given). g.event < a.event) second first.0 in
    by (nat_lt a.event b.event) refl below
  where
    by : (test : Bool) → nat_lt a.event b.event ≡ test → b.event < a.event → (if test then b.mark else a.mark) ≡ true
    by true is below = let above : a.event < b.event = lt_from a.event b.event is in absurd (let none : ⊥ = omega (arith, above, below) in none)
    by false is below = first.1
marked a b one (inr first) (inr second) never = by (nat_lt a.event b.event)
  where
    by : (test : Bool) → (if test then b.mark else a.mark) ≡ true
    by true = second.1
    by false = first.1

module _ (whole : List Given) (few : (value : Draw) → is_single value ≡ true → firsts whole value whole ≤ 1) where
  -- two of them, of which the second stands behind the first in a part of the whole
  both_owned : (a b : Given) (behind : List Given) → Stands a whole → Stands b whole → Stands b behind → ((value : Draw) → is_single value ≡ true → firsts whole value (a ∷ behind) ≤ 1) → have_one_owner a b ≡ true
  both_owned a b behind a_stands b_stands later part = by (is_given_again a.value b.value) refl
    where
      same_now : (same_draw a.value b.value) ≡ true → is_single a.value ≡ true → (same_owners a.owner b.owner && ((a.call == b.call) && later_is_marked a b)) ≡ true
      same_now same single =
          let from_a : From whole a.value a = from_one whole a.value a a_stands ((same_draw_decides a.value a.value).1 refl) in
          let from_b : From whole a.value b = from_one whole a.value b b_stands same in
          let equal : from_a.one ≡ from_b.one = one_first whole a.value from_a.one from_b.one whole from_a.stands from_b.stands from_a.first from_b.first (few a.value single) in
          let owners : a.owner ≡ b.owner = sym from_a.owner ∙ (ap (λ (g : Given). g.owner) equal ∙ from_b.owner) in
          let calls : a.call ≡ b.call = sym from_a.call ∙ (ap (λ (g : Given). g.call) equal ∙ from_b.call) in
          and_from (same_owners a.owner b.owner) ((a.call == b.call) && later_is_marked a b) (subst (λ (o : Option Owner). same_owners a.owner o ≡ true) owners (owners_self a.owner))
          (and_from (a.call == b.call) (later_is_marked a b) (eq_to a.call b.call calls)
          (marked a b from_b.one (subst (λ (g : Given). (g ≡ a) ⊎ ((g.event < a.event) × (a.mark ≡ true))) equal from_a.when) from_b.when
          (λ is_a is_b.
          let first : is_first whole a.value a ≡ true = subst (λ (g : Given). is_first whole a.value g ≡ true) is_a from_b.first in
          let second : is_first whole a.value b ≡ true = subst (λ (g : Given). is_first whole a.value g ≡ true) is_b from_b.first in
          let one : one_if (is_first whole a.value a) ≡ 1 = ap one_if first in
          let rest = some_first whole a.value b behind later second in
          let most = part a.value single in
          let never : ⊥ = omega (arith, one, rest, most) in
          never)))

      by : (again : Bool) → is_given_again a.value b.value ≡ again → (not again || (same_owners a.owner b.owner && ((a.call == b.call) && later_is_marked a b))) ≡ true
      by false is = refl
      by true is = let parts = and_parts (is_single a.value) (same_draw a.value b.value) is in same_now parts.1 parts.0

  abbrev AllStand : List Given → Type 0
  AllStand xs = (x : Given) → Stands x xs → Stands x whole

  with_all : (a : Given) (behind xs : List Given) → Stands a whole → AllStand xs → ((x : Given) → Stands x xs → Stands x behind) → ((value : Draw) → is_single value ≡ true → firsts whole value (a ∷ behind) ≤ 1) → all_with (have_one_owner a) xs ≡ true
  with_all a behind [] stands all later part = refl
  with_all a behind (x ∷ xs) stands all later part =
      and_from (have_one_owner a x) (all_with (have_one_owner a) xs) (both_owned a x behind stands (all x (Here xs)) (later x (Here xs)) part)
      (with_all a behind xs stands (λ y at. all y (Later x xs at)) (λ y at. later y (Later x xs at)) part)

  pairs_owned : (xs : List Given) → AllStand xs → ((value : Draw) → is_single value ≡ true → firsts whole value xs ≤ 1) → each_pair have_one_owner xs ≡ true
  pairs_owned [] all part = refl
  pairs_owned (x ∷ xs) all part =
      and_from (all_with (have_one_owner x) xs) (each_pair have_one_owner xs) (with_all x xs xs (all x (Here xs)) (λ y at. all y (Later x xs at)) (λ y at. at) part)
      (pairs_owned xs (λ y at. all y (Later x xs at)) (λ value single. let most = part value single in omega (arith, most)))

  pub each_owned : each_pair have_one_owner whole ≡ true
  each_owned = pairs_owned whole (λ x at. at) few
