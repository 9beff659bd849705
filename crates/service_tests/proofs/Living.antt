-- Which connections live, once one was set.
use Rattle.std.proofs.Common.{◌≡◌, ◌∙◌, ℕ, Bool, true, false, refl, sym, ap, arith}
use Rattle.std.specs.Prelude.{◌==◌, Option, Some, None, is_some, if◌then◌else◌}
use Rattle.std.proofs.lemmas.Bool.Decides.{nat_tests}
use Rattle.service_tests.specs.Facts.{Facts, lives_at, HasPlace, with_living}

set_lives : (facts : Facts) (connection : ℕ) (lives : Bool) → (lives ≡ true → HasPlace connection) → (other : ℕ) → lives_at (with_living connection lives facts) other ≡ (if other == connection then lives else lives_at facts other)
set_lives facts connection lives place other = grind (arith, nat_tests)

some_if : {A : Type 0} (test : Bool) (x : A) (other : Option A) → is_some (if test then Some x else other) ≡ (if test then true else is_some other)
some_if true x other = refl
some_if false x other = refl

none_if : {A : Type 0} (test : Bool) (other : Option A) → is_some (if test then None else other) ≡ (if test then false else is_some other)
none_if true other = refl
none_if false other = refl

module _ {A : Type 0} (facts : Facts) (living : ℕ → Option A) (so : (other : ℕ) → is_some (living other) ≡ lives_at facts other) (connection : ℕ) where
  -- with it
  pub lives_with : (x : A) → HasPlace connection → (other : ℕ) → is_some (if other == connection then Some x else living other) ≡ lives_at (with_living connection true facts) other
  lives_with x place other =
      some_if (other == connection) x (living other) ∙ ap (λ b. if other == connection then true else b) (so other) ∙ sym (set_lives facts connection true (λ _. place) other)

  -- without it
  pub lives_without : (other : ℕ) → is_some (if other == connection then None else living other) ≡ lives_at (with_living connection false facts) other
  lives_without other =
      none_if (other == connection) (living other) ∙ ap (λ b. if other == connection then false else b) (so other) ∙ sym (set_lives facts connection false (λ is. absurd (let none : ⊥ = cc in none)) other)

  -- where it lived in neither
  pub lives_as_before : lives_at facts connection ≡ false → (other : ℕ) → is_some (living other) ≡ lives_at (with_living connection false facts) other
  lives_as_before none other = so other ∙ same
    where
      same : lives_at facts other ≡ lives_at (with_living connection false facts) other
      same = grind (arith, nat_tests)

-- one that lives has a place
pub has_place : (facts : Facts) (connection : ℕ) → lives_at facts connection ≡ true → HasPlace connection
has_place facts connection lives = grind (arith, nat_tests)
