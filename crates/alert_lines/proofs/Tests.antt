-- Tests that are joined.
use Rattle.std.proofs.Common.{◌≡◌, ◌⊎◌, Bool, true, false, ◌&&◌, ◌||◌, refl, inl, inr}

pub both_left : (a b : Bool) → (a && b) ≡ true → a ≡ true
both_left true b is = refl
both_left false b is = is

pub both_right : (a b : Bool) → (a && b) ≡ true → b ≡ true
both_right true b is = is
both_right false b is = let none : ⊥ = cc in absurd none

pub both : (a b : Bool) → a ≡ true → b ≡ true → (a && b) ≡ true
both true b one other = other
both false b one other = one

pub some : (a b : Bool) → (a || b) ≡ true → (a ≡ true) ⊎ (b ≡ true)
some true b is = inl refl
some false b is = inr is

pub first_so : (a b : Bool) → a ≡ true → (a || b) ≡ true
first_so true b is = refl
first_so false b is = let none : ⊥ = cc in absurd none

pub second_so : (a b : Bool) → b ≡ true → (a || b) ≡ true
second_so true b is = refl
second_so false b is = is

-- one of two parts, each under its test
pub either : (e p p' n q q' : Bool) → (p ≡ true → p' ≡ true) → (q ≡ true → q' ≡ true) → ((e && p) || (n && q)) ≡ true → ((e && p') || (n && q')) ≡ true
either e p p' n q q' one other is = by (some (e && p) (n && q) is)
  where
    by : ((e && p) ≡ true) ⊎ ((n && q) ≡ true) → ((e && p') || (n && q')) ≡ true
    by (inl is) = first_so (e && p') (n && q') (both e p' (both_left e p is) (one (both_right e p is)))
    by (inr is) = second_so (e && p') (n && q') (both n q' (both_left n q is) (other (both_right n q is)))

pub false_unless : (a b : Bool) → (a ≡ true → b ≡ true) → b ≡ false → a ≡ false
false_unless true b so is = let none : ⊥ = (let held : b ≡ true = so refl in cc) in absurd none
false_unless false b so is = refl
