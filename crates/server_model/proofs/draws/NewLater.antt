-- Values that are still to come and those that came: what is above the numbers of a walk, which
-- only rise, and what lies below the ends of its blocks.
use Rattle.std.specs.Prelude.{◌≡◌, ◌⊎◌, ◌<◌, ◌≤◌, ◌^◌, ◌+ℤ◌, ℕ, ℤ, pos, int_le, Bool, true, false, List, Option, Some, None}
use Rattle.std.specs.Ordering.{int_eq}
use Rattle.std.proofs.Common.{refl, inl, inr, ◌∙◌, arith}
use Rattle.std.proofs.lemmas.Int.{ints}
use Rattle.std.proofs.lemmas.Bool.Decides.{Decides-int_eq}
use Rattle.svc_values.specs.declared.draw.Draw.{Draw}
use Rattle.svc_values.specs.declared.draw.Draw.TheVariants as draw
use Rattle.mutable_values.specs.meaning.Sources.{identifier}
use Rattle.server_model.specs.meaning.NewValues.{Count, Numbers}
use Rattle.server_model.proofs.draws.Tracking.{count_in}

-- ---- numbers

pub le-trans : (a b c : ℤ) → int_le a b ≡ true → int_le b c ≡ true → int_le a c ≡ true
le-trans a b c p q = grind (arith, ints)

pub le-self : (a : ℤ) → int_le a a ≡ true
le-self a = grind (arith, ints)

pub le-same : (a b : ℤ) → b ≡ a → int_le a b ≡ true
le-same a b e = grind (arith, ints)

pub le-more : (a b : ℤ) → int_le a b ≡ true → int_le (a +ℤ pos 1) (b +ℤ pos 1) ≡ true
le-more a b p = grind (arith, ints)

pub le-block : (a b : ℤ) → int_le a (b +ℤ pos 1) ≡ true → int_le (a +ℤ pos 1) ((b +ℤ pos 16) +ℤ pos 1) ≡ true
le-block a b p = grind (arith, ints)

pub le-up : (a b : ℤ) → int_le a (b +ℤ pos 1) ≡ true → int_le (a +ℤ pos 16) ((b +ℤ pos 16) +ℤ pos 1) ≡ true
le-up a b p = grind (arith, ints)

pub le-down : (a b : ℤ) → int_le (a +ℤ pos 16) b ≡ true → int_le a b ≡ true
le-down a b p = grind (arith, ints)

pub le-next : (a b c : ℤ) → int_le a b ≡ true → c ≡ b +ℤ pos 1 → int_le a c ≡ true
le-next a b c p e = grind (arith, ints)

pub le-far : (a b : ℤ) → int_le a (b +ℤ pos 1) ≡ true → int_le a (b +ℤ pos 16) ≡ true
le-far a b p = grind (arith, ints)

pub le-self-far : (a : ℤ) → int_le a (a +ℤ pos 16) ≡ true
le-self-far a = grind (arith, ints)

above-not : (a b c : ℤ) → c ≡ a +ℤ pos 1 → int_le c b ≡ true → a ≡ b → ⊥
above-not a b c e p same = omega (arith, ints)

pub not-equal : (a b c : ℤ) → c ≡ a +ℤ pos 1 → int_le c b ≡ true → int_eq a b ≡ false
not-equal a b c e p = by (int_eq a b) refl
  where
    by : (t : Bool) → int_eq a b ≡ t → t ≡ false
    by false is = refl
    by true is = absurd (above-not a b c e p ((Decides-int_eq a b).0 is))

-- ---- words

-- the value is not below what the sequence gives next
abbrev pub AboveOne : Option Count → ℤ → Type 0
AboveOne None value = ⊥
AboveOne (Some count) value = int_le count.next value ≡ true

-- the identifier comes behind those that were given
pub record IsBehind (numbers : Numbers) (id : List ℕ) : Type 0 where
  pub own : ℕ
  pub counter : ℕ
  pub is : id ≡ identifier own counter
  pub small : own < 2 ^ 64
  pub few : counter < 2 ^ 64
  pub comes : (numbers.incarnation < own) ⊎ ((own ≡ numbers.incarnation) × (numbers.identifiers < counter))

-- a value that these numbers may still give
abbrev pub Above : Numbers → Draw → Type 0
Above numbers (draw.Seq name value) = AboveOne (count_in numbers.counts name) value
Above numbers (draw.Clock tick) = Unit {0}
Above numbers (draw.Id id) = IsBehind numbers id

abbrev pub LaterOne : Option Count → Option Count → Type 0
LaterOne None None = Unit {0}
LaterOne None (Some after) = ⊥
LaterOne (Some count) None = ⊥
LaterOne (Some count) (Some after) = (int_le count.next after.next ≡ true) × (int_le count.upto after.upto ≡ true)

-- numbers that come later
pub record Later (numbers after : Numbers) : Type 0 where
  pub ahead : (numbers.incarnation < after.incarnation) ⊎ ((after.incarnation ≡ numbers.incarnation) × (numbers.identifiers ≤ after.identifiers))
  pub counts : (name : List ℕ) → LaterOne (count_in numbers.counts name) (count_in after.counts name)

-- the value lies in a block that was set aside
abbrev pub BelowOne : Option Count → ℤ → Type 0
BelowOne None value = ⊥
BelowOne (Some count) value = int_le value count.upto ≡ true

abbrev pub Below : Numbers → Draw → Type 0
Below numbers (draw.Seq name value) = BelowOne (count_in numbers.counts name) value
Below numbers (draw.Clock tick) = Unit {0}
Below numbers (draw.Id id) = Unit {0}

abbrev pub WithinOne : Option Count → Type 0
WithinOne None = Unit {0}
WithinOne (Some count) = int_le count.next (count.upto +ℤ pos 1) ≡ true

-- no sequence gave a value past its last block
abbrev pub AllWithin : Numbers → Type 0
AllWithin numbers = (name : List ℕ) → WithinOne (count_in numbers.counts name)

-- numbers that come later in one opening
pub record OnDraws (numbers after : Numbers) : Type 0 where
  pub opened_as : after.incarnation ≡ numbers.incarnation
  pub given : numbers.identifiers ≤ after.identifiers
  pub counts : (name : List ℕ) → LaterOne (count_in numbers.counts name) (count_in after.counts name)
  pub within : AllWithin numbers → AllWithin after

pub on-later : (numbers after : Numbers) → OnDraws numbers after → Later numbers after
on-later numbers after on = record { ahead = inr (on.opened_as, on.given); counts = on.counts }

pub later-self : (count : Option Count) → LaterOne count count
later-self None = tt
later-self (Some count) = (le-self count.next, le-self count.upto)

pub later-one : (a b c : Option Count) → LaterOne a b → LaterOne b c → LaterOne a c
later-one None None None one other = tt
later-one None None (Some c) one other = other
later-one None (Some b) c one other = absurd one
later-one (Some a) None c one other = absurd one
later-one (Some a) (Some b) None one other = other
later-one (Some a) (Some b) (Some c) one other = (le-trans a.next b.next c.next one.0 other.0, le-trans a.upto b.upto c.upto one.1 other.1)

pub on-same : (numbers : Numbers) → OnDraws numbers numbers
on-same numbers = record { opened_as = refl; given = omega arith; counts = λ name. later-self (count_in numbers.counts name); within = λ all. all }

pub on-then : (a b c : Numbers) → OnDraws a b → OnDraws b c → OnDraws a c
on-then a b c one other = record {
  opened_as = other.opened_as ∙ one.opened_as;
  given = trans a.identifiers b.identifiers c.identifiers one.given other.given;
  counts = λ name. later-one (count_in a.counts name) (count_in b.counts name) (count_in c.counts name) (one.counts name) (other.counts name);
  within = λ all. other.within (one.within all);
}
  where
    trans : (m n k : ℕ) → m ≤ n → n ≤ k → m ≤ k
    trans m n k first second = omega arith

one-above : (count after : Option Count) (value : ℤ) → LaterOne count after → AboveOne after value → AboveOne count value
one-above None None value later above = above
one-above None (Some after) value later above = absurd later
one-above (Some count) None value later above = absurd later
one-above (Some count) (Some after) value later above = le-trans count.next after.next value later.0 above

one-below : (count after : Option Count) (value : ℤ) → LaterOne count after → BelowOne count value → BelowOne after value
one-below None after value later below = absurd below
one-below (Some count) None value later below = absurd later
one-below (Some count) (Some after) value later below = le-trans value count.upto after.upto below later.1

-- what lies in a block lies in one of later numbers
pub below-later : (numbers after : Numbers) (one : Draw) → ((name : List ℕ) → LaterOne (count_in numbers.counts name) (count_in after.counts name)) → Below numbers one → Below after one
below-later numbers after (draw.Seq name value) later below = one-below (count_in numbers.counts name) (count_in after.counts name) value (later name) below
below-later numbers after (draw.Clock tick) later below = tt
below-later numbers after (draw.Id id) later below = tt

-- what is above later numbers is above the earlier ones
pub above-earlier : (numbers after : Numbers) (one : Draw) → Later numbers after → Above after one → Above numbers one
above-earlier numbers after (draw.Seq name value) later above = one-above (count_in numbers.counts name) (count_in after.counts name) value (later.counts name) above
above-earlier numbers after (draw.Clock tick) later above = tt
above-earlier numbers after (draw.Id id) later above = record { own = above.own; counter = above.counter; is = above.is; small = above.small; few = above.few; comes = by later.ahead above.comes }
  where
    below : (m n k : ℕ) → m < n → n < k → m < k
    below m n k one other = omega arith

    at : (m n k : ℕ) → k ≡ n → m < n → m < k
    at m n k same one = omega arith

    from : (m n k : ℕ) → n ≡ m → n < k → m < k
    from m n k same one = omega arith

    fewer : (m n k : ℕ) → m ≤ n → n < k → m < k
    fewer m n k one other = omega arith

    by : (numbers.incarnation < after.incarnation) ⊎ ((after.incarnation ≡ numbers.incarnation) × (numbers.identifiers ≤ after.identifiers))
        → (after.incarnation < above.own) ⊎ ((above.own ≡ after.incarnation) × (after.identifiers < above.counter)) → (numbers.incarnation < above.own) ⊎ ((above.own ≡ numbers.incarnation) × (numbers.identifiers < above.counter))
    by (inl one) (inl other) = inl (below numbers.incarnation after.incarnation above.own one other)
    by (inl one) (inr other) = inl (at numbers.incarnation after.incarnation above.own other.0 one)
    by (inr one) (inl other) = inl (from numbers.incarnation after.incarnation above.own one.0 other)
    by (inr one) (inr other) = inr (other.0 ∙ one.0, fewer numbers.identifiers after.identifiers above.counter one.1 other.1)
