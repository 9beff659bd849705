-- A new value is above all that were drawn anew before it, and lies in a block that is set aside.
use Rattle.std.specs.Prelude.{◌≡◌, ◌⊎◌, ◌+◌, ◌<◌, ◌≤◌, ◌^◌, ◌&&◌, ◌==◌, ◌+ℤ◌, ℕ, zero, suc, ℤ, pos, int_le, Bool, true, false, List, map, Option, Some, None, if◌then◌else◌}
use Rattle.std.specs.Option.{option_map, option_and_then}
use Rattle.std.specs.Ordering.{int_eq}
use Rattle.std.specs.Str.{bytes_eq}
use Rattle.std.proofs.Common.{refl, inl, inr, sym, ◌∙◌, ap, subst, arith}
use Rattle.std.proofs.lemmas.Bool.Decides.{Decides-int_eq}
use Rattle.svc_values.specs.declared.draw.Draw.{Draw}
use Rattle.svc_values.specs.declared.draw.Draw.TheVariants as draw
use Rattle.svc_values.specs.meaning.Same.{same_draw}
use Rattle.mutable_values.specs.meaning.Sources.{identifier}
use Rattle.mutable_values.proofs.Offered.{same_incarnation, same_counter}
use Rattle.server_model.specs.meaning.NewValues.{Count, Numbers, gave, gave_first, gave_often, if_gave, settled, shifted, ways_from, reopened, opened, if_next, with_counts, next_identifier, counted}
use Rattle.server_model.specs.meaning.Fresh.{is_single}
use Rattle.server_model.proofs.draws.Takings.{same_name, names_are, some_same, none_some}
use Rattle.server_model.proofs.draws.Tracking.{count_in, count_name, count_mapped, put_count, after_put, found_put}
use Rattle.server_model.proofs.draws.NewLater.{le-trans, le-self, le-same, le-more, le-block, le-up, le-down, le-next, le-far, le-self-far, not-equal, AboveOne, Above, BelowOne, Below, LaterOne, Later, WithinOne, AllWithin, OnDraws, later-self, on-same}

-- ---- a sequence gives a value

-- the value is one that the count may give, and the count goes on behind it
record IsGiven (count : Count) (value : ℤ) (after : Count) : Type 0 where
  name : after.name ≡ count.name
  above : int_le count.next value ≡ true
  next : after.next ≡ value +ℤ pos 1
  upto : int_le count.upto after.upto ≡ true
  below : int_le count.next (count.upto +ℤ pos 1) ≡ true → int_le value after.upto ≡ true
  within : int_le count.next (count.upto +ℤ pos 1) ≡ true → int_le after.next (after.upto +ℤ pos 1) ≡ true

gave-within : (count : Count) → int_le count.next (count.upto +ℤ pos 1) ≡ true → int_le (gave count).next ((gave count).upto +ℤ pos 1) ≡ true
gave-within count within = by (int_le count.next count.upto) refl
  where
    by : (b : Bool) → int_le count.next count.upto ≡ b → int_le (count.next +ℤ pos 1) ((if b then count.upto else count.upto +ℤ pos 16) +ℤ pos 1) ≡ true
    by true e = le-more count.next count.upto e
    by false e = le-block count.next count.upto within

gave-upto : (count : Count) → int_le count.upto (gave count).upto ≡ true
gave-upto count = by (int_le count.next count.upto)
  where
    by : (b : Bool) → int_le count.upto (if b then count.upto else count.upto +ℤ pos 16) ≡ true
    by true = le-self count.upto
    by false = le-self-far count.upto

gave-below : (count : Count) → int_le count.next (count.upto +ℤ pos 1) ≡ true → int_le count.next (gave count).upto ≡ true
gave-below count within = by (int_le count.next count.upto) refl
  where
    by : (b : Bool) → int_le count.next count.upto ≡ b → int_le count.next (if b then count.upto else count.upto +ℤ pos 16) ≡ true
    by true e = e
    by false e = le-far count.next count.upto within

given-here : (count : Count) (value : ℤ) → value ≡ count.next → IsGiven count value (gave (settled count))
given-here count value same = record {
  name = refl;
  above = le-same count.next value same;
  next = ap (λ n. n +ℤ pos 1) (sym same);
  upto = gave-upto (settled count);
  below = λ w. subst (λ v. int_le v (gave (settled count)).upto ≡ true) (sym same) (gave-below (settled count) w);
  within = λ w. gave-within (settled count) w;
}

given-later : (count : Count) (maybe : ℕ) (value : ℤ) (after : Count) → IsGiven (shifted count maybe) value after → IsGiven count value after
given-later count maybe value after given = record {
  name = given.name;
  above = le-down count.next value given.above;
  next = given.next;
  upto = le-down count.upto after.upto given.upto;
  below = λ w. given.below (le-up count.next count.upto w);
  within = λ w. given.within (le-up count.next count.upto w);
}

given-by : (maybe : ℕ) (count : Count) (value : ℤ) (after : Count) → gave_first value (ways_from maybe count) ≡ Some after → IsGiven count value after
given-by zero count value after is = by (int_eq value count.next) refl is
  where
    by : (b : Bool) → int_eq value count.next ≡ b → (if b then Some (gave (settled count)) else None) ≡ Some after → IsGiven count value after
    by true e found = subst (IsGiven count value) (some_same _ _ found) (given-here count value ((Decides-int_eq value count.next).0 e))
    by false e found = absurd (none_some after found)
given-by (suc maybe) count value after is = by (int_eq value count.next) refl is (λ found. given-by maybe (shifted count maybe) value after found)
  where
    by : (b : Bool) → int_eq value count.next ≡ b → (if b then Some (gave (settled count)) else gave_first value (ways_from maybe (shifted count maybe))) ≡ Some after
        → (gave_first value (ways_from maybe (shifted count maybe)) ≡ Some after → IsGiven (shifted count maybe) value after) → IsGiven count value after
    by true e found more = subst (IsGiven count value) (some_same _ _ found) (given-here count value ((Decides-int_eq value count.next).0 e))
    by false e found more = given-later count maybe value after (more found)

-- ---- a new value

-- the numbers behind a new value: it was above those before, is not among what is above those
-- after, and lies in one of their blocks
pub record Stepped (numbers : Numbers) (given : Draw) (after : Numbers) : Type 0 where
  pub on : OnDraws numbers after
  pub above : after.incarnation < 2 ^ 64 → after.identifiers < 2 ^ 64 → Above numbers given
  pub below : AllWithin numbers → Below after given
  pub apart : after.incarnation < 2 ^ 64 → after.identifiers < 2 ^ 64 → (other : Draw) → Above after other → (is_single given && same_draw given other) ≡ false

never-same : (b : Bool) → (b ≡ true → ⊥) → b ≡ false
never-same true never = absurd (never refl)
never-same false never = refl

module _ (numbers : Numbers) where
  by-tick : (now tick : ℕ) (after : Numbers) (b : Bool) → (if b then Some numbers else None) ≡ Some after → Stepped numbers (draw.Clock tick) after
  by-tick now tick after true is = subst (Stepped numbers (draw.Clock tick)) (some_same numbers after is) (record { on = on-same numbers; above = λ small few. tt; below = λ all. tt; apart = λ small few other above. refl })
  by-tick now tick after false is = absurd (none_some after is)

  named-on : OnDraws numbers (counted numbers)
  named-on = record { opened_as = refl; given = more numbers.identifiers; counts = λ name. later-self (count_in numbers.counts name); within = λ all. all }
    where
      more : (n : ℕ) → n ≤ n + 1
      more n = omega arith

  named-apart : (id : List ℕ) → id ≡ next_identifier numbers → numbers.incarnation < 2 ^ 64 → numbers.identifiers + 1 < 2 ^ 64 → (other : Draw) → Above (counted numbers) other → (true && same_draw (draw.Id id) other) ≡ false
  named-apart id is small few (draw.Seq name value) above = refl
  named-apart id is small few (draw.Clock tick) above = refl
  named-apart id is small few (draw.Id other) above = never-same (bytes_eq id other) (λ same. by (sym is ∙ names_are id other same ∙ above.is) above.comes)
    where
      self : (m n : ℕ) → m ≡ n → m < n → ⊥
      self m n same below = omega arith

      by : identifier numbers.incarnation (numbers.identifiers + 1) ≡ identifier above.own above.counter → (numbers.incarnation < above.own) ⊎ ((above.own ≡ numbers.incarnation) × (numbers.identifiers + 1 < above.counter)) → ⊥
      by same (inl below) = self numbers.incarnation above.own (same_incarnation numbers.incarnation above.own (numbers.identifiers + 1) above.counter small above.small same) below
      by same (inr (own, below)) = self (numbers.identifiers + 1) above.counter (same_counter numbers.incarnation above.own (numbers.identifiers + 1) above.counter few above.few same) below

  by-name : (id : List ℕ) (after : Numbers) (b : Bool) → bytes_eq id (next_identifier numbers) ≡ b → (if b then Some (counted numbers) else None) ≡ Some after → Stepped numbers (draw.Id id) after
  by-name id after true e is =
      let same : id ≡ next_identifier numbers = names_are id (next_identifier numbers) e in
      subst (Stepped numbers (draw.Id id)) (some_same (counted numbers) after is) (record {
        on = named-on;
        above = λ small few. record { own = numbers.incarnation; counter = numbers.identifiers + 1; is = same; small = small; few = few; comes = inr (refl, below numbers.identifiers) };
        below = λ all. tt;
        apart = λ small few other above. named-apart id same small few other above;
      })
    where
      below : (n : ℕ) → n < n + 1
      below n = omega arith
  by-name id after false e is = absurd (none_some after is)

  module _ (name : List ℕ) (value : ℤ) (count put : Count) (at : count_in numbers.counts name ≡ Some count) (given : IsGiven count value put) where
    found : (other : List ℕ) → count_in (put_count numbers.counts name put) other ≡ (if bytes_eq name other then Some put else count_in numbers.counts other)
    found other = found_put numbers.counts name put count at (given.name ∙ count_name numbers.counts name count at) other

    value-on : OnDraws numbers (record numbers { counts = put_count numbers.counts name put })
    value-on = record {
      opened_as = refl;
      given = omega arith;
      counts = λ other. subst (LaterOne (count_in numbers.counts other)) (sym (found other)) (later other (bytes_eq name other) refl);
      within = λ all other. subst WithinOne (sym (found other)) (within all other (bytes_eq name other));
    }
      where
        later : (other : List ℕ) (b : Bool) → bytes_eq name other ≡ b → LaterOne (count_in numbers.counts other) (if b then Some put else count_in numbers.counts other)
        later other true e = subst (λ c. LaterOne c (Some put)) (sym (ap (count_in numbers.counts) (sym (names_are name other e)) ∙ at)) (le-next count.next value put.next given.above given.next, given.upto)
        later other false e = later-self (count_in numbers.counts other)

        within : AllWithin numbers → (other : List ℕ) (b : Bool) → WithinOne (if b then Some put else count_in numbers.counts other)
        within all other true = given.within (subst WithinOne at (all name))
        within all other false = all other

    value-apart : (other : Draw) → Above (record numbers { counts = put_count numbers.counts name put }) other → (true && same_draw (draw.Seq name value) other) ≡ false
    value-apart (draw.Clock tick) above = refl
    value-apart (draw.Id id) above = refl
    value-apart (draw.Seq other number) above = by (bytes_eq name other) refl (subst (λ c. AboveOne c number) (found other) above)
      where
        by : (b : Bool) → bytes_eq name other ≡ b → AboveOne (if b then Some put else count_in numbers.counts other) number → (b && int_eq value number) ≡ false
        by true e over = not-equal value number put.next given.next over
        by false e over = refl

    value-stepped : Stepped numbers (draw.Seq name value) (record numbers { counts = put_count numbers.counts name put })
    value-stepped = record {
      on = value-on;
      above = λ small few. subst (λ c. AboveOne c value) (sym at) given.above;
      below = λ all. subst (λ c. BelowOne c value) (sym (found name ∙ ap (λ b. if b then Some put else count_in numbers.counts name) (same_name name))) (given.below (subst WithinOne at (all name)));
      apart = λ small few other above. value-apart other above;
    }

  by-value : (name : List ℕ) (value : ℤ) (after : Numbers) (found : Option Count) → count_in numbers.counts name ≡ found → with_counts numbers (option_map (put_count numbers.counts name) (option_and_then (λ c. if_gave c value) found)) ≡ Some after
      → Stepped numbers (draw.Seq name value) after
  by-value name value after None at is = absurd (none_some after is)
  by-value name value after (Some count) at is = by (if_gave count value) refl is
    where
      by : (put : Option Count) → if_gave count value ≡ put → with_counts numbers (option_map (put_count numbers.counts name) put) ≡ Some after → Stepped numbers (draw.Seq name value) after
      by None gave_so found = absurd (none_some after found)
      by (Some put) gave_so found = subst (Stepped numbers (draw.Seq name value)) (some_same _ after found) (value-stepped name value count put at (given-by count.maybe count value put gave_so))

  -- each new value is such
  pub next-stepped : (now : ℕ) (given : Draw) (after : Numbers) → if_next numbers now given ≡ Some after → Stepped numbers given after
  next-stepped now (draw.Seq name value) after is = by-value name value after (count_in numbers.counts name) refl (sym (ap (with_counts numbers) (after_put numbers.counts name value)) ∙ is)
  next-stepped now (draw.Clock tick) after is = by-tick now tick after (tick == now) is
  next-stepped now (draw.Id id) after is = by-name id after (bytes_eq id (next_identifier numbers)) refl is

-- ---- numbers that nobody sees

one-mapped : (change : Count → Count) → ((c : Count) → LaterOne (Some c) (Some (change c))) → (count : Option Count) → LaterOne count (option_map change count)
one-mapped change more None = tt
one-mapped change more (Some count) = more count

within-mapped : (change : Count → Count) → ((c : Count) → int_le c.next (c.upto +ℤ pos 1) ≡ true → int_le (change c).next ((change c).upto +ℤ pos 1) ≡ true) → (count : Option Count) → WithinOne count → WithinOne (option_map change count)
within-mapped change keeps None within = tt
within-mapped change keeps (Some count) within = keeps count within

-- all counts changed, and perhaps more identifiers
pub on-mapped : (numbers : Numbers) (change : Count → Count) (identifiers : ℕ) → ((c : Count) → (change c).name ≡ c.name) → ((c : Count) → LaterOne (Some c) (Some (change c)))
    → ((c : Count) → int_le c.next (c.upto +ℤ pos 1) ≡ true → int_le (change c).next ((change c).upto +ℤ pos 1) ≡ true) → numbers.identifiers ≤ identifiers
    → OnDraws numbers (record numbers { identifiers = identifiers; counts = map change numbers.counts })
on-mapped numbers change identifiers names more keeps given = record {
  opened_as = refl;
  given = given;
  counts = λ name. subst (LaterOne (count_in numbers.counts name)) (sym (count_mapped change names numbers.counts name)) (one-mapped change more (count_in numbers.counts name));
  within = λ all name. subst WithinOne (sym (count_mapped change names numbers.counts name)) (within-mapped change keeps (count_in numbers.counts name) (all name));
}

pub often-later : (often : ℕ) (count : Count) → LaterOne (Some count) (Some (gave_often often count))
often-later zero count = (le-self count.next, le-self count.upto)
often-later (suc more) count =
    let rest = often-later more (gave count) in (
      le-trans count.next (count.next +ℤ pos 1) (gave_often more (gave count)).next (le-next count.next count.next (count.next +ℤ pos 1) (le-self count.next) refl) rest.0,
      le-trans count.upto (gave count).upto (gave_often more (gave count)).upto (gave-upto count) rest.1,
    )

pub often-within : (often : ℕ) (count : Count) → int_le count.next (count.upto +ℤ pos 1) ≡ true → int_le (gave_often often count).next ((gave_often often count).upto +ℤ pos 1) ≡ true
often-within zero count within = within
often-within (suc more) count within = often-within more (gave count) (gave-within count within)

-- ---- a later opening

one-opened : (count : Option Count) → WithinOne count → LaterOne count (option_map reopened count)
one-opened None within = tt
one-opened (Some count) within = (within, le-self count.upto)

within-opened : (count : Option Count) → WithinOne (option_map reopened count)
within-opened None = tt
within-opened (Some count) = le-self (count.upto +ℤ pos 1)

pub opened-later : (numbers : Numbers) (incarnation : ℕ) → AllWithin numbers → numbers.incarnation < incarnation → Later numbers (opened numbers incarnation)
opened-later numbers incarnation all below = record {
  ahead = inl below;
  counts = λ name. subst (LaterOne (count_in numbers.counts name)) (sym (count_mapped reopened (λ c. refl) numbers.counts name)) (one-opened (count_in numbers.counts name) (all name));
}

pub opened-within : (numbers : Numbers) (incarnation : ℕ) → AllWithin (opened numbers incarnation)
opened-within numbers incarnation name = subst WithinOne (sym (count_mapped reopened (λ c. refl) numbers.counts name)) (within-opened (count_in numbers.counts name))
