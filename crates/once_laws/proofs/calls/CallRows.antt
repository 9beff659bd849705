-- Of a list, those that are kept: at which place among them each one is. Where their indices are in
-- a row, each index between two of them is there, between their places.
use Rattle.std.proofs.Common.{◌≡◌, refl, sym, ap, ◌∙◌, arith, Bool, true, false, ℕ, suc, zero, ◌+◌, ◌-◌, ◌<◌, ◌≤◌, cond, filter, List, [], ◌∷◌, Some, ◌⊎◌, inl, inr}
use Rattle.std.specs.Prelude.{◌==◌, slice_get}
use Rattle.std.proofs.lemmas.Bool.{and_parts}
use Rattle.world_model.specs.meaning.Frames.{Sent}
use Rattle.invariant_laws.specs.Shown.{in_row}
use Rattle.world_model.proofs.Offered.{eq_from}

-- PLACES ------------------------------------------------------------------------------------------

pub less_or : (a b : ℕ) → (a < b) ⊎ (b ≤ a)
less_or zero zero = inr (omega arith)
less_or zero (suc b) = inl (omega arith)
less_or (suc a) zero = inr (omega arith)
less_or (suc a) (suc b) = by (less_or a b)
  where
    by : (a < b) ⊎ (b ≤ a) → (suc a < suc b) ⊎ (suc b ≤ suc a)
    by (inl less) = inl (omega (arith, less))
    by (inr most) = inr (omega (arith, most))

pub got_before : {A : Type 0} (xs : List A) (place later : ℕ) (y : A) → place ≤ later → slice_get xs later ≡ Some y → (x : A) × (slice_get xs place ≡ Some x)
got_before [] place later y less at = absurd (let none : ⊥ = cc in none)
got_before (x ∷ xs) zero later y less at = (x, refl)
got_before (x ∷ xs) (suc place) zero y less at = absurd (let none : ⊥ = omega (arith, less) in none)
got_before (x ∷ xs) (suc place) (suc later) y less at = got_before xs place later y (omega (arith, less)) at

abbrev pub more_if : Bool → ℕ → ℕ
more_if true n = suc n
more_if false n = n

more_less : (test : Bool) (m n : ℕ) → m < n → more_if test m < more_if test n
more_less true m n less = omega (arith, less)
more_less false m n less = less

more_most : (test : Bool) (m n : ℕ) → m ≤ n → more_if test m ≤ more_if test n
more_most true m n most = omega (arith, most)
more_most false m n most = most

module _ {A : Type 0} (keep : A → Bool) where
  -- how many are kept before a place
  abbrev pub rank : List A → ℕ → ℕ
  rank [] place = 0
  rank (x ∷ xs) zero = 0
  rank (x ∷ xs) (suc place) = more_if (keep x) (rank xs place)

  pub ranked : (xs : List A) (place : ℕ) (x : A) → slice_get xs place ≡ Some x → keep x ≡ true → slice_get (filter keep xs) (rank xs place) ≡ Some x
  ranked [] place x at is = absurd (let none : ⊥ = cc in none)
  ranked (y ∷ xs) zero x at is = by (keep y) (let same : y ≡ x = cc in ap keep same ∙ is)
    where
      by : (kept : Bool) → kept ≡ true → slice_get (cond kept (y ∷ filter keep xs) (filter keep xs)) 0 ≡ Some x
      by true is = at
      by false is = absurd (let none : ⊥ = cc in none)
  ranked (y ∷ xs) (suc place) x at is = by (keep y) (ranked xs place x at is)
    where
      by : (kept : Bool) → slice_get (filter keep xs) (rank xs place) ≡ Some x → slice_get (cond kept (y ∷ filter keep xs) (filter keep xs)) (more_if kept (rank xs place)) ≡ Some x
      by true rest = rest
      by false rest = rest

  pub rank_rises : (xs : List A) (place later : ℕ) (x : A) → place < later → slice_get xs place ≡ Some x → keep x ≡ true → rank xs place < rank xs later
  rank_rises [] place later x less at is = absurd (let none : ⊥ = cc in none)
  rank_rises (y ∷ xs) zero zero x less at is = absurd (let none : ⊥ = omega (arith, less) in none)
  rank_rises (y ∷ xs) zero (suc later) x less at is = by (keep y) (let same : y ≡ x = cc in ap keep same ∙ is)
    where
      by : (kept : Bool) → kept ≡ true → 0 < more_if kept (rank xs later)
      by true is = omega arith
      by false is = absurd (let none : ⊥ = cc in none)
  rank_rises (y ∷ xs) (suc place) zero x less at is = absurd (let none : ⊥ = omega (arith, less) in none)
  rank_rises (y ∷ xs) (suc place) (suc later) x less at is = more_less (keep y) (rank xs place) (rank xs later) (rank_rises xs place later x (omega (arith, less)) at is)

  rank_most : (xs : List A) (place later : ℕ) → place ≤ later → rank xs place ≤ rank xs later
  rank_most [] place later less = omega arith
  rank_most (y ∷ xs) zero later less = omega arith
  rank_most (y ∷ xs) (suc place) zero less = absurd (let none : ⊥ = omega (arith, less) in none)
  rank_most (y ∷ xs) (suc place) (suc later) less = more_most (keep y) (rank xs place) (rank xs later) (rank_most xs place later (omega (arith, less)))

  -- where one of those that are kept is
  pub record IsFrom (xs : List A) (number : ℕ) (x : A) : Type 0 where
    pub place : ℕ
    pub at : slice_get xs place ≡ Some x
    pub kept : keep x ≡ true
    pub ranks : rank xs place ≡ number

  pub is_from : (xs : List A) (number : ℕ) (x : A) → slice_get (filter keep xs) number ≡ Some x → IsFrom xs number x
  is_from [] number x at = absurd (let none : ⊥ = cc in none)
  is_from (y ∷ xs) number x at = by (keep y) refl at (λ n later. is_from xs n x later)
    where
      further : (test : Bool) (n m : ℕ) → keep y ≡ test → more_if test n ≡ m → IsFrom xs n x → IsFrom (y ∷ xs) m x
      further test n m is same rest = record { place = suc rest.place; at = rest.at; kept = rest.kept; ranks = ap (λ (b : Bool). more_if b (rank xs rest.place)) is ∙ (ap (more_if test) rest.ranks ∙ same) }

      first : (n : ℕ) → keep y ≡ true → slice_get (y ∷ filter keep xs) n ≡ Some x → ((k : ℕ) → slice_get (filter keep xs) k ≡ Some x → IsFrom xs k x) → IsFrom (y ∷ xs) n x
      first zero is at again = record { place = zero; at = at; kept = let same : y ≡ x = cc in ap keep (sym same) ∙ is; ranks = refl }
      first (suc n) is at again = further true n (suc n) is refl (again n at)

      by : (kept : Bool) → keep y ≡ kept → slice_get (cond kept (y ∷ filter keep xs) (filter keep xs)) number ≡ Some x → ((n : ℕ) → slice_get (filter keep xs) n ≡ Some x → IsFrom xs n x) → IsFrom (y ∷ xs) number x
      by true is at again = first number is at again
      by false is at again = further false number number is refl (again number at)

  -- two that are kept stand as their places do
  pub rank_before : (xs : List A) (place later : ℕ) → rank xs place < rank xs later → place < later
  rank_before xs place later less = by (less_or place later)
    where
      by : (place < later) ⊎ (later ≤ place) → place < later
      by (inl so) = so
      by (inr back) = let most = rank_most xs later place back in absurd (let none : ⊥ = omega (arith, less, most) in none)

  pub rank_upto : (xs : List A) (place later : ℕ) (y : A) → slice_get xs later ≡ Some y → keep y ≡ true → rank xs place ≤ rank xs later → place ≤ later
  rank_upto xs place later y at is most = by (less_or later place)
    where
      by : (later < place) ⊎ (place ≤ later) → place ≤ later
      by (inr so) = so
      by (inl back) = let less = rank_rises xs later place y back at is in absurd (let none : ⊥ = omega (arith, less, most) in none)

-- ROWS --------------------------------------------------------------------------------------------

pub row_at : (index : ℕ) (sents : List Sent) → in_row index sents ≡ true → (place : ℕ) (one : Sent) → slice_get sents place ≡ Some one → one.call ≡ index + place
row_at index [] row place one at = absurd (let none : ⊥ = cc in none)
row_at index (first ∷ sents) row zero one at =
    let here : first.call ≡ index = eq_from first.call index (and_parts (first.call == index) (in_row (index + 1) sents) row).0 in
    let same : first ≡ one = cc in
    let call : first.call ≡ one.call = ap (λ (s : Sent). s.call) same in
    omega (arith, here, call)
row_at index (first ∷ sents) row (suc place) one at = let rest = row_at (index + 1) sents (and_parts (first.call == index) (in_row (index + 1) sents) row).1 place one at in omega (arith, rest)

module _ (keep : Sent → Bool) (start : ℕ) (sents : List Sent) (row : in_row start (filter keep sents) ≡ true) where
  pub row_rank : (place : ℕ) (one : Sent) → slice_get sents place ≡ Some one → keep one ≡ true → one.call ≡ start + rank keep sents place
  row_rank place one at is = row_at start (filter keep sents) row (rank keep sents place) one (ranked keep sents place one at is)

  -- the one of an index
  pub record IsBetween (place last index : ℕ) : Type 0 where
    pub at : ℕ
    pub sent : Sent
    pub there : slice_get sents at ≡ Some sent
    pub kept : keep sent ≡ true
    pub call : sent.call ≡ index
    pub from : place ≤ at
    pub before : at < last

  pub between : (place last : ℕ) (one two : Sent) → slice_get sents place ≡ Some one → keep one ≡ true → slice_get sents last ≡ Some two → keep two ≡ true → (index : ℕ) → one.call ≤ index → index < two.call → IsBetween place last index
  between place last one two at is there so index from before =
      let first = row_rank place one at is in
      let second = row_rank last two there so in
      let number : ℕ = index - start in
      let least : start + number ≡ index = omega (arith, first, from) in
      let most : number ≤ rank keep sents last = omega (arith, second, before, least) in
      let got = got_before (filter keep sents) number (rank keep sents last) two most (ranked keep sents last two there so) in
      let found = is_from keep sents number got.0 got.1 in
      let call = row_rank found.place got.0 found.at found.kept in
      let ranks = found.ranks in
      let upto : rank keep sents place ≤ rank keep sents found.place = omega (arith, first, from, least, ranks) in
      let below : rank keep sents found.place < rank keep sents last = omega (arith, second, before, least, ranks) in
      record {
        at = found.place;
        sent = got.0;
        there = found.at;
        kept = found.kept;
        call = omega (arith, call, least, ranks);
        from = rank_upto keep sents place found.place got.0 found.at found.kept upto;
        before = rank_before keep sents found.place last below;
      }

  -- two of one index stand at one place
  pub same_place : (place other : ℕ) (one two : Sent) → slice_get sents place ≡ Some one → keep one ≡ true → slice_get sents other ≡ Some two → keep two ≡ true → one.call ≡ two.call → place ≡ other
  same_place place other one two at is there so same =
      let first = row_rank place one at is in
      let second = row_rank other two there so in
      let upto = rank_upto keep sents place other two there so (omega (arith, first, second, same)) in
      let down = rank_upto keep sents other place one at is (omega (arith, first, second, same)) in
      omega (arith, upto, down)
