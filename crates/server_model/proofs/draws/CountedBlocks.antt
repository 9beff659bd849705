-- A sequence as a walk counts it, beside the same sequence of the source: the numbers of values and
-- of blocks.
use Rattle.std.specs.Prelude.{◌≡◌, ◌⊎◌, ◌+◌, ◌*◌, ◌≤◌, ◌+ℤ◌, ℕ, zero, suc, ℤ, pos, int_le, Bool, true, false, Option, Some, None, if◌then◌else◌}
use Rattle.std.specs.Ordering.{int_eq}
use Rattle.std.proofs.Common.{refl, inl, inr, sym, ◌∙◌, ap, arith}
use Rattle.std.proofs.lemmas.Int.{ints}
use Rattle.std.proofs.lemmas.Bool.Decides.{Decides-int_eq}
use Rattle.mutable_values.specs.declared.source.SeqState.{SeqState}
use Rattle.server_model.specs.meaning.NewValues.{Count, upto_with, gave, gave_first, gave_often, settled, shifted, ways_from, blocks_for}

-- ---- numbers

le-up : (a b : ℤ) (n : ℕ) → int_le a b ≡ true → int_le (a +ℤ pos n) (b +ℤ pos n) ≡ true
le-up a b n e = grind (arith, ints)

le-not : (a b : ℤ) (n : ℕ) → int_le a b ≡ false → int_le (a +ℤ pos n) (b +ℤ pos n) ≡ false
le-not a b n e = grind (arith, ints)

le-shift : (a b : ℤ) (n : ℕ) → int_le (a +ℤ pos n) (b +ℤ pos n) ≡ int_le a b
le-shift a b n = by (int_le a b) refl
  where
    by : (t : Bool) → int_le a b ≡ t → int_le (a +ℤ pos n) (b +ℤ pos n) ≡ t
    by true e = le-up a b n e
    by false e = le-not a b n e

plus-none : (a b : ℤ) → b ≡ a → a ≡ b +ℤ pos (16 * 0)
plus-none a b e = omega (arith, ints)

one-more : (a b : ℤ) (n : ℕ) → a ≡ b +ℤ pos n → a +ℤ pos 1 ≡ (b +ℤ pos 1) +ℤ pos n
one-more a b n e = omega (arith, ints)

swap-one : (a : ℤ) (n : ℕ) → (a +ℤ pos n) +ℤ pos 1 ≡ (a +ℤ pos 1) +ℤ pos n
swap-one a n = omega (arith, ints)

swap-block : (a : ℤ) (n : ℕ) → (a +ℤ pos n) +ℤ pos 16 ≡ (a +ℤ pos 16) +ℤ pos n
swap-block a n = omega (arith, ints)

add-block : (a : ℤ) (m : ℕ) → (a +ℤ pos 16) +ℤ pos (16 * m) ≡ a +ℤ pos (16 * (m + 1))
add-block a m = omega (arith, ints)

sum-blocks : (a : ℤ) (j k : ℕ) → (a +ℤ pos (16 * j)) +ℤ pos (16 * k) ≡ a +ℤ pos (16 * (j + k))
sum-blocks a j k = omega (arith, ints)

last-block : (a : ℤ) (m : ℕ) → (a +ℤ pos (16 * m)) +ℤ pos 16 ≡ a +ℤ pos (16 * (m + 1))
last-block a m = omega (arith, ints)

upto_with-shift : (value upto : ℤ) (n : ℕ) → upto_with (value +ℤ pos n) (upto +ℤ pos n) ≡ upto_with value upto +ℤ pos n
upto_with-shift value upto n = ap (λ b. if b then upto +ℤ pos n else (upto +ℤ pos n) +ℤ pos 16) (le-shift value upto n) ∙ by (int_le value upto)
  where
    by : (b : Bool) → (if b then upto +ℤ pos n else (upto +ℤ pos n) +ℤ pos 16) ≡ (if b then upto else upto +ℤ pos 16) +ℤ pos n
    by true = refl
    by false = swap-block upto n

pub none-or-more : (n : ℕ) → (n ≡ 0) ⊎ ((m : ℕ) × (n ≡ m + 1))
none-or-more zero = inl refl
none-or-more (suc m) = inr (m, omega arith)

-- ---- what the source gives

-- the next value is given, out of another block where the last one is used up
abbrev pub raised : SeqState → SeqState
raised sequence = record sequence { next = sequence.next +ℤ pos 1; upto = upto_with sequence.next sequence.upto }

abbrev pub raise_often : ℕ → SeqState → SeqState
raise_often zero sequence = sequence
raise_often (suc more) sequence = raise_often more (raised sequence)

-- the blocks that so many values took
pub raised-upto : (often : ℕ) (sequence : SeqState) → (raise_often often sequence).upto ≡ sequence.upto +ℤ pos (16 * blocks_for often sequence.next sequence.upto)
raised-upto zero sequence = plus-none sequence.upto sequence.upto refl
raised-upto (suc more) sequence = raised-upto more (raised sequence) ∙ by (int_le sequence.next sequence.upto)
  where
    by : (b : Bool) → (if b then sequence.upto else sequence.upto +ℤ pos 16) +ℤ pos (16 * blocks_for more (sequence.next +ℤ pos 1) (if b then sequence.upto else sequence.upto +ℤ pos 16))
        ≡ sequence.upto +ℤ pos (16 * (if b then blocks_for more (sequence.next +ℤ pos 1) sequence.upto else blocks_for more (sequence.next +ℤ pos 1) (sequence.upto +ℤ pos 16) + 1))
    by true = refl
    by false = add-block sequence.upto (blocks_for more (sequence.next +ℤ pos 1) (sequence.upto +ℤ pos 16))

blocks-shift : (often : ℕ) (next upto : ℤ) (n : ℕ) → blocks_for often (next +ℤ pos n) (upto +ℤ pos n) ≡ blocks_for often next upto
blocks-shift zero next upto n = refl
blocks-shift (suc more) next upto n =
    ap (λ b. if b then blocks_for more ((next +ℤ pos n) +ℤ pos 1) (upto +ℤ pos n) else blocks_for more ((next +ℤ pos n) +ℤ pos 1) ((upto +ℤ pos n) +ℤ pos 16) + 1) (le-shift next upto n)
    ∙ by (blocks-shift more (next +ℤ pos 1) upto n) (blocks-shift more (next +ℤ pos 1) (upto +ℤ pos 16) n) (int_le next upto)
  where
    by : blocks_for more ((next +ℤ pos 1) +ℤ pos n) (upto +ℤ pos n) ≡ blocks_for more (next +ℤ pos 1) upto → blocks_for more ((next +ℤ pos 1) +ℤ pos n) ((upto +ℤ pos 16) +ℤ pos n) ≡ blocks_for more (next +ℤ pos 1) (upto +ℤ pos 16)
        → (b : Bool) → (if b then blocks_for more ((next +ℤ pos n) +ℤ pos 1) (upto +ℤ pos n) else blocks_for more ((next +ℤ pos n) +ℤ pos 1) ((upto +ℤ pos n) +ℤ pos 16) + 1)
        ≡ (if b then blocks_for more (next +ℤ pos 1) upto else blocks_for more (next +ℤ pos 1) (upto +ℤ pos 16) + 1)
    by here there true = ap (λ a. blocks_for more a (upto +ℤ pos n)) (swap-one next n) ∙ here
    by here there false = ap (λ m. m + 1) ((λ i. blocks_for more (swap-one next n i) (swap-block upto n i)) ∙ there)

least : (n : ℕ) → 0 ≤ n
least n = omega arith

blocks-more : (often asks : ℕ) (next upto : ℤ) → often ≤ asks → blocks_for often next upto ≤ blocks_for asks next upto
blocks-more zero asks next upto few = least (blocks_for asks next upto)
blocks-more (suc often) zero next upto few = absurd (omega arith)
blocks-more (suc often) (suc asks) next upto few =
    by (blocks-more often asks (next +ℤ pos 1) upto (omega arith)) (blocks-more often asks (next +ℤ pos 1) (upto +ℤ pos 16) (omega arith)) (int_le next upto)
  where
    by : blocks_for often (next +ℤ pos 1) upto ≤ blocks_for asks (next +ℤ pos 1) upto → blocks_for often (next +ℤ pos 1) (upto +ℤ pos 16) ≤ blocks_for asks (next +ℤ pos 1) (upto +ℤ pos 16)
        → (b : Bool) → (if b then blocks_for often (next +ℤ pos 1) upto else blocks_for often (next +ℤ pos 1) (upto +ℤ pos 16) + 1)
        ≤ (if b then blocks_for asks (next +ℤ pos 1) upto else blocks_for asks (next +ℤ pos 1) (upto +ℤ pos 16) + 1)
    by here there true = here
    by here there false = omega arith

-- where the last block is used up, one value more takes one block more
blocks-next : (often : ℕ) (sequence : SeqState) → int_le (raise_often often sequence).next (raise_often often sequence).upto ≡ false
    → blocks_for (suc often) sequence.next sequence.upto ≡ blocks_for often sequence.next sequence.upto + 1
blocks-next zero sequence past = ap (λ b. if b then 0 else 0 + 1) past
blocks-next (suc often) sequence past = by (int_le sequence.next sequence.upto) (blocks-next often (raised sequence) past)
  where
    by : (b : Bool) → blocks_for (suc often) (sequence.next +ℤ pos 1) (if b then sequence.upto else sequence.upto +ℤ pos 16) ≡ blocks_for often (sequence.next +ℤ pos 1) (if b then sequence.upto else sequence.upto +ℤ pos 16) + 1
        → (if b then blocks_for (suc often) (sequence.next +ℤ pos 1) sequence.upto else blocks_for (suc often) (sequence.next +ℤ pos 1) (sequence.upto +ℤ pos 16) + 1)
        ≡ (if b then blocks_for often (sequence.next +ℤ pos 1) sequence.upto else blocks_for often (sequence.next +ℤ pos 1) (sequence.upto +ℤ pos 16) + 1) + 1
    by true e = e
    by false e = ap (λ m. m + 1) e

-- so many blocks were set aside, at most those for so many values
pub record SetAside (asks : ℕ) (before after : SeqState) : Type 0 where
  pub gone : ℕ
  pub few : gone ≤ blocks_for asks before.next before.upto
  pub upto : after.upto ≡ before.upto +ℤ pos (16 * gone)

pub aside-none : (asks : ℕ) (sequence : SeqState) → SetAside asks sequence sequence
aside-none asks sequence = record { gone = 0; few = least (blocks_for asks sequence.next sequence.upto); upto = plus-none sequence.upto sequence.upto refl }

pub aside-often : (often asks : ℕ) (sequence : SeqState) → often ≤ asks → SetAside asks sequence (raise_often often sequence)
aside-often often asks sequence few = record {
  gone = blocks_for often sequence.next sequence.upto;
  few = blocks-more often asks sequence.next sequence.upto few;
  upto = raised-upto often sequence;
}

same-few : (m n k : ℕ) → m ≡ n → m ≤ k → n ≤ k
same-few m n k same few = omega arith

-- and one more for a value that was asked for and not given
pub aside-next : (often asks : ℕ) (sequence : SeqState) → suc often ≤ asks → int_le (raise_often often sequence).next (raise_often often sequence).upto ≡ false
    → SetAside asks sequence (record (raise_often often sequence) { upto = (raise_often often sequence).upto +ℤ pos 16 })
aside-next often asks sequence few past = record {
  gone = blocks_for often sequence.next sequence.upto + 1;
  few = same-few _ _ _ (blocks-next often sequence past) (blocks-more (suc often) asks sequence.next sequence.upto few);
  upto = ap (λ u. u +ℤ pos 16) (raised-upto often sequence) ∙ last-block sequence.upto (blocks_for often sequence.next sequence.upto);
}

-- ---- the walk beside the source

-- The source stands where the walk says, behind some of the blocks that may stand.
pub record Follows (count : Count) (sequence : SeqState) : Type 0 where
  pub blocks : ℕ
  pub within : blocks ≤ count.maybe
  pub next : sequence.next ≡ count.next +ℤ pos (16 * blocks)
  pub upto : sequence.upto ≡ count.upto +ℤ pos (16 * blocks)

-- the same of the last block alone
pub record Spends (count : Count) (sequence : SeqState) : Type 0 where
  pub blocks : ℕ
  pub within : blocks ≤ count.maybe
  pub upto : sequence.upto ≡ count.upto +ℤ pos (16 * blocks)

pub follows-spends : (count : Count) (sequence : SeqState) → Follows count sequence → Spends count sequence
follows-spends count sequence follows = record { blocks = follows.blocks; within = follows.within; upto = follows.upto }

follows-more : (count : Count) (sequence : SeqState) → Follows count sequence → Follows (gave count) (raised sequence)
follows-more count sequence follows = record {
  blocks = follows.blocks;
  within = follows.within;
  next = one-more sequence.next count.next (16 * follows.blocks) follows.next;
  upto = (λ i. upto_with (follows.next i) (follows.upto i)) ∙ upto_with-shift count.next count.upto (16 * follows.blocks);
}

pub follows-often : (often : ℕ) (count : Count) (sequence : SeqState) → Follows count sequence → Follows (gave_often often count) (raise_often often sequence)
follows-often zero count sequence follows = follows
follows-often (suc more) count sequence follows = follows-often more (gave count) (raised sequence) (follows-more count sequence follows)

pub often-name : (often : ℕ) (count : Count) → (gave_often often count).name ≡ count.name
often-name zero count = refl
often-name (suc more) count = often-name more (gave count)

-- one of the ways in which blocks may stand is that of the source
pub record IsFound (count : Count) (next upto : ℤ) (found : Option Count) : Type 0 where
  pub way : Count
  pub is : found ≡ Some (gave way)
  pub name : way.name ≡ count.name
  pub same_next : way.next ≡ next
  pub same_upto : way.upto ≡ upto

clash : (b : Bool) → b ≡ true → b ≡ false → ⊥
clash true yes_is no_is = let none : ⊥ = cc in none
clash false yes_is no_is = let none : ⊥ = cc in none

pub none-there : (next at : ℤ) (blocks : ℕ) → blocks ≡ 0 → next ≡ at +ℤ pos (16 * blocks) → next ≡ at
none-there next at blocks none is = omega (arith, ints)

pub same-there : (next at upto end : ℤ) (blocks : ℕ) → next ≡ at → next ≡ at +ℤ pos (16 * blocks) → upto ≡ end +ℤ pos (16 * blocks) → end ≡ upto
same-there next at upto end blocks same is upto_is = omega (arith, ints)

pub one-less : (next at : ℤ) (blocks less : ℕ) → blocks ≡ less + 1 → next ≡ at +ℤ pos (16 * blocks) → next ≡ (at +ℤ pos 16) +ℤ pos (16 * less)
one-less next at blocks less is same = omega (arith, ints)

pub find-way : (maybe : ℕ) (count : Count) (blocks : ℕ) (next upto : ℤ) → blocks ≤ maybe → next ≡ count.next +ℤ pos (16 * blocks) → upto ≡ count.upto +ℤ pos (16 * blocks)
    → IsFound count next upto (gave_first next (ways_from maybe count))
find-way zero count blocks next upto within next_is upto_is =
    let same : next ≡ count.next = none-there next count.next blocks (omega arith) next_is in
    record {
      way = settled count;
      is = ap (λ b. if b then Some (gave (settled count)) else None) ((Decides-int_eq next count.next).1 same);
      name = refl;
      same_next = sym same;
      same_upto = same-there next count.next upto count.upto blocks same next_is upto_is;
    }
find-way (suc maybe) count blocks next upto within next_is upto_is =
    by (int_eq next count.next) refl
    (λ less is. find-way maybe (shifted count maybe) less next upto (omega arith) (one-less next count.next blocks less is next_is) (one-less upto count.upto blocks less is upto_is))
  where
    by : (b : Bool) → int_eq next count.next ≡ b → ((less : ℕ) → blocks ≡ less + 1 → IsFound (shifted count maybe) next upto (gave_first next (ways_from maybe (shifted count maybe))))
        → IsFound count next upto (if b then Some (gave (settled count)) else gave_first next (ways_from maybe (shifted count maybe)))
    by true e more =
        let same : next ≡ count.next = (Decides-int_eq next count.next).0 e in
        record { way = settled count; is = refl; name = refl; same_next = sym same; same_upto = same-there next count.next upto count.upto blocks same next_is upto_is }
    by false e more = pick (none-or-more blocks)
      where
        pick : (blocks ≡ 0) ⊎ ((less : ℕ) × (blocks ≡ less + 1)) → IsFound count next upto (gave_first next (ways_from maybe (shifted count maybe)))
        pick (inl none) = absurd (clash (int_eq next count.next) ((Decides-int_eq next count.next).1 (none-there next count.next blocks none next_is)) e)
        pick (inr (less, is)) = let found = more less is in record { way = found.way; is = found.is; name = found.name; same_next = found.same_next; same_upto = found.same_upto }

-- the walk behind the next value of the source
pub follows-gave : (way : Count) (sequence : SeqState) → way.next ≡ sequence.next → way.upto ≡ sequence.upto → Follows (gave way) (raised sequence)
follows-gave way sequence next upto = record {
  blocks = 0;
  within = least way.maybe;
  next = plus-none (sequence.next +ℤ pos 1) (way.next +ℤ pos 1) (ap (λ n. n +ℤ pos 1) next);
  upto = plus-none (upto_with sequence.next sequence.upto) (upto_with way.next way.upto) (λ i. upto_with (next i) (upto i));
}

-- a stopped call may have left the blocks for its values
pub spends-stopped : (asks : ℕ) (count : Count) (before after : SeqState) → Follows count before → SetAside asks before after
    → Spends (record count { maybe = count.maybe + blocks_for asks count.next count.upto }) after
spends-stopped asks count before after follows aside = record {
  blocks = follows.blocks + aside.gone;
  within = both follows.blocks aside.gone count.maybe _ follows.within
      (at-most aside.gone _ _ ((λ i. blocks_for asks (follows.next i) (follows.upto i)) ∙ blocks-shift asks count.next count.upto (16 * follows.blocks)) aside.few);
  upto = aside.upto ∙ ap (λ u. u +ℤ pos (16 * aside.gone)) follows.upto ∙ sum-blocks count.upto follows.blocks aside.gone;
}
  where
    both : (j k m n : ℕ) → j ≤ m → k ≤ n → j + k ≤ m + n
    both j k m n one other = omega arith

    at-most : (k m n : ℕ) → m ≡ n → k ≤ m → k ≤ n
    at-most k m n same below = omega arith

pub follows-start : (count : Count) (sequence : SeqState) → count.next ≡ sequence.next → count.upto ≡ sequence.upto → Follows count sequence
follows-start count sequence next upto = record {
  blocks = 0;
  within = least count.maybe;
  next = plus-none sequence.next count.next next;
  upto = plus-none sequence.upto count.upto upto;
}

-- a later opening goes on behind the last block
pub spends-reopened : (count : Count) (sequence : SeqState) → Spends count sequence → Follows (record count { next = count.upto +ℤ pos 1 }) (record sequence { next = sequence.upto +ℤ pos 1 })
spends-reopened count sequence spends = record {
  blocks = spends.blocks;
  within = spends.within;
  next = one-more sequence.upto count.upto (16 * spends.blocks) spends.upto;
  upto = spends.upto;
}
