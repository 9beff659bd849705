-- The way in which a sequence gives a value, by the number of blocks that stand.
use Rattle.std.proofs.Common.{◌≡◌, ℕ, zero, suc, ◌*◌, ◌≤◌, ◌≢◌, ℤ, pos, ◌+ℤ◌, Bool, true, false, List, [], ◌∷◌, refl, sym, ap, ap₂, ◌∙◌, arith}
use Rattle.std.proofs.lemmas.Bool.Decides.{Decides-int_eq}
use Rattle.std.proofs.lemmas.Int.{ints}
use Rattle.std.specs.Prelude.{Some, None}
use Rattle.std.specs.Ordering.{int_eq}
use Rattle.server_model.specs.meaning.NewValues.{Count, gave, gave_first, settled, shifted, ways_from}
use Rattle.legal_draws.specs.Ways.{way_at}

is_same : (a b : ℤ) → a ≡ b → int_eq a b ≡ true
is_same a b same = (Decides-int_eq a b).1 same

is_other : (a b : ℤ) (t : Bool) → int_eq a b ≡ t → a ≢ b → int_eq a b ≡ false
is_other a b true is other = absurd (other ((Decides-int_eq a b).0 is))
is_other a b false is other = is

no_more : (a : ℤ) → (a +ℤ pos (16 * 0)) ≡ a
no_more a = omega (arith, ints)

one_more : (a : ℤ) (blocks : ℕ) → ((a +ℤ pos 16) +ℤ pos (16 * blocks)) ≡ (a +ℤ pos (16 * suc blocks))
one_more a blocks = omega (arith, ints)

differs : (a : ℤ) (blocks : ℕ) → (a +ℤ pos (16 * suc blocks)) ≢ a
differs a blocks = λ same. omega (arith, ints, same)

-- the same way, without its last block
pub way_none : (count : Count) → way_at 0 count ≡ settled count
way_none count = ap₂ (λ next upto. record count { next = next; upto = upto; maybe = 0 }) (no_more count.next) (no_more count.upto)

pub way_more : (blocks maybe : ℕ) (count : Count) → way_at blocks (shifted count maybe) ≡ way_at (suc blocks) count
way_more blocks maybe count = ap₂ (λ next upto. record count { next = next; upto = upto; maybe = 0 }) (one_more count.next blocks) (one_more count.upto blocks)

first_gives : (count : Count) (value : ℤ) (maybe : ℕ) (counts : List Count) → value ≡ (count.next +ℤ pos (16 * 0)) → gave_first value (settled count ∷ counts) ≡ Some (gave (way_at 0 count))
first_gives count value maybe counts is =
    rw (is_same value count.next (is ∙ no_more count.next)) (ap (λ way. Some (gave way)) (sym (way_none count)))

-- the value is that of the way with so many blocks
pub way_gives : (maybe blocks : ℕ) (count : Count) (value : ℤ) → blocks ≤ maybe → value ≡ (count.next +ℤ pos (16 * blocks)) → gave_first value (ways_from maybe count) ≡ Some (gave (way_at blocks count))
way_gives zero zero count value within is = first_gives count value 0 [] is
way_gives (suc maybe) zero count value within is = first_gives count value maybe (ways_from maybe (shifted count maybe)) is
way_gives zero (suc blocks) count value within is = absurd (omega (arith, within))
way_gives (suc maybe) (suc blocks) count value within is =
    rw (is_other value count.next (int_eq value count.next) refl (λ same. differs count.next blocks (sym is ∙ same)))
    (way_gives maybe blocks (shifted count maybe) value (omega (arith, within)) (is ∙ sym (one_more count.next blocks))
    ∙ ap (λ way. Some (gave way)) (way_more blocks maybe count))

-- or that of no way
pub no_way_gives : (maybe : ℕ) (count : Count) (value : ℤ) → ((blocks : ℕ) → blocks ≤ maybe → value ≢ (count.next +ℤ pos (16 * blocks))) → gave_first value (ways_from maybe count) ≡ None
no_way_gives zero count value none = rw (is_other value count.next (int_eq value count.next) refl (λ same. none 0 (omega arith) (same ∙ sym (no_more count.next)))) refl
no_way_gives (suc maybe) count value none =
    rw (is_other value count.next (int_eq value count.next) refl (λ same. none 0 (omega arith) (same ∙ sym (no_more count.next))))
    (no_way_gives maybe (shifted count maybe) value (λ blocks within is. none (suc blocks) (omega (arith, within)) (is ∙ one_more count.next blocks)))
