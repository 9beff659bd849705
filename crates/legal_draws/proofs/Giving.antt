-- Values that a sequence gives one after the other.
use Rattle.std.proofs.Common.{◌≡◌, ℕ, suc, ◌+◌, ◌-◌, ◌<◌, ◌≤◌, ℤ, pos, ◌+ℤ◌, Bool, true, false, refl, ap, ◌∙◌, arith}
use Rattle.std.specs.Prelude.{int_le}
use Rattle.server_model.specs.meaning.NewValues.{Count, blocks_for, gave, gave_often, upto_with}

one_less : (values i : ℕ) → i < values → values - i ≡ suc (values - (i + 1))
one_less values i within = omega (arith, within)

-- one value more of those that are left
pub often_more : (values i : ℕ) (count : Count) → i < values → gave_often (values - i) count ≡ gave_often (values - (i + 1)) (gave count)
often_more values i count within = ap (λ n. gave_often n count) (one_less values i within)

none_left : (values i : ℕ) → values ≤ i → values - i ≡ 0
none_left values i past = omega (arith, past)

pub often_none : (values i : ℕ) (count : Count) → values ≤ i → gave_often (values - i) count ≡ count
often_none values i count past = ap (λ n. gave_often n count) (none_left values i past)

first_block : (more : ℕ) (next upto : ℤ) (t : Bool) → int_le next upto ≡ t
    → blocks_for (suc more) next upto ≡ blocks_for 1 next upto + blocks_for more (next +ℤ pos 1) (upto_with next upto)
first_block more next upto true is = rw is (omega arith)
first_block more next upto false is = rw is (omega arith)

-- the blocks for one value, and those for the others
pub blocks_more : (values i : ℕ) (count : Count) → i < values
    → blocks_for (values - i) count.next count.upto ≡ blocks_for 1 count.next count.upto + blocks_for (values - (i + 1)) (gave count).next (gave count).upto
blocks_more values i count within =
    ap (λ n. blocks_for n count.next count.upto) (one_less values i within) ∙ first_block (values - (i + 1)) count.next count.upto (int_le count.next count.upto) refl

pub blocks_none : (values i : ℕ) (next upto : ℤ) → values ≤ i → blocks_for (values - i) next upto ≡ 0
blocks_none values i next upto past = ap (λ n. blocks_for n next upto) (none_left values i past)
