-- Lists of which one item was changed.
use Rattle.std.proofs.Common.{◌≡◌, inl, inr, ℕ, zero, suc, ◌+◌, ◌==◌, ◌≤◌, true, false, length, subst, add-one, List, [], ◌∷◌, ◌++◌, Option, Some, None, arith, refl, sym, ap, ◌∙◌}
use Rattle.std.proofs.lemmas.Bool.Decides.{eqb_tells}
use Rattle.std.specs.Prelude.{◌⊎◌, slice_get, slice_set}
use Rattle.world_core.specs.declared.connection.Connection.{Connection}
use Rattle.world_model.specs.meaning.Links.{new_link}
use Rattle.world_core.specs.Linked.{connection_at, MaySend, IsLink, IsOpenAt}

pub slice_same : {A : Type 0} (all : List A) (index : ℕ) (old new : A) → slice_get all index ≡ Some old → slice_get (slice_set all index new) index ≡ Some new
slice_same [] index old new there = absurd (let nothing : ⊥ = cc in nothing)
slice_same (one ∷ all) zero old new there = refl
slice_same (one ∷ all) (suc index) old new there = slice_same all index old new there

pub slice_other : {A : Type 0} (all : List A) (index other : ℕ) (new : A) → (other ≡ index → ⊥) → slice_get (slice_set all index new) other ≡ slice_get all other
slice_other [] index other new apart = refl
slice_other (one ∷ all) zero zero new apart = absurd (apart refl)
slice_other (one ∷ all) zero (suc other) new apart = refl
slice_other (one ∷ all) (suc index) zero new apart = refl
slice_other (one ∷ all) (suc index) (suc other) new apart = slice_other all index other new (λ same. apart (ap suc same))

pub connection_other : (all : List Connection) (number at other : ℕ) (one : Connection) → number ≡ suc at → (other ≡ number → ⊥) → connection_at (slice_set all at one) other ≡ connection_at all other
connection_other all number at zero one is apart = refl
connection_other all number at (suc other) one is apart = slice_other all at other one (λ same. apart (ap suc same ∙ sym is))

pub set_length : {A : Type 0} (all : List A) (index : ℕ) (new : A) → length (slice_set all index new) ≡ length all
set_length [] index new = refl
set_length (one ∷ all) zero new = refl
set_length (one ∷ all) (suc index) new = ap suc (set_length all index new)

pub slice_past : {A : Type 0} (all : List A) (index : ℕ) → slice_get all index ≡ None → length all ≤ index
slice_past [] index none = omega arith
slice_past (one ∷ all) zero none = absurd (let nothing : ⊥ = cc in nothing)
slice_past (one ∷ all) (suc index) none = let less : length all ≤ index = slice_past all index none in omega arith

pub last_there : {A : Type 0} (all : List A) (one : A) → slice_get (all ++ one ∷ []) (length all) ≡ Some one
last_there [] one = refl
last_there (first ∷ all) one = last_there all one

pub slice_before : {A : Type 0} (all : List A) (last : A) (index : ℕ) → (index ≡ length all → ⊥) → slice_get (all ++ last ∷ []) index ≡ slice_get all index
slice_before [] last zero apart = absurd (apart refl)
slice_before [] last (suc index) apart = refl
slice_before (first ∷ all) last zero apart = refl
slice_before (first ∷ all) last (suc index) apart = slice_before all last index (λ same. apart (ap suc same))

some_same : {A : Type 0} (a b : A) → ◌≡◌ {A = Option A} (Some a) (Some b) → a ≡ b
some_same a b is = cc

-- one of these with one more stood there before, or it is the last
pub slice_added : {A : Type 0} (all : List A) (last : A) (index : ℕ) (one : A) → slice_get (all ++ last ∷ []) index ≡ Some one → (slice_get all index ≡ Some one) ⊎ ((index ≡ length all) × (last ≡ one))
slice_added [] last zero one is = inr (refl, some_same last one is)
slice_added [] last (suc index) one is = absurd (let none : ⊥ = cc in none)
slice_added (first ∷ all) last zero one is = inl is
slice_added {A} (first ∷ all) last (suc index) one is = by (slice_added all last index one is)
  where
    by : (slice_get all index ≡ Some one) ⊎ ((index ≡ length all) × (last ≡ one)) → (slice_get all index ≡ Some one) ⊎ ((suc index ≡ suc (length all)) × (last ≡ one))
    by (inl before) = inl before
    by (inr is) = inr (ap suc is.0, is.1)

-- one of these where one was changed is that, or stood there before
pub slice_changed : {A : Type 0} (all : List A) (index other : ℕ) (old new one : A) → slice_get all index ≡ Some old → slice_get (slice_set all index new) other ≡ Some one → ((other ≡ index) × (new ≡ one)) ⊎ ((other ≡ index → ⊥) × (slice_get all other ≡ Some one))
slice_changed {A} all index other old new one there is = by (eqb_tells other index)
  where
    by : (((other == index) ≡ true) × (other ≡ index)) ⊎ (((other == index) ≡ false) × (other ≡ index → ⊥)) → ((other ≡ index) × (new ≡ one)) ⊎ ((other ≡ index → ⊥) × (slice_get all other ≡ Some one))
    by (inl (told, same)) = inl (same, some_same new one (sym (slice_same all index old new there) ∙ ap (slice_get (slice_set all index new)) (sym same) ∙ is))
    by (inr (told, apart)) = inr (apart, sym (slice_other all index other new apart) ∙ is)

-- the one that was opened last is open
pub open_last : (before all : List Connection) (one : Connection) (number : ℕ) → all ≡ before ++ one ∷ [] → IsLink one new_link → number ≡ length before + 1 → IsOpenAt all number
open_last before all one number more is many =
    let next : number ≡ suc (length before) = many ∙ add-one (length before) in
    let there : connection_at all number ≡ Some one = ap (λ (n : ℕ). connection_at all n) next ∙ ap (λ (l : List Connection). slice_get l (length before)) more ∙ last_there before one in
    λ frames. subst (λ (c : Option Connection). MaySend c frames) (sym there) (inr (sym is.ended))
