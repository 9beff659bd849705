-- The rounds of all clients, where those of each are no more.
use Rattle.std.proofs.Common.{◌≡◌, refl, sym, subst, ℕ, suc, zero, ◌+◌, ◌≤◌, length, List, [], ◌∷◌, Some, arith}
use Rattle.std.specs.Prelude.{slice_get}
use Rattle.world_model.specs.meaning.Settings.{Setting}
use Rattle.world_model.specs.meaning.Clients.{Client, script_at}
use Rattle.world_model.specs.meaning.Machines.{Machine}
use Rattle.world_model.specs.meaning.Finishing.{Place}
use Rattle.world_model.specs.Remaining.{client_rounds, has_stepped, rounds_from}

-- those of the client of this number
abbrev pub rounds_at : Setting → Machine → Place → ℕ → Client → ℕ
rounds_at setting m place number client = client_rounds setting m (has_stepped place number) (script_at setting number) client

module _ (setting : Setting) (m n : Machine) (place next : Place) where
  abbrev pub NoMore : ℕ → List Client → List Client → Type 0
  NoMore start xs ys = (index number : ℕ) (x y : Client) → number ≡ start + index → slice_get xs index ≡ Some x → slice_get ys index ≡ Some y → rounds_at setting n next number y ≤ rounds_at setting m place number x

  behind_first : (start : ℕ) (x y : Client) (xs ys : List Client) → NoMore start (x ∷ xs) (y ∷ ys) → NoMore (start + 1) xs ys
  behind_first start x y xs ys each index number a b same is at = each (suc index) number a b (omega arith) is at

  pub rounds_most : (start : ℕ) (xs ys : List Client) → length ys ≡ length xs → NoMore start xs ys → rounds_from setting n next start ys ≤ rounds_from setting m place start xs
  rounds_most start [] [] long each = omega arith
  rounds_most start [] (y ∷ ys) long each = absurd (let none : ⊥ = omega arith in none)
  rounds_most start (x ∷ xs) [] long each = absurd (let none : ⊥ = omega arith in none)
  rounds_most start (x ∷ xs) (y ∷ ys) long each =
      let first : rounds_at setting n next start y ≤ rounds_at setting m place start x = each 0 start x y (omega arith) refl refl in
      let rest : rounds_from setting n next (start + 1) ys ≤ rounds_from setting m place (start + 1) xs = rounds_most (start + 1) xs ys (omega arith) (behind_first start x y xs ys each) in
      omega arith

  -- and those of one are fewer
  pub rounds_less : (start : ℕ) (xs ys : List Client) (index number : ℕ) (a b : Client) → length ys ≡ length xs → NoMore start xs ys → number ≡ start + index → slice_get xs index ≡ Some a → slice_get ys index ≡ Some b
      → rounds_at setting n next number b + 1 ≤ rounds_at setting m place number a → rounds_from setting n next start ys + 1 ≤ rounds_from setting m place start xs
  rounds_less start [] ys index number a b long each same is at less = absurd (let none : ⊥ = cc in none)
  rounds_less start (x ∷ xs) [] index number a b long each same is at less = absurd (let none : ⊥ = omega arith in none)
  rounds_less start (x ∷ xs) (y ∷ ys) zero number a b long each same is at less =
      let a_is : x ≡ a = cc in
      let b_is : y ≡ b = cc in
      let number_is : number ≡ start = omega arith in
      let first : rounds_at setting n next start y + 1 ≤ rounds_at setting m place start x =
      subst (λ (k : ℕ). rounds_at setting n next k y + 1 ≤ rounds_at setting m place k x) number_is
      (subst (λ (c : Client). rounds_at setting n next number c + 1 ≤ rounds_at setting m place number x) (sym b_is) (subst (λ (c : Client). rounds_at setting n next number b + 1 ≤ rounds_at setting m place number c) (sym a_is) less)) in
      let rest : rounds_from setting n next (start + 1) ys ≤ rounds_from setting m place (start + 1) xs = rounds_most (start + 1) xs ys (omega arith) (behind_first start x y xs ys each) in
      omega arith
  rounds_less start (x ∷ xs) (y ∷ ys) (suc index) number a b long each same is at less =
      let first : rounds_at setting n next start y ≤ rounds_at setting m place start x = each 0 start x y (omega arith) refl refl in
      let rest : rounds_from setting n next (start + 1) ys + 1 ≤ rounds_from setting m place (start + 1) xs = rounds_less (start + 1) xs ys index number a b (omega arith) (behind_first start x y xs ys each) (omega arith) is at less in
      omega arith
