-- Draws that are as they have to be, of the kinds of the kept ones: the granted ones among both are
-- the same, in order.
use Rattle.std.specs.Prelude.{◌≡◌, ℕ, Bool, true, false, List, [], ◌∷◌, map, filter, cond, is_some, Option, Some, None, if◌then◌else◌}
use Rattle.std.proofs.Common.{refl, sym, ◌∙◌, ap}
use Rattle.svc_values.specs.declared.draw.Draw.{Draw}
use Rattle.svc_values.specs.declared.draw.Draw.TheVariants as draw
use Rattle.svc_values.specs.meaning.Same.{same_draw}
use Rattle.svc_values.specs.SameLaws.{bytes_decide, same_draw_decides}
use Rattle.stmt_meaning.specs.Asked.{kind_drawn}
use Rattle.server_model.specs.meaning.Base.{Base}
use Rattle.server_model.specs.meaning.NewValues.{Numbers, Kept, New, and_before, origin_of, of_one_kind, grants, left_by, if_next, and_draws, one_drawn, drawn_by}

-- ---- kinds

-- draws of one kind are asked for as the same
one_kind : (a b : Draw) → of_one_kind a b ≡ true → kind_drawn a ≡ kind_drawn b
one_kind (draw.Seq a m) (draw.Seq b n) is = ap (λ (name : List ℕ). kind_drawn (draw.Seq name m)) ((bytes_decide a b).0 is)
one_kind (draw.Seq a m) (draw.Clock tick) is = absurd (let none : ⊥ = cc in none)
one_kind (draw.Seq a m) (draw.Id id) is = absurd (let none : ⊥ = cc in none)
one_kind (draw.Clock s) (draw.Seq b n) is = absurd (let none : ⊥ = cc in none)
one_kind (draw.Clock s) (draw.Clock tick) is = refl
one_kind (draw.Clock s) (draw.Id id) is = absurd (let none : ⊥ = cc in none)
one_kind (draw.Id x) (draw.Seq b n) is = absurd (let none : ⊥ = cc in none)
one_kind (draw.Id x) (draw.Clock tick) is = absurd (let none : ⊥ = cc in none)
one_kind (draw.Id x) (draw.Id id) is = refl

kind_one : (a b : Draw) → kind_drawn a ≡ kind_drawn b → of_one_kind a b ≡ true
kind_one (draw.Seq a m) (draw.Seq b n) is = (bytes_decide a b).1 (let same : a ≡ b = cc in same)
kind_one (draw.Seq a m) (draw.Clock tick) is = absurd (let none : ⊥ = cc in none)
kind_one (draw.Seq a m) (draw.Id id) is = absurd (let none : ⊥ = cc in none)
kind_one (draw.Clock s) (draw.Seq b n) is = absurd (let none : ⊥ = cc in none)
kind_one (draw.Clock s) (draw.Clock tick) is = refl
kind_one (draw.Clock s) (draw.Id id) is = absurd (let none : ⊥ = cc in none)
kind_one (draw.Id x) (draw.Seq b n) is = absurd (let none : ⊥ = cc in none)
kind_one (draw.Id x) (draw.Clock tick) is = absurd (let none : ⊥ = cc in none)
kind_one (draw.Id x) (draw.Id id) is = refl

-- whether a value is granted is told by its kind
granted_kind : (base : Base) (a b : Draw) → kind_drawn a ≡ kind_drawn b → grants base a ≡ grants base b
granted_kind base (draw.Seq a m) (draw.Seq b n) is = ap (λ (name : List ℕ). grants base (draw.Seq name m)) (let same : a ≡ b = cc in same)
granted_kind base (draw.Seq a m) (draw.Clock tick) is = absurd (let none : ⊥ = cc in none)
granted_kind base (draw.Seq a m) (draw.Id id) is = absurd (let none : ⊥ = cc in none)
granted_kind base (draw.Clock s) (draw.Seq b n) is = absurd (let none : ⊥ = cc in none)
granted_kind base (draw.Clock s) (draw.Clock tick) is = refl
granted_kind base (draw.Clock s) (draw.Id id) is = absurd (let none : ⊥ = cc in none)
granted_kind base (draw.Id x) (draw.Seq b n) is = absurd (let none : ⊥ = cc in none)
granted_kind base (draw.Id x) (draw.Clock tick) is = absurd (let none : ⊥ = cc in none)
granted_kind base (draw.Id x) (draw.Id id) is = refl

-- no kept value is of the kind of one that is not granted
none_kept : (base : Base) (given : Draw) (draws : List Draw) → grants base given ≡ false → origin_of given (filter (grants base) draws) ≡ New
none_kept base given [] not = refl
none_kept base given (one ∷ draws) not = by (none_kept base given draws not) (grants base one) refl
  where
    by_kind : origin_of given (filter (grants base) draws) ≡ New → grants base one ≡ true → (b : Bool) → of_one_kind one given ≡ b → (if b then Kept one (filter (grants base) draws) else and_before one (origin_of given (filter (grants base) draws))) ≡ New
    by_kind rest granted true alike = absurd (let clash : true ≡ false = sym granted ∙ granted_kind base one given (one_kind one given alike) ∙ not in let none : ⊥ = cc in none)
    by_kind rest granted false apart = ap (and_before one) rest

    by : origin_of given (filter (grants base) draws) ≡ New → (b : Bool) → grants base one ≡ b → origin_of given (cond b (one ∷ filter (grants base) draws) (filter (grants base) draws)) ≡ New
    by rest true granted = by_kind rest granted (of_one_kind one given) refl
    by rest false foreign = rest

-- ---- draws

module _ (base : Base) (now : ℕ) where
  -- a granted draw is the first kept one of its kind
  is_first : (one given : Draw) (left more : List Draw) (numbers : Numbers) → kind_drawn one ≡ kind_drawn given → is_some (drawn_by now (one ∷ left) (given ∷ more) numbers) ≡ true
      → (given ≡ one) × (is_some (drawn_by now left more numbers) ≡ true)
  is_first one given left more numbers alike drawn = by_same (same_draw given one) refl (sym (ap (λ origin. is_some (and_draws (one_drawn now given origin numbers) (λ after. drawn_by now (left_by origin (one ∷ left)) more after))) first) ∙ drawn)
    where
      first : origin_of given (one ∷ left) ≡ Kept one left
      first = ap (λ b. if b then Kept one left else and_before one (origin_of given left)) (kind_one one given alike)

      by_same : (b : Bool) → same_draw given one ≡ b → is_some (and_draws (if b then Some numbers else None) (λ after. drawn_by now left more after)) ≡ true → (given ≡ one) × (is_some (drawn_by now left more numbers) ≡ true)
      by_same true same drawn = ((same_draw_decides given one).0 same, drawn)
      by_same false other drawn = absurd (let none : ⊥ = cc in none)

  -- one of a kind of which none is kept leaves the kept ones
  is_new : (given : Draw) (kept more : List Draw) (numbers : Numbers) → origin_of given kept ≡ New → is_some (drawn_by now kept (given ∷ more) numbers) ≡ true → (after : Numbers) × (is_some (drawn_by now kept more after) ≡ true)
  is_new given kept more numbers new drawn = by_next (if_next numbers now given) (sym (ap (λ origin. is_some (and_draws (one_drawn now given origin numbers) (λ after. drawn_by now (left_by origin kept) more after))) new) ∙ drawn)
    where
      by_next : (next : Option Numbers) → is_some (and_draws next (λ after. drawn_by now kept more after)) ≡ true → (after : Numbers) × (is_some (drawn_by now kept more after) ≡ true)
      by_next None drawn = absurd (let none : ⊥ = cc in none)
      by_next (Some after) drawn = (after, drawn)

  pub granted_again : (draws again : List Draw) (numbers : Numbers) → map kind_drawn draws ≡ map kind_drawn again → is_some (drawn_by now (filter (grants base) draws) again numbers) ≡ true → filter (grants base) again ≡ filter (grants base) draws
  granted_again [] [] numbers alike drawn = refl
  granted_again [] (given ∷ again) numbers alike drawn = absurd (let none : ⊥ = cc in none)
  granted_again (one ∷ draws) [] numbers alike drawn = absurd (let none : ⊥ = cc in none)
  granted_again (one ∷ draws) (given ∷ again) numbers alike drawn = by (λ n so. granted_again draws again n more so) (grants base one) refl drawn
    where
      here : kind_drawn one ≡ kind_drawn given
      here = cc

      more : map kind_drawn draws ≡ map kind_drawn again
      more = cc

      granted_alike : grants base given ≡ grants base one
      granted_alike = sym (granted_kind base one given here)

      by : ((n : Numbers) → is_some (drawn_by now (filter (grants base) draws) again n) ≡ true → filter (grants base) again ≡ filter (grants base) draws) → (b : Bool) → grants base one ≡ b
          → is_some (drawn_by now (cond b (one ∷ filter (grants base) draws) (filter (grants base) draws)) (given ∷ again) numbers) ≡ true
          → filter (grants base) (given ∷ again) ≡ cond b (one ∷ filter (grants base) draws) (filter (grants base) draws)
      by rest true granted drawn =
          let so = is_first one given (filter (grants base) draws) again numbers here drawn in
          ap (λ b. cond b (given ∷ filter (grants base) again) (filter (grants base) again)) (granted_alike ∙ granted)
          ∙ ap (λ first. first ∷ filter (grants base) again) so.0 ∙ ap (λ others. one ∷ others) (rest numbers so.1)
      by rest false foreign drawn =
          let so = is_new given (filter (grants base) draws) again numbers (none_kept base given draws (granted_alike ∙ foreign)) drawn in
          ap (λ b. cond b (given ∷ filter (grants base) again) (filter (grants base) again)) (granted_alike ∙ foreign) ∙ rest so.0 so.1
