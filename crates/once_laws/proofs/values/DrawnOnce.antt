-- How often a value stands among draws. None stands twice exactly where each that stands once alone
-- does so at most once.
use Rattle.std.proofs.Common.{◌≡◌, refl, sym, ap, ◌∙◌, subst, arith, ℕ, zero, suc, ◌+◌, ◌≤◌, ◌&&◌, ◌||◌, Bool, true, false, not, cond, List, [], ◌∷◌, ◌++◌}
use Rattle.std.specs.List.{list_any}
use Rattle.std.proofs.lemmas.Bool.{and_parts, and_from, or_parts, not-true}
use Rattle.svc_values.specs.declared.draw.Draw.{Draw}
use Rattle.svc_values.specs.meaning.Same.{same_draw}
use Rattle.svc_values.specs.SameLaws.{same_draw_decides}
use Rattle.server_model.specs.meaning.Fresh.{is_single, stands_again, none_twice}
use Rattle.server_model.specs.meaning.NewValues.{new_among}

abbrev one_if : Bool → ℕ
one_if test = cond test 1 0

-- how often the value stands among these
abbrev pub times : Draw → List Draw → ℕ
times one [] = 0
times one (other ∷ draws) = one_if (same_draw one other) + times one draws

pub times_both : (one : Draw) (draws more : List Draw) → times one (draws ++ more) ≡ times one draws + times one more
times_both one [] more = omega arith
times_both one (other ∷ draws) more = let rest = times_both one draws more in omega (arith, rest)

-- where none of these is it, it stands there no time
no_time : (one : Draw) (draws : List Draw) → list_any (same_draw one) draws ≡ false → times one draws ≡ 0
no_time one [] none = refl
no_time one (other ∷ draws) none =
    let parts = or_parts (same_draw one other) (list_any (same_draw one) draws) none in
    let first : one_if (same_draw one other) ≡ 0 = ap one_if parts.0 in
    let rest = no_time one draws parts.1 in
    omega (arith, first, rest)

none_there : (one : Draw) (draws : List Draw) → times one draws ≡ 0 → list_any (same_draw one) draws ≡ false
none_there one [] none = refl
none_there one (other ∷ draws) none = by (same_draw one other) none (none_there one draws)
  where
    by : (test : Bool) → one_if test + times one draws ≡ 0 → (times one draws ≡ 0 → list_any (same_draw one) draws ≡ false) → (test || list_any (same_draw one) draws) ≡ false
    by true none rest = absurd (let never : ⊥ = omega (arith, none) in never)
    by false none rest = rest (omega (arith, none))

-- none stands more often than once, of those that may not stand twice
abbrev pub AreOnce : List Draw → Type 0
AreOnce draws = (one : Draw) → is_single one ≡ true → times one draws ≤ 1

pub once_each : (draws : List Draw) → none_twice draws ≡ true → AreOnce draws
once_each [] none one single = omega arith
once_each (other ∷ draws) none one single = by (same_draw one other) refl (once_each draws parts.1 one single)
  where
    parts : (not (stands_again other draws) ≡ true) × (none_twice draws ≡ true)
    parts = and_parts (not (stands_again other draws)) (none_twice draws) none

    again : stands_again other draws ≡ false
    again = not-true (stands_again other draws) parts.0

    none_again : one ≡ other → list_any (same_draw one) draws ≡ false
    none_again same = ap (λ (b : Bool). b && list_any (same_draw one) draws) (sym single) ∙ subst (λ (d : Draw). stands_again d draws ≡ false) (sym same) again

    by : (test : Bool) → same_draw one other ≡ test → times one draws ≤ 1 → one_if (same_draw one other) + times one draws ≤ 1
    by true is fewer =
        let first : one_if (same_draw one other) ≡ 1 = ap one_if is in
        let rest = no_time one draws (none_again ((same_draw_decides one other).0 is)) in
        omega (arith, first, rest)
    by false is fewer = let first : one_if (same_draw one other) ≡ 0 = ap one_if is in omega (arith, first, fewer)

pub each_once : (draws : List Draw) → AreOnce draws → none_twice draws ≡ true
each_once [] once = refl
each_once (other ∷ draws) once =
    and_from (not (stands_again other draws)) (none_twice draws) (ap not (by (is_single other) refl))
    (each_once draws (λ one single. let all = once one single in omega (arith, all)))
  where
    by : (test : Bool) → is_single other ≡ test → stands_again other draws ≡ false
    by false is = ap (λ (b : Bool). b && list_any (same_draw other) draws) is
    by true is =
        let first : one_if (same_draw other other) ≡ 1 = ap one_if ((same_draw_decides other other).1 refl) in
        let all = once other is in
        ap (λ (b : Bool). b && list_any (same_draw other) draws) is ∙ none_there other draws (omega (arith, first, all))

-- it stands there exactly where it does so at least once
pub some_time : (one : Draw) (draws : List Draw) → list_any (same_draw one) draws ≡ true → 1 ≤ times one draws
some_time one draws any = by (times one draws) refl
  where
    by : (count : ℕ) → times one draws ≡ count → 1 ≤ times one draws
    by zero none = absurd (let never : false ≡ true = sym (none_there one draws none) ∙ any in let no : ⊥ = cc in no)
    by (suc count) some = omega (arith, some)

pub time_some : (one : Draw) (draws : List Draw) → 1 ≤ times one draws → list_any (same_draw one) draws ≡ true
time_some one draws some = by (list_any (same_draw one) draws) refl
  where
    by : (any : Bool) → list_any (same_draw one) draws ≡ any → any ≡ true
    by true is = refl
    by false is = let none : times one draws ≡ 0 = no_time one draws is in absurd (let never : ⊥ = omega (arith, none, some) in never)

-- where nothing was kept, each value is new
pub all_new : (draws : List Draw) → new_among [] draws ≡ draws
all_new [] = refl
all_new (given ∷ more) = ap (λ (all : List Draw). given ∷ all) (all_new more)
