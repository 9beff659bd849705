-- A search through the ways in which values may be drawn.
use Rattle.std.proofs.Common.{◌≡◌, ℕ, zero, suc, ◌+◌, ◌-◌, ◌≤◌, Bool, true, false, ◌||◌, List, [], ◌∷◌, ◌++◌, length, drop, take, get_or, refl, sym, ap, ap₂, ◌∙◌, arith, add-one, append_assoc}
use Rattle.std.proofs.Math.Path.{fun_ext}
use Rattle.std.specs.Prelude.{Option, Some, None, slice_get}
use Rattle.std.specs.List.{list_any}
use Rattle.svc_values.specs.declared.draw.Draw.{Draw}
use Rattle.svc_values.specs.declared.draw.DrawKind.{DrawKind}
use Rattle.server_model.specs.meaning.NewValues.{Numbers, may_give, meets_with}
use Rattle.legal_draws.specs.Trials.{FailsBehind}

any_here : {A : Type 0} (test : A → Bool) (xs : List A) (i : ℕ) (x : A) → slice_get xs i ≡ Some x → list_any test (drop i xs) ≡ (test x || list_any test (drop (suc i) xs))
any_here {A} test [] i x here = absurd (let no : ◌≡◌ {A = Option A} None (Some x) = here in cc)
any_here {A} test (y ∷ xs) zero x here = let same : y ≡ x = (let is : ◌≡◌ {A = Option A} (Some y) (Some x) = here in cc) in ap (λ z. test z || list_any test xs) same
any_here test (y ∷ xs) (suc i) x here = any_here test xs i x here

-- some item from a place on meets a test: the one there, or one behind it
any_from : {A : Type 0} (test : A → Bool) (xs : List A) (i : ℕ) (x : A) → slice_get xs i ≡ Some x → list_any test (drop i xs) ≡ (test x || list_any test (drop (i + 1) xs))
any_from test xs i x here = any_here test xs i x here ∙ ap (λ n. test x || list_any test (drop n xs)) (sym (add-one i))

any_end : {A : Type 0} (test : A → Bool) (xs : List A) (i : ℕ) → length xs ≤ i → list_any test (drop i xs) ≡ false
any_end test [] zero past = refl
any_end test [] (suc i) past = refl
any_end test (x ∷ xs) zero past = absurd (omega (arith, past))
any_end test (x ∷ xs) (suc i) past = any_end test xs i (omega (arith, past))

none_of : {A : Type 0} (test : A → Bool) (xs : List A) → ((x : A) → test x ≡ false) → list_any test xs ≡ false
none_of test [] fails = refl
none_of test (x ∷ xs) fails = ap (λ b. b || list_any test xs) (fails x) ∙ none_of test xs fails

-- a test that nothing meets is met by no values
never_met : (test : List Draw → Bool) (now : ℕ) (asked : List DrawKind) (numbers : Numbers) → FailsBehind test [] → meets_with test now asked numbers ≡ false
never_met test now [] numbers fails = fails []
never_met test now (kind ∷ asked) numbers fails =
    none_of (λ given. meets_with (λ draws. test (given.0 ∷ draws)) now asked given.1) (may_give numbers now kind)
    (λ given. never_met (λ draws. test (given.0 ∷ draws)) now asked given.1 (λ more. fails (given.0 ∷ more)))

-- whether some values for what is asked meet the test behind these draws
abbrev pub meets_behind : (List Draw → Bool) → ℕ → List Draw → List DrawKind → Numbers → Bool
meets_behind test now draws asked numbers = meets_with (λ more. test (draws ++ more)) now asked numbers

-- none do where none that begin with these draws meet it
pub fails_all : (test : List Draw → Bool) (now : ℕ) (draws : List Draw) (asked : List DrawKind) (numbers : Numbers) → FailsBehind test draws → false ≡ meets_behind test now draws asked numbers
fails_all test now draws asked numbers fails = sym (never_met (λ more. test (draws ++ more)) now asked numbers fails)

-- the same, for what is given first
abbrev pub meets_given : (List Draw → Bool) → ℕ → List Draw → List DrawKind → Draw × Numbers → Bool
meets_given test now draws asked given = meets_with (λ more. test (draws ++ given.0 ∷ more)) now asked given.1

-- one draw more
one_behind : (test : List Draw → Bool) (now : ℕ) (draws : List Draw) (asked : List DrawKind) (given : Draw) (numbers : Numbers)
    → meets_behind test now (draws ++ given ∷ []) asked numbers ≡ meets_given test now draws asked (given, numbers)
one_behind test now draws asked given numbers = ap (λ (t : List Draw → Bool). meets_with t now asked numbers) (fun_ext (λ more. ap test (append_assoc draws (given ∷ []) more)))

-- what is asked first, and the rest
pub asked_first : {A : Type 0} (asked : List A) (first : A) → 1 ≤ length asked → first ≡ get_or asked 0 first → asked ≡ first ∷ take (length asked - 1) (drop 1 asked)
asked_first [] first some is = absurd (omega (arith, some))
asked_first {A} (x ∷ xs) first some is =
    let all : length (x ∷ xs) - 1 ≡ length xs = omega arith in
    ap₂ (λ (y : A) l. y ∷ l) (sym is) (sym (ap (λ n. take n xs) all ∙ take_whole xs))
  where
    take_whole : (l : List A) → take (length l) l ≡ l
    take_whole [] = refl
    take_whole (y ∷ l) = ap (λ m. y ∷ m) (take_whole l)

-- the test is met where it is met behind some of the values that may be given first
meets_first : (test : List Draw → Bool) (now : ℕ) (draws : List Draw) (asked : List DrawKind) (kind : DrawKind) (more : List DrawKind) (numbers : Numbers) → asked ≡ kind ∷ more
    → meets_behind test now draws asked numbers ≡ list_any (meets_given test now draws more) (may_give numbers now kind)
meets_first test now draws asked kind more numbers is = ap (λ l. meets_behind test now draws l numbers) is

-- one way of them
way_meets : (test : List Draw → Bool) (now : ℕ) (draws : List Draw) (more : List DrawKind) (ways : List (Draw × Numbers)) (way : ℕ) (given : Draw) (after : Numbers) (pushed : List Draw) (met : Bool)
    → slice_get ways way ≡ Some (given, after) → pushed ≡ draws ++ given ∷ [] → met ≡ meets_behind test now pushed more after
    → list_any (meets_given test now draws more) (drop way ways) ≡ (met || list_any (meets_given test now draws more) (drop (way + 1) ways))
way_meets test now draws more ways way given after pushed met here is meets =
    any_from (meets_given test now draws more) ways way (given, after) here
    ∙ ap (λ b. b || list_any (meets_given test now draws more) (drop (way + 1) ways))
    (sym (meets ∙ ap (λ l. meets_behind test now l more after) is ∙ one_behind test now draws more given after))

-- the test is met behind one of the ways
pub met_here : (test : List Draw → Bool) (now : ℕ) (draws : List Draw) (asked : List DrawKind) (kind : DrawKind) (more : List DrawKind) (numbers : Numbers) (way : ℕ) (given : Draw) (after : Numbers) (before pushed : List Draw) (met : Bool)
    → asked ≡ kind ∷ more → list_any (meets_given test now draws more) (drop way (may_give numbers now kind)) ≡ list_any (meets_given test now draws more) (may_give numbers now kind)
    → slice_get (may_give numbers now kind) way ≡ Some (given, after) → before ≡ draws → pushed ≡ before ++ given ∷ [] → met ≡ meets_behind test now pushed more after → met ≡ true
    → true ≡ meets_behind test now draws asked numbers
met_here test now draws asked kind more numbers way given after before pushed met split left here same is meets yes_met =
    let rest = list_any (meets_given test now draws more) (drop (way + 1) (may_give numbers now kind)) in
    let one = way_meets test now draws more (may_give numbers now kind) way given after pushed met here (is ∙ ap (λ (l : List Draw). l ++ given ∷ []) same) meets in
    sym (meets_first test now draws asked kind more numbers split ∙ sym left ∙ one ∙ ap (λ b. b || rest) yes_met)

-- or behind those that are left
pub missed_here : (test : List Draw → Bool) (now : ℕ) (draws : List Draw) (kind : DrawKind) (more : List DrawKind) (numbers : Numbers) (way : ℕ) (given : Draw) (after : Numbers) (before pushed : List Draw) (met : Bool)
    → list_any (meets_given test now draws more) (drop way (may_give numbers now kind)) ≡ list_any (meets_given test now draws more) (may_give numbers now kind)
    → slice_get (may_give numbers now kind) way ≡ Some (given, after) → before ≡ draws → pushed ≡ before ++ given ∷ [] → met ≡ meets_behind test now pushed more after → met ≡ false
    → list_any (meets_given test now draws more) (drop (way + 1) (may_give numbers now kind)) ≡ list_any (meets_given test now draws more) (may_give numbers now kind)
missed_here test now draws kind more numbers way given after before pushed met left here same is meets not_met =
    let rest = list_any (meets_given test now draws more) (drop (way + 1) (may_give numbers now kind)) in
    let one = way_meets test now draws more (may_give numbers now kind) way given after pushed met here (is ∙ ap (λ (l : List Draw). l ++ given ∷ []) same) meets in
    sym (one ∙ ap (λ b. b || rest) not_met) ∙ left

-- and nowhere where none is left
pub missed_all : (test : List Draw → Bool) (now : ℕ) (draws : List Draw) (asked : List DrawKind) (kind : DrawKind) (more : List DrawKind) (numbers : Numbers) (way : ℕ)
    → asked ≡ kind ∷ more → list_any (meets_given test now draws more) (drop way (may_give numbers now kind)) ≡ list_any (meets_given test now draws more) (may_give numbers now kind)
    → length (may_give numbers now kind) ≤ way → false ≡ meets_behind test now draws asked numbers
missed_all test now draws asked kind more numbers way split left past =
    sym (meets_first test now draws asked kind more numbers split ∙ sym left ∙ any_end (meets_given test now draws more) (may_give numbers now kind) way past)
