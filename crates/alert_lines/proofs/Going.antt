-- Lines that make some front of the alerts, and those that make none.
use Rattle.std.proofs.Common.{◌≡◌, ◌⊎◌, ℕ, List, [], ◌∷◌, ◌++◌, map, Bool, true, false, not, ◌&&◌, ◌||◌, refl, inl, inr, ap, ◌∙◌, sym}
use Rattle.std.specs.List.{list_any}
use Rattle.std.specs.Str.{bytes_eq}
use Rattle.svc_values.specs.SameLaws.{bytes_decide}
use Rattle.server_model.specs.meaning.Legal.{Line, lines_stand}
use Rattle.alert_lines.specs.Lines.{fronts, may_go_on, NoneGoesOn, SomeGoOn}
use Rattle.alert_lines.proofs.Tests.{both, both_left, both_right, some, first_so, second_so, either, false_unless}

-- ---- a step

any_map : (test : List (List ℕ) → Bool) (alert : List ℕ) (all : List (List (List ℕ))) → list_any test (map (λ front. alert ∷ front) all) ≡ list_any (λ front. test (alert ∷ front)) all
any_map test alert [] = refl
any_map test alert (front ∷ all) = ap (λ b. test (alert ∷ front) || b) (any_map test alert all)

any_either : (e n : Bool) (p q : List (List ℕ) → Bool) (all : List (List (List ℕ))) → list_any (λ front. (e && p front) || (n && q front)) all ≡ ((e && list_any p all) || (n && list_any q all))
any_either e n p q [] = sym (none e n)
  where
    none : (e n : Bool) → ((e && false) || (n && false)) ≡ false
    none true true = refl
    none true false = refl
    none false true = refl
    none false false = refl
any_either e n p q (front ∷ all) = ap (λ b. ((e && p front) || (n && q front)) || b) (any_either e n p q all) ∙ joined e n (p front) (q front) (list_any p all) (list_any q all)
  where
    joined : (e n a b c d : Bool) → (((e && a) || (n && b)) || ((e && c) || (n && d))) ≡ ((e && (a || c)) || (n && (b || d)))
    joined true true true b c d = refl
    joined true true false true true d = refl
    joined true true false true false d = refl
    joined true true false false c d = refl
    joined true false true b c d = refl
    joined true false false b c d = refl
    joined false true a b c d = refl
    joined false false a b c d = refl

pub may_step : (line : Line) (lines : List Line) (alert : List ℕ) (alerts : List (List ℕ))
    → may_go_on (line ∷ lines) (alert ∷ alerts) ≡ ((bytes_eq line.text alert && may_go_on lines alerts) || (not line.is_answered && may_go_on lines (alert ∷ alerts)))
may_step line lines alert alerts =
    ap (λ b. (not line.is_answered && lines_stand lines []) || b) (any_map (lines_stand (line ∷ lines)) alert (fronts alerts) ∙ any_either (bytes_eq line.text alert) (not line.is_answered) (lines_stand lines) (λ front. lines_stand lines (alert ∷ front)) (fronts alerts))
    ∙ joined (bytes_eq line.text alert) (not line.is_answered) (lines_stand lines []) (may_go_on lines alerts) (list_any (λ front. lines_stand lines (alert ∷ front)) (fronts alerts))
    ∙ ap (λ b. (bytes_eq line.text alert && may_go_on lines alerts) || (not line.is_answered && (lines_stand lines [] || b))) (sym (any_map (lines_stand lines) alert (fronts alerts)))
  where
    joined : (e n a b c : Bool) → ((n && a) || ((e && b) || (n && c))) ≡ ((e && b) || (n && (a || c)))
    joined true true true true c = refl
    joined true true true false c = refl
    joined true true false true c = refl
    joined true true false false c = refl
    joined true false a b c = refl
    joined false true true b c = refl
    joined false true false b c = refl
    joined false false a b c = refl

-- ---- the laws

or-false : (b : Bool) → (b || false) ≡ b
or-false true = refl
or-false false = refl

fronts_first : (alerts : List (List ℕ)) → may_go_on [] alerts ≡ true
fronts_first [] = refl
fronts_first (alert ∷ alerts) = refl

goes_on : (lines more : List Line) (alerts : List (List ℕ)) → lines_stand (lines ++ more) alerts ≡ true → may_go_on lines alerts ≡ true
goes_on [] more alerts is = fronts_first alerts
goes_on (line ∷ lines) more [] is =
    let n = not line.is_answered in
    or-false (n && lines_stand lines []) ∙ both n (lines_stand lines []) (both_left n (lines_stand (lines ++ more) []) is) (sym (or-false (lines_stand lines [])) ∙ goes_on lines more [] (both_right n (lines_stand (lines ++ more) []) is))
goes_on (line ∷ lines) more (alert ∷ alerts) is =
    may_step line lines alert alerts
    ∙ either (bytes_eq line.text alert) (lines_stand (lines ++ more) alerts) (may_go_on lines alerts) (not line.is_answered) (lines_stand (lines ++ more) (alert ∷ alerts)) (may_go_on lines (alert ∷ alerts))
    (goes_on lines more alerts) (goes_on lines more (alert ∷ alerts)) is

pub none_goes_on : NoneGoesOn
none_goes_on lines more alerts is = false_unless (lines_stand (lines ++ more) alerts) (may_go_on lines alerts) (goes_on lines more alerts) is

-- the alerts as lines that were answered
answered : List (List ℕ) → List Line
answered [] = []
answered (alert ∷ alerts) = record { text = alert; is_answered = true } ∷ answered alerts

answered_stand : (alerts : List (List ℕ)) → lines_stand (answered alerts) alerts ≡ true
unfolding answered
answered_stand [] = refl
answered_stand (alert ∷ alerts) = first_so (bytes_eq alert alert && lines_stand (answered alerts) alerts) false (both (bytes_eq alert alert) (lines_stand (answered alerts) alerts) ((bytes_decide alert alert).1 refl) (answered_stand alerts))

abbrev GoesOn : List Line → List (List ℕ) → Type 0
GoesOn lines alerts = (more : List Line) × (lines_stand (lines ++ more) alerts ≡ true)

pub some_go_on : SomeGoOn
some_go_on [] alerts is = (answered alerts, answered_stand alerts)
some_go_on (line ∷ lines) [] is =
    let n = not line.is_answered in
    let parts = sym (or-false (n && lines_stand lines [])) ∙ is in
    let behind = some_go_on lines [] (or-false (lines_stand lines []) ∙ both_right n (lines_stand lines []) parts) in
    (behind.0, both n (lines_stand (lines ++ behind.0) []) (both_left n (lines_stand lines []) parts) behind.1)
some_go_on (line ∷ lines) (alert ∷ alerts) is = by (some (e && may_go_on lines alerts) (n && may_go_on lines (alert ∷ alerts)) (sym (may_step line lines alert alerts) ∙ is)) (some_go_on lines alerts) (some_go_on lines (alert ∷ alerts))
  where
    e : Bool
    e = bytes_eq line.text alert

    n : Bool
    n = not line.is_answered

    by : ((e && may_go_on lines alerts) ≡ true) ⊎ ((n && may_go_on lines (alert ∷ alerts)) ≡ true) → (may_go_on lines alerts ≡ true → GoesOn lines alerts) → (may_go_on lines (alert ∷ alerts) ≡ true → GoesOn lines (alert ∷ alerts)) → GoesOn (line ∷ lines) (alert ∷ alerts)
    by (inl one) first second =
        let behind = first (both_right e (may_go_on lines alerts) one) in
        (behind.0, first_so (e && lines_stand (lines ++ behind.0) alerts) (n && lines_stand (lines ++ behind.0) (alert ∷ alerts)) (both e (lines_stand (lines ++ behind.0) alerts) (both_left e (may_go_on lines alerts) one) behind.1))
    by (inr one) first second =
        let behind = second (both_right n (may_go_on lines (alert ∷ alerts)) one) in
        (behind.0, second_so (e && lines_stand (lines ++ behind.0) alerts) (n && lines_stand (lines ++ behind.0) (alert ∷ alerts)) (both n (lines_stand (lines ++ behind.0) (alert ∷ alerts)) (both_left n (may_go_on lines (alert ∷ alerts)) one) behind.1))
