-- The flags of fronts, one line after the other.
use Rattle.std.proofs.Common.{◌≡◌, ℕ, List, [], ◌∷◌, ◌++◌, map, Bool, true, false, not, ◌&&◌, ◌||◌, ◌-◌, length, get_or, drop, arith, ◌≤◌, append-nil, refl, ap, ◌∙◌, sym}
use Rattle.std.proofs.lemmas.Grind.{common_steps}
use Rattle.std.specs.List.{list_any}
use Rattle.std.specs.Str.{bytes_eq}
use Rattle.server_model.specs.meaning.Legal.{Line, lines_stand}
use Rattle.alert_lines.specs.Lines.{fronts, standing_of, may_go_on}
use Rattle.alert_lines.specs.InnerFlags.{flags_after, last_flag}
use Rattle.alert_lines.proofs.Pushed.{stand-line, stand-push}

-- ---- a test of each front

abbrev flags_by : (List (List ℕ) → Bool) → List (List ℕ) → List Bool
flags_by test [] = test [] ∷ []
flags_by test (alert ∷ alerts) = test [] ∷ flags_by (λ front. test (alert ∷ front)) alerts

map_map : (test : List (List ℕ) → Bool) (alert : List ℕ) (all : List (List (List ℕ))) → map test (map (λ front. alert ∷ front) all) ≡ map (λ front. test (alert ∷ front)) all
map_map test alert [] = refl
map_map test alert (front ∷ all) = ap (λ flags. test (alert ∷ front) ∷ flags) (map_map test alert all)

by_front : (test : List (List ℕ) → Bool) (alerts : List (List ℕ)) → map test (fronts alerts) ≡ flags_by test alerts
by_front test [] = refl
by_front test (alert ∷ alerts) = ap (λ flags. test [] ∷ flags) (map_map test alert (fronts alerts) ∙ by_front (λ front. test (alert ∷ front)) alerts)

-- ---- before the first line

none_behind : (alerts : List (List ℕ)) → flags_by (λ front. false) alerts ≡ false ∷ map (λ alert. false) alerts
none_behind [] = refl
none_behind (alert ∷ alerts) = ap (λ flags. false ∷ flags) (none_behind alerts)

pub at_first : (alerts : List (List ℕ)) → true ∷ map (λ alert. false) alerts ≡ standing_of [] alerts
at_first [] = refl
at_first (alert ∷ alerts) = ap (λ flags. true ∷ flags) (sym (none_behind alerts)) ∙ sym (by_front (lines_stand []) (alert ∷ alerts))

none_left : (alerts : List (List ℕ)) (i : ℕ) → length alerts ≤ i → drop i alerts ≡ []
none_left alerts i past = grind (arith, common_steps)

-- the flags that were put by the end
pub put_at_first : (flags : List Bool) (alerts : List (List ℕ)) (i : ℕ) → length alerts ≤ i → flags ++ map (λ alert. false) (drop i alerts) ≡ true ∷ map (λ alert. false) alerts → flags ≡ standing_of [] alerts
put_at_first flags alerts i past is =
    sym (append-nil flags)
    ∙ ap (λ (rest : List (List ℕ)). flags ++ map (λ alert. false) rest) (sym (none_left alerts i past))
    ∙ is
    ∙ at_first alerts

-- ---- one line more

follow_by : (line : Line) (came : Bool) (before behind : List (List ℕ) → Bool) (alerts : List (List ℕ))
    → (came || (before [] && not line.is_answered)) ≡ behind []
    → ((front : List (List ℕ)) (alert : List ℕ) → behind (front ++ alert ∷ []) ≡ ((before front && bytes_eq line.text alert) || (before (front ++ alert ∷ []) && not line.is_answered)))
    → flags_after line came (flags_by before alerts) alerts ≡ flags_by behind alerts
follow_by line came before behind [] here next = ap (λ flag. flag ∷ []) here
follow_by line came before behind (alert ∷ alerts) here next =
    ap (λ flag. flag ∷ flags_after line (before [] && bytes_eq line.text alert) (flags_by (λ front. before (alert ∷ front)) alerts) alerts) here
    ∙ ap (λ flags. behind [] ∷ flags) (follow_by line (before [] && bytes_eq line.text alert) (λ front. before (alert ∷ front)) (λ front. behind (alert ∷ front)) alerts (sym (next [] alert)) (λ front. next (alert ∷ front)))

pub follow : (lines : List Line) (line : Line) (alerts : List (List ℕ)) → flags_after line false (standing_of lines alerts) alerts ≡ standing_of (lines ++ line ∷ []) alerts
follow lines line alerts =
    ap (λ flags. flags_after line false flags alerts) (by_front (lines_stand lines) alerts)
    ∙ follow_by line false (lines_stand lines) (lines_stand (lines ++ line ∷ [])) alerts (sym (stand-line lines line)) (stand-push lines line)
    ∙ sym (by_front (lines_stand (lines ++ line ∷ [])) alerts)

-- ---- what the flags tell

last_behind : (flag next : Bool) (flags : List Bool) → get_or (flag ∷ next ∷ flags) (length (flag ∷ next ∷ flags) - 1) false ≡ get_or (next ∷ flags) (length (next ∷ flags) - 1) false
last_behind flag next flags = grind (arith, common_steps)

pub last_at : (flags : List Bool) → last_flag flags ≡ get_or flags (length flags - 1) false
last_at [] = refl
last_at (flag ∷ []) = refl
last_at (flag ∷ next ∷ flags) = last_at (next ∷ flags) ∙ sym (last_behind flag next flags)

last_by : (test : List (List ℕ) → Bool) (alerts : List (List ℕ)) → last_flag (flags_by test alerts) ≡ test alerts
last_by test [] = refl
last_by test (alert ∷ []) = refl
last_by test (alert ∷ next ∷ alerts) = last_by (λ front. test (alert ∷ front)) (next ∷ alerts)

pub last_is : (lines : List Line) (alerts : List (List ℕ)) → last_flag (standing_of lines alerts) ≡ lines_stand lines alerts
last_is lines alerts = ap last_flag (by_front (lines_stand lines) alerts) ∙ last_by (lines_stand lines) alerts

any_of : {A : Type 0} (test : A → Bool) (all : List A) → list_any (λ flag. flag) (map test all) ≡ list_any test all
any_of test [] = refl
any_of test (one ∷ all) = ap (λ b. test one || b) (any_of test all)

pub any_is : (lines : List Line) (alerts : List (List ℕ)) → list_any (λ flag. flag) (standing_of lines alerts) ≡ may_go_on lines alerts
any_is lines alerts = any_of (lines_stand lines) (fronts alerts)
