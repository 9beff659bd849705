-- One line more behind lines, and one alert more behind alerts.
use Rattle.std.proofs.Common.{◌≡◌, ℕ, List, [], ◌∷◌, ◌++◌, Bool, true, false, not, ◌&&◌, ◌||◌, refl, ap, ◌∙◌, sym}
use Rattle.std.specs.Str.{bytes_eq}
use Rattle.server_model.specs.meaning.Legal.{Line, lines_stand}

-- ---- parts that are regrouped

and_or : (a b c : Bool) → (a && (b || c)) ≡ ((a && b) || (a && c))
and_or true b c = refl
and_or false b c = refl

or_and : (a b c : Bool) → ((a || b) && c) ≡ ((a && c) || (b && c))
or_and true true true = refl
or_and true false true = refl
or_and true true false = refl
or_and true false false = refl
or_and false b c = refl

inward : (a b c : Bool) → (a && (b && c)) ≡ ((a && b) && c)
inward true b c = refl
inward false b c = refl

crossed : (a b c d : Bool) → ((a || b) || (c || d)) ≡ ((a || c) || (b || d))
crossed true b c d = refl
crossed false true true d = refl
crossed false true false d = refl
crossed false false c d = refl

-- One of two parts under the test e, or one of two under m: by what is behind the parts.
regrouped : (e m f n p q r s : Bool) → ((e && ((p && f) || (q && n))) || (m && ((r && f) || (s && n)))) ≡ ((((e && p) || (m && r)) && f) || (((e && q) || (m && s)) && n))
regrouped e m f n p q r s =
    ap (λ b. b || (m && ((r && f) || (s && n)))) (split e p q)
    ∙ ap (λ b. (((e && p) && f) || ((e && q) && n)) || b) (split m r s)
    ∙ crossed ((e && p) && f) ((e && q) && n) ((m && r) && f) ((m && s) && n)
    ∙ ap (λ b. b || (((e && q) && n) || ((m && s) && n))) (sym (or_and (e && p) (m && r) f))
    ∙ ap (λ b. (((e && p) || (m && r)) && f) || b) (sym (or_and (e && q) (m && s) n))
  where
    split : (a b c : Bool) → (a && ((b && f) || (c && n))) ≡ (((a && b) && f) || ((a && c) && n))
    split a b c = and_or a (b && f) (c && n) ∙ ap (λ x. x || (a && (c && n))) (inward a b f) ∙ ap (λ x. ((a && b) && f) || x) (inward a c n)

and-false : (a : Bool) → (a && false) ≡ false
and-false true = refl
and-false false = refl

-- the same where only one alert is there
regrouped_at_first : (e m f n q s : Bool) → ((e && (q && n)) || (m && ((q && f) || (s && n)))) ≡ (((m && q) && f) || (((e && q) || (m && s)) && n))
regrouped_at_first e m f n q s =
    regrouped e m f n false q q s
    ∙ ap (λ b. ((b || (m && q)) && f) || (((e && q) || (m && s)) && n)) (and-false e)

lone : (e n : Bool) → ((e && true) || (n && false)) ≡ ((true && e) || (false && n))
lone true n = refl
lone false true = refl
lone false false = refl

neither : (e n : Bool) → ((e && false) || (n && false)) ≡ false
neither true true = refl
neither true false = refl
neither false true = refl
neither false false = refl

-- ---- one line more

-- with no alerts it need not stand
pub stand-line : (lines : List Line) (line : Line) → lines_stand (lines ++ line ∷ []) [] ≡ (lines_stand lines [] && not line.is_answered)
stand-line [] line = alone (not line.is_answered)
  where
    alone : (n : Bool) → (n && true) ≡ n
    alone true = refl
    alone false = refl
stand-line (first ∷ lines) line = ap (λ b. not first.is_answered && b) (stand-line lines line) ∙ inward (not first.is_answered) (lines_stand lines []) (not line.is_answered)

none_make : (alerts : List (List ℕ)) (alert : List ℕ) → lines_stand [] (alerts ++ alert ∷ []) ≡ false
none_make [] alert = refl
none_make (first ∷ alerts) alert = refl

-- it is the last alert, or need not stand
pub stand-push : (lines : List Line) (line : Line) (alerts : List (List ℕ)) (alert : List ℕ)
    → lines_stand (lines ++ line ∷ []) (alerts ++ alert ∷ []) ≡ ((lines_stand lines alerts && bytes_eq line.text alert) || (lines_stand lines (alerts ++ alert ∷ []) && not line.is_answered))
stand-push [] line [] alert = lone (bytes_eq line.text alert) (not line.is_answered)
stand-push [] line (first ∷ alerts) alert =
    ap (λ b. (bytes_eq line.text first && b) || (not line.is_answered && false)) (none_make alerts alert)
    ∙ neither (bytes_eq line.text first) (not line.is_answered)
stand-push (m ∷ lines) line [] alert =
    ap (λ b. (bytes_eq m.text alert && b) || (not m.is_answered && lines_stand (lines ++ line ∷ []) (alert ∷ []))) (stand-line lines line)
    ∙ ap (λ b. (bytes_eq m.text alert && (lines_stand lines [] && not line.is_answered)) || (not m.is_answered && b)) (stand-push lines line [] alert)
    ∙ regrouped_at_first (bytes_eq m.text alert) (not m.is_answered) (bytes_eq line.text alert) (not line.is_answered) (lines_stand lines []) (lines_stand lines (alert ∷ []))
stand-push (m ∷ lines) line (first ∷ alerts) alert =
    let e = bytes_eq m.text first in
    let p = lines_stand lines alerts in
    let q = lines_stand lines (alerts ++ alert ∷ []) in
    let r = lines_stand lines (first ∷ alerts) in
    let s = lines_stand lines (first ∷ (alerts ++ alert ∷ [])) in
    let f = bytes_eq line.text alert in
    let n = not line.is_answered in
    ap (λ b. (e && b) || (not m.is_answered && lines_stand (lines ++ line ∷ []) (first ∷ (alerts ++ alert ∷ [])))) (stand-push lines line alerts alert)
    ∙ ap (λ b. (e && ((p && f) || (q && n))) || (not m.is_answered && b)) (stand-push lines line (first ∷ alerts) alert)
    ∙ regrouped e (not m.is_answered) f n p q r s
