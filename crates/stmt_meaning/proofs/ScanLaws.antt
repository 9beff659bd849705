-- A scan that was shown rows one after the other.
use Rattle.std.proofs.Common.{◌≡◌, ℕ, pos, ◌+ℤ◌, ◌+◌, ◌<◌, ◌≤◌, Bool, true, false, cond, List, [], ◌∷◌, ◌++◌, length, take, refl, sym, ap, ◌∙◌, append_assoc, append-nil, length-append, nat_lt, arith, ◌⊎◌, inl, inr}
use Rattle.std.proofs.lemmas.Bool.{lt-ltb, le-ltb, cases_lt}
use Rattle.std.proofs.lemmas.List.{take-append-le, length-take-le, take_all}
use Rattle.std.specs.Prelude.{fold, slice_get}
use Rattle.std.proofs.Math.IntN.{+ℤ_assoc, +ℤ_idl, +ℤ_idr}
use Rattle.std.proofs.lemmas.List.Elements.{filter-append}
use Rattle.svc_values.specs.declared.value.Value.{Value}
use Rattle.svc_values.specs.declared.statement.Test.{Test}
use Rattle.svc_values.specs.declared.answer.Answer.TheVariants as answer
use Rattle.svc_values.specs.declared.answer.StatementFault.TheVariants as fault
use Rattle.stmt_meaning.specs.declared.plan.TableWork.{TableWork}
use Rattle.stmt_meaning.specs.declared.plan.TableWork.TheVariants as table_work
use Rattle.stmt_meaning.specs.declared.scan.Scan.{Scan}
use Rattle.stmt_meaning.specs.declared.scan.Scan.TheVariants as scan
use Rattle.svc_values.specs.meaning.Tests.{selected, value_meets}
use Rattle.stmt_meaning.specs.meaning.Effects.{number_at, total, limited, table_answer}
use Rattle.stmt_meaning.specs.InnerScans.{scanned, next_scan, last_answer, answer_of, with_met, is_settled}

pub total-append : (at : ℕ) (rows more : List (List Value)) → total at (rows ++ more) ≡ total at rows +ℤ total at more
total-append at [] more = sym (+ℤ_idl (total at more))
total-append at (row ∷ rows) more = ap (λ n. number_at row at +ℤ n) (total-append at rows more) ∙ sym (+ℤ_assoc (number_at row at) (total at rows) (total at more))

-- one row more among those that meet a test, of which 32 are kept
kept_more : (at : ℕ) (test : Test) (than : Value) (met : List (List Value)) (row : List Value) → (length met < 32) ⊎ (32 ≤ length met)
    → with_met at test than (take 32 met) (nat_lt 32 (length met)) row ≡ scan.Select at test than (take 32 (met ++ row ∷ [])) (nat_lt 32 (length (met ++ row ∷ [])))
kept_more at test than met row (inl lt) =
    let longer : length (met ++ row ∷ []) ≡ length met + 1 = length-append met (row ∷ []) in
    let all : take 32 met ≡ met = take_all 32 met (omega arith) in
    let more : take 32 (met ++ row ∷ []) ≡ met ++ row ∷ [] = take_all 32 (met ++ row ∷ []) (omega arith) in
    let before : nat_lt 32 (length met) ≡ false = le-ltb 32 (length met) (omega arith) in
    let after : nat_lt 32 (length (met ++ row ∷ [])) ≡ false = le-ltb 32 (length (met ++ row ∷ [])) (omega arith) in
    let room : nat_lt (length met) 32 ≡ true = lt-ltb (length met) 32 lt in
    rw (all, more, before, after, room) refl
kept_more at test than met row (inr ge) =
    let longer : length (met ++ row ∷ []) ≡ length met + 1 = length-append met (row ∷ []) in
    let full : length (take 32 met) ≡ 32 = length-take-le 32 met ge in
    let same : take 32 (met ++ row ∷ []) ≡ take 32 met = take-append-le 32 met (row ∷ []) ge in
    let after : nat_lt 32 (length (met ++ row ∷ [])) ≡ true = lt-ltb 32 (length (met ++ row ∷ [])) (omega arith) in
    let room : nat_lt (length (take 32 met)) 32 ≡ false = le-ltb (length (take 32 met)) 32 (omega arith) in
    rw (same, after, room) refl

selected_more : (at : ℕ) (test : Test) (than : Value) (rows : List (List Value)) (row : List Value) (b : Bool) → value_meets test than (slice_get row at) ≡ b
    → next_scan (scanned (table_work.Select at test than) rows) row ≡ scanned (table_work.Select at test than) (rows ++ row ∷ [])
selected_more at test than rows row true e =
    let grown : selected at test than (rows ++ row ∷ []) ≡ selected at test than rows ++ row ∷ [] =
    filter-append (λ r. value_meets test than (slice_get r at)) rows (row ∷ []) ∙ ap (λ b. selected at test than rows ++ cond b (row ∷ []) []) e in
    rw (grown, e) (kept_more at test than (selected at test than rows) row (cases_lt (length (selected at test than rows)) 32))
selected_more at test than rows row false e =
    let same : selected at test than (rows ++ row ∷ []) ≡ selected at test than rows =
    filter-append (λ r. value_meets test than (slice_get r at)) rows (row ∷ []) ∙ ap (λ b. selected at test than rows ++ cond b (row ∷ []) []) e ∙ append-nil (selected at test than rows) in
    rw (same, e) refl

-- what was found in rows and one more
pub scanned-next : (work : TableWork) (rows : List (List Value)) (row : List Value) → next_scan (scanned work rows) row ≡ scanned work (rows ++ row ∷ [])
scanned-next (table_work.Select at test than) rows row = selected_more at test than rows row (value_meets test than (slice_get row at)) refl
scanned-next table_work.Count rows row = ap (λ n. scan.Count (pos n)) (sym (length-append rows (row ∷ [])))
scanned-next (table_work.Sum at) rows row =
    let one : total at (row ∷ []) ≡ number_at row at = +ℤ_idr (number_at row at) in
    ap (λ n. scan.Sum at n) (sym (total-append at rows (row ∷ []) ∙ ap (λ n. total at rows +ℤ n) one))

limited_rows : (rows : List (List Value)) → (32 < length rows) ⊎ (length rows ≤ 32) → answer_of (take 32 rows) (nat_lt 32 (length rows)) ≡ limited rows
limited_rows rows (inl gt) = let e : nat_lt 32 (length rows) ≡ true = lt-ltb 32 (length rows) gt in rw e refl
limited_rows rows (inr le) = let e : nat_lt 32 (length rows) ≡ false = le-ltb 32 (length rows) le in let all : take 32 rows ≡ rows = take_all 32 rows le in rw (e, all) refl

-- the answer of a scan that was shown all rows is that of its work
pub last_answer-scanned : (work : TableWork) (rows : List (List Value)) → last_answer (scanned work rows) ≡ table_answer work rows
last_answer-scanned (table_work.Select at test than) rows = limited_rows (selected at test than rows) (cases_lt 32 (length (selected at test than rows)))
last_answer-scanned table_work.Count rows = refl
last_answer-scanned (table_work.Sum at) rows = refl

pub scanned-append : (work : TableWork) (rows more : List (List Value)) → fold next_scan (scanned work rows) more ≡ scanned work (rows ++ more)
scanned-append work rows [] = ap (scanned work) (sym (append-nil rows))
scanned-append work rows (row ∷ more) =
    ap (λ s. fold next_scan s more) (scanned-next work rows row) ∙ scanned-append work (rows ++ row ∷ []) more ∙ ap (scanned work) (append_assoc rows (row ∷ []) more)

over_next : (at : ℕ) (test : Test) (than : Value) (met : List (List Value)) (row : List Value) (rows : List (List Value)) → ((more : List (List Value)) → last_answer (fold next_scan (scan.Select at test than more true) rows) ≡ answer.Refused fault.TooManyRows)
    → (b : Bool) → value_meets test than (slice_get row at) ≡ b → (c : Bool) → nat_lt (length met) 32 ≡ c → last_answer (fold next_scan (next_scan (scan.Select at test than met true) row) rows) ≡ answer.Refused fault.TooManyRows
over_next at test than met row rows stays false e c f = rw e (stays met)
over_next at test than met row rows stays true e true f = rw (e, f) (stays (met ++ row ∷ []))
over_next at test than met row rows stays true e false f = rw (e, f) (stays met)

over_stays : (at : ℕ) (test : Test) (than : Value) (met : List (List Value)) (rows : List (List Value)) → last_answer (fold next_scan (scan.Select at test than met true) rows) ≡ answer.Refused fault.TooManyRows
over_stays at test than met [] = refl
over_stays at test than met (row ∷ rows) = over_next at test than met row rows (λ more. over_stays at test than more rows) (value_meets test than (slice_get row at)) refl (nat_lt (length met) 32) refl

-- no row changes the answer of a select that more than 32 rows met
pub settled : (s : Scan) → is_settled s ≡ true → (rows : List (List Value)) → last_answer (fold next_scan s rows) ≡ last_answer s
settled (scan.Select at test than met true) h rows = over_stays at test than met rows
settled (scan.Select at test than met false) h rows = cc
settled (scan.Count n) h rows = cc
settled (scan.Sum at sum) h rows = cc
