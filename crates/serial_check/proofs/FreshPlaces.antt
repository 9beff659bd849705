-- Where a value comes again, and whether one stands twice.
use Rattle.std.proofs.Common.{◌≡◌, ℕ, ◌+◌, Bool, true, false, not, List, [], ◌∷◌, ◌++◌, Option, Some, None, is_none, refl, sym, ap, ◌∙◌, append-nil}
use Rattle.std.specs.Prelude.{◌&&◌, ◌||◌, if◌then◌else◌}
use Rattle.std.specs.List.{list_any, flat_map}
use Rattle.std.proofs.lemmas.List.Folds.{list_any-append}
use Rattle.svc_values.specs.declared.draw.Draw.{Draw}
use Rattle.svc_values.specs.declared.entry.Entry.{Entry}
use Rattle.svc_values.specs.declared.entry.Piece.{Piece}
use Rattle.svc_values.specs.meaning.Same.{same_draw}
use Rattle.svc_values.specs.SameLaws.{same_draw_decides}
use Rattle.server_model.specs.meaning.Fresh.{is_single, stands_again, none_twice, draws_in, draws_of}
use Rattle.outage_schedule.specs.declared.report.Report.{Report}
use Rattle.run_clauses.specs.meaning.Fresh.{fresh}
use Rattle.serial_check.specs.meaning.Places.{piece_at, is_drawn_before, draws_again, or_next, fresh_pieces, or_later, fresh_entries, fresh_place}

-- ---- tests

and_false : (b : Bool) → (b && false) ≡ false
and_false true = refl
and_false false = refl

and_true : (b : Bool) → (b && true) ≡ b
and_true true = refl
and_true false = refl

neither : (a b : Bool) → (not a && not b) ≡ not (a || b)
neither true b = refl
neither false b = refl

-- ---- the order of those before makes no difference

abbrev pub SameBefore : List Draw → List Draw → Type 0
SameBefore a b = (one : Draw) → is_drawn_before a one ≡ is_drawn_before b one

one_more_by : (s x y z : Bool) → (s && y) ≡ (s && z) → (s && (x || y)) ≡ (s && (x || z))
one_more_by true x y z e = ap (λ t. x || t) e
one_more_by false x y z e = refl

pub again_same : (a b draws : List Draw) → SameBefore a b → draws_again a draws ≡ draws_again b draws
again_same a b [] same = refl
again_same a b (one ∷ draws) same =
    ap (λ t. if t then true else draws_again (one ∷ a) draws) (same one)
    ∙ ap (λ again. if is_drawn_before b one then true else again)
    (again_same (one ∷ a) (one ∷ b) draws (λ other. one_more_by (is_single other) (same_draw other one) (list_any (same_draw other) a) (list_any (same_draw other) b) (same other)))

or_turned : (x y z : Bool) → (x || (y || z)) ≡ (y || (x || z))
or_turned true true z = refl
or_turned true false z = refl
or_turned false true z = refl
or_turned false false z = refl

-- one of them stands in front, or further behind
pub moved : (one : Draw) (before more : List Draw) → SameBefore (one ∷ before ++ more) (before ++ one ∷ more)
moved one before more other =
    ap (λ t. is_single other && t)
    (ap (λ t. same_draw other one || t) (list_any-append (same_draw other) before more)
    ∙ or_turned (same_draw other one) (list_any (same_draw other) before) (list_any (same_draw other) more)
    ∙ sym (list_any-append (same_draw other) before (one ∷ more)))

by_first : (t x y z : Bool) → x ≡ (y || z) → (if t then true else x) ≡ ((if t then true else y) || z)
by_first true x y z e = refl
by_first false x y z e = e

-- draws behind others
pub again_append : (before a b : List Draw) → draws_again before (a ++ b) ≡ (draws_again before a || draws_again (before ++ a) b)
again_append before [] b = ap (λ l. draws_again l b) (sym (append-nil before))
again_append before (one ∷ a) b =
    by_first (is_drawn_before before one) (draws_again (one ∷ before) (a ++ b)) (draws_again (one ∷ before) a) (draws_again (before ++ one ∷ a) b)
    (again_append (one ∷ before) a b ∙ ap (λ t. draws_again (one ∷ before) a || t) (again_same (one ∷ before ++ a) (before ++ one ∷ a) b (moved one before a)))

-- ---- looking back, and looking ahead

same_turned : (a b : Draw) → same_draw a b ≡ true → same_draw b a ≡ true
same_turned a b same = (same_draw_decides b a).1 (sym ((same_draw_decides a b).0 same))

-- of two draws either one may be asked
either_way : (a b : Draw) → (is_single a && same_draw a b) ≡ (is_single b && same_draw b a)
either_way a b = by_tests (same_draw a b) (same_draw b a) refl refl
  where
    by_tests : (s t : Bool) → same_draw a b ≡ s → same_draw b a ≡ t → (is_single a && s) ≡ (is_single b && t)
    by_tests true true h k = ap (λ one. is_single one && true) ((same_draw_decides a b).0 h)
    by_tests true false h k = absurd (let clash : ◌≡◌ {A = Bool} true false = sym (same_turned a b h) ∙ k in cc)
    by_tests false true h k = absurd (let clash : ◌≡◌ {A = Bool} true false = sym (same_turned b a k) ∙ h in cc)
    by_tests false false h k = and_false (is_single a) ∙ sym (and_false (is_single b))

turned : (p q w r : Bool) → ((p || q) || (w || r)) ≡ ((p || w) || (q || r))
turned true q w r = refl
turned false false w r = refl
turned false true true r = refl
turned false true false r = refl

both_ways : (s t p k q w r : Bool) → (s && p) ≡ (t && k) → ((s && (p || q)) || ((t && w) || r)) ≡ ((t && (k || w)) || ((s && q) || r))
both_ways true true p k q w r e = ap (λ x. (x || q) || (w || r)) e ∙ turned k q w r
both_ways true false p k q w r e = ap (λ x. (x || q) || r) e
both_ways false true p k q w r e = ap (λ x. (x || w) || r) e
both_ways false false p k q w r e = refl

-- one more before: the draw stands again among those behind, or one of them stood before it
one_before : (one : Draw) (before draws : List Draw) → list_any (is_drawn_before (one ∷ before)) draws ≡ (stands_again one draws || list_any (is_drawn_before before) draws)
one_before one before [] = ap (λ t. t || false) (sym (and_false (is_single one)))
one_before one before (other ∷ draws) =
    ap (λ t. (is_single other && (same_draw other one || list_any (same_draw other) before)) || t) (one_before one before draws)
    ∙ both_ways (is_single other) (is_single one) (same_draw other one) (same_draw one other) (list_any (same_draw other) before) (list_any (same_draw one) draws) (list_any (is_drawn_before before) draws) (either_way other one)

by_step : (t x n s r : Bool) → not x ≡ (n && not (s || r)) → not (if t then true else x) ≡ ((not s && n) && not (t || r))
by_step true x n true r e = refl
by_step true x true false r e = refl
by_step true x false false r e = refl
by_step false x true true r e = e
by_step false x false true r e = e
by_step false x true false r e = e
by_step false x false false r e = e

none_again : (before draws : List Draw) → not (draws_again before draws) ≡ (none_twice draws && not (list_any (is_drawn_before before) draws))
none_again before [] = refl
none_again before (one ∷ draws) =
    by_step (is_drawn_before before one) (draws_again (one ∷ before) draws) (none_twice draws) (stands_again one draws) (list_any (is_drawn_before before) draws)
    (none_again (one ∷ before) draws ∙ ap (λ t. none_twice draws && not t) (one_before one before draws))

nothing_before : (draws : List Draw) → list_any (is_drawn_before []) draws ≡ false
nothing_before [] = refl
nothing_before (one ∷ draws) = ap (λ t. t || list_any (is_drawn_before []) draws) (and_false (is_single one)) ∙ nothing_before draws

-- ---- pieces and entries

next_none : (t : Bool) (place : List ℕ) (next : Option (List ℕ)) → is_none (or_next t place next) ≡ (not t && is_none next)
next_none true place next = refl
next_none false place next = refl

later_none : (first later : Option (List ℕ)) → is_none (or_later first later) ≡ (is_none first && is_none later)
later_none (Some place) later = refl
later_none None later = refl

pieces_none : (before : List Draw) (n p : ℕ) (pieces : List Piece) → is_none (fresh_pieces before n p pieces) ≡ not (draws_again before (flat_map draws_in pieces))
pieces_none before n p [] = refl
pieces_none before n p (piece ∷ pieces) =
    next_none (draws_again before piece.draws) (piece_at n p) (fresh_pieces (before ++ piece.draws) n (p + 1) pieces)
    ∙ ap (λ t. not (draws_again before piece.draws) && t) (pieces_none (before ++ piece.draws) n (p + 1) pieces)
    ∙ neither (draws_again before piece.draws) (draws_again (before ++ piece.draws) (flat_map draws_in pieces))
    ∙ ap not (sym (again_append before piece.draws (flat_map draws_in pieces)))

entries_none : (before : List Draw) (n : ℕ) (entries : List Entry) → is_none (fresh_entries before n entries) ≡ not (draws_again before (flat_map draws_of entries))
entries_none before n [] = refl
entries_none before n (entry ∷ entries) =
    later_none (fresh_pieces before n 0 entry.pieces) (fresh_entries (before ++ draws_of entry) (n + 1) entries)
    ∙ ap (λ t. t && is_none (fresh_entries (before ++ draws_of entry) (n + 1) entries)) (pieces_none before n 0 entry.pieces)
    ∙ ap (λ t. not (draws_again before (draws_of entry)) && t) (entries_none (before ++ draws_of entry) (n + 1) entries)
    ∙ neither (draws_again before (draws_of entry)) (draws_again (before ++ draws_of entry) (flat_map draws_of entries))
    ∙ ap not (sym (again_append before (draws_of entry) (flat_map draws_of entries)))

-- there is no place exactly where no value stands twice
pub fresh_none : (report : Report) → is_none (fresh_place report) ≡ fresh report
fresh_none report =
    let draws : List Draw = flat_map draws_of report.entries in
    entries_none [] 0 report.entries ∙ none_again [] draws ∙ ap (λ t. none_twice draws && not t) (nothing_before draws) ∙ and_true (none_twice draws)
