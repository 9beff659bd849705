-- A turn that served calls of a row is right.
use Rattle.std.proofs.Common.{◌≡◌, refl, sym, ap, subst, ◌∙◌, Bool, true, false, ℕ, ◌+◌, ◌≤◌, ◌&&◌, ◌||◌, length, List, [], ◌∷◌, map, reverse, Option, Some, None, arith}
use Rattle.std.specs.Prelude.{◌==◌, not, nat_le, take, slice_get, if◌then◌else◌}
use Rattle.std.specs.List.{list_all}
use Rattle.std.specs.Option.{option_map_or}
use Rattle.std.proofs.lemmas.Bool.{and_from, and_parts, or_right}
use Rattle.std.proofs.lemmas.Bool.Decides.{nat_tests}
use Rattle.std.proofs.lemmas.List.{length-map}
use Rattle.svc_values.specs.declared.call.Call.{Call}
use Rattle.svc_values.specs.declared.draw.Draw.{Draw}
use Rattle.svc_values.specs.declared.frame.Up.{Up}
use Rattle.svc_values.specs.declared.frame.Up.TheVariants as up
use Rattle.svc_values.specs.meaning.Same.{same_call}
use Rattle.svc_values.specs.SameLaws.{same_call_decides}
use Rattle.shown_clauses.specs.meaning.Fronts.{front_of, front_from, rest_of, rest_from}
use Rattle.shown_clauses.specs.meaning.Links.{Marked}
use Rattle.shown_clauses.specs.meaning.Turns.{is_marked as has_mark, begins_with, fits_from}
use Rattle.world_model.specs.meaning.Frames.{Sent}
use Rattle.invariant_laws.specs.NearCalls.{is_shown_or_next}
use Rattle.world_model.specs.Parts.{implies, is_unmarked, is_unmarked_frame}
use Rattle.world_model.specs.records.Script.{recorded_from}
use Rattle.invariant_laws.specs.Shown.{is_marked, first_of, in_row, is_scripts, marked_from, has_unmarked, first_unmarked, unmarked_first}
use Rattle.world_model.specs.Traced.{Course}
use Rattle.shown_laws.specs.Submitted.{submission_so_far}
use Rattle.shown_laws.specs.TurnRows.{ServedOf, NoneServed, OneServed, are_marked_first, marks_stand_first, RowsMakeTurnsRight, ServesMarksFirst}
use Rattle.shown_laws.proofs.owners.CallsFit.{InRow, RowEnds, RowGoes, row_fits}
use Rattle.shown_laws.proofs.events.Lookups.{eq_from}

-- PARTS OF WHAT WAS SERVED ------------------------------------------------------------------------

front_goes : {A : Type 0} (test : A → Bool) (x : A) (xs : List A) → front_from test true x xs ≡ x ∷ front_of test xs
front_goes test x [] = refl
front_goes test x (y ∷ ys) = refl

rest_goes : {A : Type 0} (test : A → Bool) (x : A) (xs : List A) → rest_from test true x xs ≡ rest_of test xs
rest_goes test x [] = refl
rest_goes test x (y ∷ ys) = refl

le_from : (a b : ℕ) → nat_le a b ≡ true → a ≤ b
le_from a b is = grind (arith, nat_tests)

-- the calls with the mark that were served first, and those from the first one without it on
data Split (course : Course) (at : ℕ) (calls : List Sent) : List Marked → List Marked → Type 0 where
  AllMarked : (front : List Marked) → Split course at calls front []
  OneFirst : (front : List Marked) (first : Marked) (more : List Marked) → InRow course.request.calls at (map (λ one. one.call) front) → slice_get course.request.calls (at + length front) ≡ Some first.call
      → list_all (λ one. not one.replay) more ≡ true → has_unmarked calls ≡ true → first_unmarked course calls ≡ at + length front → at + length front ≤ length course.report.calls → Split course at calls front (first ∷ more)

-- where none that was sent has the mark, none that was served has it
none_marked : (served : List Marked) (calls : List Sent) → ServedOf served calls → list_all (λ sent. not (is_marked sent.frame)) calls ≡ true → list_all (λ one. not one.replay) served ≡ true
none_marked _ _ (NoneServed calls) none = refl
none_marked _ _ (OneServed first replay kept call served calls frame goes) none =
    let parts = and_parts (not (is_marked first.frame)) (list_all (λ sent. not (is_marked sent.frame)) calls) none in
    and_from (not replay) (list_all (λ one. not one.replay) served) (by replay (subst (λ (f : Up). not (is_marked f) ≡ true) frame parts.0)) (none_marked served calls goes parts.1)
  where
    by : (mark : Bool) → not (is_marked (up.Call mark kept call)) ≡ true → not mark ≡ true
    by true is = absurd (let none : ⊥ = cc in none)
    by false is = refl

-- What was served has the marks of what was sent.
pub marks_told : ServesMarksFirst
marks_told _ _ (NoneServed calls) marks = refl
marks_told _ _ (OneServed first replay kept call served calls frame goes) marks =
    by replay (sym (ap (λ (f : Up). if is_marked f then are_marked_first calls else list_all (λ sent. not (is_marked sent.frame)) calls) frame) ∙ marks) (λ rest. marks_told served calls goes rest)
  where
    by : (mark : Bool) → (if is_marked (up.Call mark kept call) then are_marked_first calls else list_all (λ sent. not (is_marked sent.frame)) calls) ≡ true → (are_marked_first calls ≡ true → marks_stand_first served ≡ true)
        → (if mark then marks_stand_first served else list_all (λ one. not one.replay) served) ≡ true
    by true here onward = onward here
    by false here onward = none_marked served calls goes here

-- the call of a frame is the script's of its index
script_call : (course : Course) (sent : Sent) (replay : Bool) (kept : List Draw) (call : Call) (at : ℕ) → sent.frame ≡ up.Call replay kept call → sent.call ≡ at → is_scripts course sent sent.frame ≡ true → slice_get course.request.calls at ≡ Some call
script_call course sent replay kept call at frame here is =
    ap (λ (n : ℕ). slice_get course.request.calls n) (sym here) ∙ by (slice_get course.request.calls sent.call) (subst (λ (f : Up). is_scripts course sent f ≡ true) frame is)
  where
    by : (found : Option Call) → option_map_or (same_call call) found false ≡ true → found ≡ Some call
    by None same = absurd (let none : ⊥ = cc in none)
    by (Some other) same = ap Some (sym ((same_call_decides call other).0 same))

module _ (course : Course) where
  -- one with the mark more in front
  marked_more : (at : ℕ) (first : Sent) (kept : List Draw) (call : Call) (calls : List Sent) (front rest : List Marked) → first.frame ≡ up.Call true kept call → slice_get course.request.calls at ≡ Some call
      → Split course (at + 1) calls front rest → Split course at (first ∷ calls) (record { replay = true; call = call } ∷ front) rest
  marked_more at first kept call calls _ _ frame here (AllMarked front) = AllMarked (record { replay = true; call = call } ∷ front)
  marked_more at first kept call calls _ _ frame here (OneFirst front one more row is unmarked some place within) =
      let longer : List Marked = record { replay = true; call = call } ∷ front in
      let moved : at + 1 + length front ≡ at + length longer = omega arith in
      OneFirst (record { replay = true; call = call } ∷ front) one more (RowGoes at call (map (λ m. m.call) front) here row)
      (ap (λ (n : ℕ). slice_get course.request.calls n) (sym moved) ∙ is) unmarked (or_right (is_unmarked first) (has_unmarked calls) some)
      (ap (λ (f : Up). if is_marked f then first_unmarked course calls else first.call) frame ∙ (place ∙ moved))
      (subst (λ (n : ℕ). n ≤ length course.report.calls) moved within)

  split : (at : ℕ) (served : List Marked) (calls : List Sent) → ServedOf served calls → in_row at calls ≡ true → list_all (λ sent. is_scripts course sent sent.frame) calls ≡ true
      → list_all (is_shown_or_next course.report.calls) calls ≡ true → marks_stand_first served ≡ true → Split course at calls (front_of has_mark served) (rest_of has_mark served)
  split at _ _ (NoneServed calls) row scripts near marks = AllMarked []
  split at _ _ (OneServed first true kept call served calls frame goes) row scripts near marks =
      let one : Marked = record { replay = true; call = call } in
      let row_parts = and_parts (first.call == at) (in_row (at + 1) calls) row in
      let script_parts = and_parts (is_scripts course first first.frame) (list_all (λ sent. is_scripts course sent sent.frame) calls) scripts in
      let near_parts = and_parts (is_shown_or_next course.report.calls first) (list_all (is_shown_or_next course.report.calls) calls) near in
      subst (λ (front : List Marked). Split course at (first ∷ calls) front (rest_from has_mark true one served)) (sym (front_goes has_mark one served))
      (subst (λ (rest : List Marked). Split course at (first ∷ calls) (one ∷ front_of has_mark served) rest) (sym (rest_goes has_mark one served))
      (marked_more at first kept call calls (front_of has_mark served) (rest_of has_mark served) frame
      (script_call course first true kept call at frame (eq_from first.call at row_parts.0) script_parts.0)
      (split (at + 1) served calls goes row_parts.1 script_parts.1 near_parts.1 marks)))
  split at _ _ (OneServed first false kept call served calls frame goes) row scripts near marks =
      let one : Marked = record { replay = false; call = call } in
      let here : first.call ≡ at = eq_from first.call at (and_parts (first.call == at) (in_row (at + 1) calls) row).0 in
      let script_parts = and_parts (is_scripts course first first.frame) (list_all (λ sent. is_scripts course sent sent.frame) calls) scripts in
      let near_parts = and_parts (is_shown_or_next course.report.calls first) (list_all (is_shown_or_next course.report.calls) calls) near in
      let place : at + 0 ≡ at = omega arith in
      let in_time : first.call ≤ length course.report.calls = le_from first.call (length course.report.calls) (subst (λ (f : Up). (is_marked f || nat_le first.call (length course.report.calls)) ≡ true) frame near_parts.0) in
      OneFirst [] one served (RowEnds at)
      (ap (λ (n : ℕ). slice_get course.request.calls n) place ∙ script_call course first false kept call at frame here script_parts.0)
      marks
      (ap (λ (f : Up). is_unmarked_frame f || has_unmarked calls) frame)
      (ap (λ (f : Up). if is_marked f then first_unmarked course calls else first.call) frame ∙ (here ∙ sym place))
      (subst (λ (n : ℕ). n ≤ length course.report.calls) (here ∙ sym place) in_time)

  -- WHERE THEY BEGIN ------------------------------------------------------------------------------

  begins : (current : Bool) (calls : List Sent) → implies (current || has_unmarked calls) (marked_from course calls (first_unmarked course calls)) ≡ true → unmarked_first course calls ≡ true → has_unmarked calls ≡ true
      → option_map_or (λ sent. sent.call) (first_of calls) 0 ≡ recorded_from (take (first_unmarked course calls) course.report.calls)
  begins current [] marked unmarked some = absurd (let none : ⊥ = cc in none)
  begins current (first ∷ calls) marked unmarked some = by (is_marked first.frame) refl (known current (has_unmarked (first ∷ calls)) (marked_from course (first ∷ calls) (first_unmarked course (first ∷ calls))) some marked) unmarked
    where
      known : (now has from : Bool) → has ≡ true → implies (now || has) from ≡ true → from ≡ true
      known true true from is holds = holds
      known false true from is holds = holds
      known now false from is holds = absurd (let none : ⊥ = cc in none)

      by : (mark : Bool) → is_marked first.frame ≡ mark → implies mark (first.call == recorded_from (take (first_unmarked course (first ∷ calls)) course.report.calls)) ≡ true
          → (mark || (first.call == recorded_from (take first.call course.report.calls))) ≡ true → first.call ≡ recorded_from (take (first_unmarked course (first ∷ calls)) course.report.calls)
      by true is from other = eq_from first.call (recorded_from (take (first_unmarked course (first ∷ calls)) course.report.calls)) from
      by false is other from =
          eq_from first.call (recorded_from (take first.call course.report.calls)) from
          ∙ ap (λ (n : ℕ). recorded_from (take n course.report.calls)) (sym (ap (λ (test : Bool). if test then first_unmarked course calls else first.call) is))

  -- TURNS -----------------------------------------------------------------------------------------

  begins_right : (at : ℕ) (calls : List Sent) (front rest : List Marked) → Split course at calls front rest → (has_unmarked calls ≡ true → at ≡ recorded_from (take (first_unmarked course calls) course.report.calls))
      → begins_with (submission_so_far course) front rest ≡ true
  begins_right at calls _ _ (AllMarked front) from = refl
  begins_right at calls _ _ (OneFirst front first more row is unmarked some place within) from =
      let same_long : length (map (λ (one : Marked). one.call) front) ≡ length front = length-map front (λ one. one.call) in
      let long : at + length (map (λ (one : Marked). one.call) front) ≡ at + length front = ap (λ (n : ℕ). at + n) same_long in
      and_from (list_all (λ one. not one.replay) more) (fits_from first.call (reverse (map (λ one. one.call) front)) [] course.request.calls course.report.calls) unmarked
      (row_fits course.request.calls course.report.calls at (at + length front) first.call (map (λ one. one.call) front) row long
      (from some ∙ ap (λ (n : ℕ). recorded_from (take n course.report.calls)) place) is within)

pub rows_make_right : RowsMakeTurnsRight
rows_make_right course current calls turn row near marks served =
    let at : ℕ = option_map_or (λ sent. sent.call) (first_of calls) 0 in
    let one = and_parts (in_row at calls) (list_all (λ sent. is_scripts course sent sent.frame) calls && (implies (current || has_unmarked calls) (marked_from course calls (first_unmarked course calls)) && unmarked_first course calls)) row in
    let two = and_parts (list_all (λ sent. is_scripts course sent sent.frame) calls) (implies (current || has_unmarked calls) (marked_from course calls (first_unmarked course calls)) && unmarked_first course calls) one.1 in
    let three = and_parts (implies (current || has_unmarked calls) (marked_from course calls (first_unmarked course calls))) (unmarked_first course calls) two.1 in
    begins_right course at calls (front_of has_mark (reverse turn.calls)) (rest_of has_mark (reverse turn.calls))
    (split course at (reverse turn.calls) calls served one.0 two.0 near marks) (begins course current calls three.0 three.1)
