-- The calls of a request on a connection are in a row: as more calls are shown, and with one more
-- behind them.
use Rattle.std.proofs.Common.{◌≡◌, refl, sym, ap, subst, ◌∙◌, Bool, true, false, ℕ, suc, zero, ◌+◌, ◌≤◌, ◌&&◌, ◌||◌, length, List, [], ◌∷◌, ◌++◌, Option, Some, None, ◌⊎◌, ⊎_elim, arith}
use Rattle.std.specs.Prelude.{◌==◌, not, nat_le, take, slice_get, if◌then◌else◌}
use Rattle.std.specs.List.{list_all, last_or}
use Rattle.std.specs.Option.{option_map_or}
use Rattle.std.proofs.lemmas.Bool.{and_parts, and_from, or_right, or_left}
use Rattle.svc_values.specs.declared.call.Call.{Call}
use Rattle.svc_values.specs.declared.frame.Up.{Up}
use Rattle.svc_values.specs.declared.frame.Up.TheVariants as up
use Rattle.svc_values.specs.meaning.Same.{same_call}
use Rattle.outage_schedule.specs.declared.request.ShownCall.{ShownCall}
use Rattle.world_model.specs.meaning.Frames.{Sent}
use Rattle.world_model.specs.Parts.{implies, is_unmarked}
use Rattle.world_model.specs.records.Script.{recorded_from}
use Rattle.invariant_laws.specs.Shown.{is_marked, first_of, in_row, is_scripts, marked_from, has_unmarked, first_unmarked, unmarked_first, is_row}
use Rattle.world_model.specs.Traced.{Course}
use Rattle.world_model.proofs.Offered.{append_all, weaker_all, eq_from, eq_to, le_from}

-- LISTS -------------------------------------------------------------------------------------------

take_within : {A : Type 0} (count : ℕ) (xs more : List A) → count ≤ length xs → take count (xs ++ more) ≡ take count xs
take_within zero xs more within = refl
take_within (suc count) [] more within = absurd (let none : ⊥ = omega arith in none)
take_within (suc count) (x ∷ xs) more within = let rest : count ≤ length xs = omega arith in ap (λ ys. x ∷ ys) (take_within count xs more rest)

take_all : {A : Type 0} (xs : List A) → take (length xs) xs ≡ xs
take_all [] = refl
take_all (x ∷ xs) = ap (λ ys. x ∷ ys) (take_all xs)

-- each unmarked call is of an index that was shown, or is the next one
abbrev pub is_near : List ShownCall → Sent → Bool
is_near shown sent = is_marked sent.frame || nat_le sent.call (length shown)

marked_not : (sent : Sent) (frame : Up) → is_marked frame ≡ true → is_unmarked (record sent { frame = frame }) ≡ false
marked_not sent (up.Call true kept call) is = refl
marked_not sent (up.Call false kept call) is = absurd (let none : ⊥ = cc in none)
marked_not sent up.Connect is = refl
marked_not sent (up.Begin settings) is = refl
marked_not sent (up.Outcome x) is = refl
marked_not sent up.End is = refl
marked_not sent up.Close is = refl

-- MORE CALLS ARE SHOWN ----------------------------------------------------------------------------

module _ (c d : Course) (more : List ShownCall) (report : d.report.calls ≡ c.report.calls ++ more) (request : d.request.calls ≡ c.request.calls) where
  scripts_same : (sent : Sent) (frame : Up) → is_scripts c sent frame ≡ true → is_scripts d sent frame ≡ true
  scripts_same sent (up.Call mark kept call) here = subst (λ (calls : List Call). option_map_or (same_call call) (slice_get calls sent.call) false ≡ true) (sym request) here
  scripts_same sent up.Connect here = refl
  scripts_same sent (up.Begin settings) here = refl
  scripts_same sent (up.Outcome x) here = refl
  scripts_same sent up.End here = refl
  scripts_same sent up.Close here = refl

  take_same : (count : ℕ) → count ≤ length c.report.calls → take count d.report.calls ≡ take count c.report.calls
  take_same count within = ap (λ (calls : List ShownCall). take count calls) report ∙ take_within count c.report.calls more within

  from_same : (calls : List Sent) (count : ℕ) → count ≤ length c.report.calls → marked_from c calls count ≡ true → marked_from d calls count ≡ true
  from_same [] count within here = refl
  from_same (first ∷ calls) count within here =
      subst (λ (shown : List ShownCall). implies (is_marked first.frame) (first.call == recorded_from shown) ≡ true) (sym (take_same count within)) here

  -- the first one without the mark, if there is one
  record Unmarked (calls : List Sent) : Type 0 where
    same : first_unmarked d calls ≡ first_unmarked c calls
    within : first_unmarked c calls ≤ length c.report.calls

  found_unmarked : (calls : List Sent) → list_all (is_near c.report.calls) calls ≡ true → has_unmarked calls ≡ true → Unmarked calls
  found_unmarked [] near has = absurd (let none : ⊥ = cc in none)
  found_unmarked (sent ∷ calls) near has =
      let parts = and_parts (is_near c.report.calls sent) (list_all (is_near c.report.calls) calls) near in
      by (is_marked sent.frame) refl parts.0 (λ some. found_unmarked calls parts.1 some)
    where
      later : (unmarked : Bool) → unmarked ≡ false → (unmarked || has_unmarked calls) ≡ true → has_unmarked calls ≡ true
      later true is other = absurd (let none : ⊥ = cc in none)
      later false is other = other

      by : (mark : Bool) → is_marked sent.frame ≡ mark → (mark || nat_le sent.call (length c.report.calls)) ≡ true → (has_unmarked calls ≡ true → Unmarked calls) → Unmarked (sent ∷ calls)
      by true is here rest =
          let found : Unmarked calls = rest (later (is_unmarked sent) (marked_not sent sent.frame is) has) in
          record {
            same = ap (λ (test : Bool). if test then first_unmarked d calls else sent.call) is ∙ (found.same ∙ sym (ap (λ (test : Bool). if test then first_unmarked c calls else sent.call) is));
            within = subst (λ (n : ℕ). n ≤ length c.report.calls) (sym (ap (λ (test : Bool). if test then first_unmarked c calls else sent.call) is)) found.within;
          }
      by false is here rest =
          record {
            same = ap (λ (test : Bool). if test then first_unmarked d calls else sent.call) is ∙ sym (ap (λ (test : Bool). if test then first_unmarked c calls else sent.call) is);
            within = subst (λ (n : ℕ). n ≤ length c.report.calls) (sym (ap (λ (test : Bool). if test then first_unmarked c calls else sent.call) is)) (le_from sent.call (length c.report.calls) here);
          }

  first_same : (calls : List Sent) → list_all (is_near c.report.calls) calls ≡ true → unmarked_first c calls ≡ true → unmarked_first d calls ≡ true
  first_same [] near here = refl
  first_same (first ∷ calls) near here = by (is_marked first.frame) refl (and_parts (is_near c.report.calls first) (list_all (is_near c.report.calls) calls) near).0 here
    where
      by : (mark : Bool) → is_marked first.frame ≡ mark → (mark || nat_le first.call (length c.report.calls)) ≡ true → (mark || (first.call == recorded_from (take first.call c.report.calls))) ≡ true → unmarked_first d (first ∷ calls) ≡ true
      by true is near here = or_left (is_marked first.frame) (first.call == recorded_from (take first.call d.report.calls)) is
      by false is near here =
          or_right (is_marked first.frame) (first.call == recorded_from (take first.call d.report.calls))
          (subst (λ (shown : List ShownCall). (first.call == recorded_from shown) ≡ true) (sym (take_same first.call (le_from first.call (length c.report.calls) near))) here)

  -- where no more are shown
  count_same : (calls : List Sent) → d.report.calls ≡ c.report.calls → first_unmarked d calls ≡ first_unmarked c calls
  count_same [] same = ap (λ (shown : List ShownCall). length shown) same
  count_same (sent ∷ calls) same = ap (λ (n : ℕ). if is_marked sent.frame then n else sent.call) (count_same calls same)

  from_all : (calls : List Sent) (count : ℕ) → d.report.calls ≡ c.report.calls → marked_from c calls count ≡ true → marked_from d calls count ≡ true
  from_all [] count same here = refl
  from_all (first ∷ calls) count same here = subst (λ (shown : List ShownCall). implies (is_marked first.frame) (first.call == recorded_from (take count shown)) ≡ true) (sym same) here

  -- the row stays
  pub row_stays : (current now : Bool) (calls : List Sent) → list_all (is_near c.report.calls) calls ≡ true → (now ≡ true → current ≡ true)
      → (now ≡ true → has_unmarked calls ≡ false → (calls ≡ []) ⊎ (d.report.calls ≡ c.report.calls)) → is_row c current calls ≡ true → is_row d now calls ≡ true
  row_stays current now calls near still whole row =
      and_from (in_row start calls) _ one.0
      (and_from (list_all (λ sent. is_scripts d sent sent.frame) calls) _ (weaker_all (λ sent. is_scripts c sent sent.frame) (λ sent. is_scripts d sent sent.frame) calls (λ sent here. scripts_same sent sent.frame here) two.0)
      (and_from (implies (now || has_unmarked calls) (marked_from d calls (first_unmarked d calls))) (unmarked_first d calls) (by (has_unmarked calls) refl three.0) (first_same calls near three.1)))
    where
      start : ℕ
      start = option_map_or (λ sent. sent.call) (first_of calls) 0

      one : (in_row start calls ≡ true) × ((list_all (λ sent. is_scripts c sent sent.frame) calls && (implies (current || has_unmarked calls) (marked_from c calls (first_unmarked c calls)) && unmarked_first c calls)) ≡ true)
      one = and_parts (in_row start calls) (list_all (λ sent. is_scripts c sent sent.frame) calls && (implies (current || has_unmarked calls) (marked_from c calls (first_unmarked c calls)) && unmarked_first c calls)) row

      two : (list_all (λ sent. is_scripts c sent sent.frame) calls ≡ true) × ((implies (current || has_unmarked calls) (marked_from c calls (first_unmarked c calls)) && unmarked_first c calls) ≡ true)
      two = and_parts (list_all (λ sent. is_scripts c sent sent.frame) calls) (implies (current || has_unmarked calls) (marked_from c calls (first_unmarked c calls)) && unmarked_first c calls) one.1

      three : (implies (current || has_unmarked calls) (marked_from c calls (first_unmarked c calls)) ≡ true) × (unmarked_first c calls ≡ true)
      three = and_parts (implies (current || has_unmarked calls) (marked_from c calls (first_unmarked c calls))) (unmarked_first c calls) two.1

      met : (test one : Bool) → implies test one ≡ true → test ≡ true → one ≡ true
      met true one here is = here
      met false one here is = absurd (let none : ⊥ = cc in none)

      said : (test one : Bool) → one ≡ true → implies test one ≡ true
      said test one here = or_right (not test) one here

      some : has_unmarked calls ≡ true → implies (current || has_unmarked calls) (marked_from c calls (first_unmarked c calls)) ≡ true → marked_from d calls (first_unmarked d calls) ≡ true
      some has here =
          let found : Unmarked calls = found_unmarked calls near has in
          subst (λ (n : ℕ). marked_from d calls n ≡ true) (sym found.same)
          (from_same calls (first_unmarked c calls) found.within (met (current || has_unmarked calls) (marked_from c calls (first_unmarked c calls)) here (or_right current (has_unmarked calls) has)))

      none_from : calls ≡ [] → marked_from d calls (first_unmarked d calls) ≡ true
      none_from none = ap (λ (all : List Sent). marked_from d all (first_unmarked d all)) none

      none : has_unmarked calls ≡ false → now ≡ true → implies (current || has_unmarked calls) (marked_from c calls (first_unmarked c calls)) ≡ true → marked_from d calls (first_unmarked d calls) ≡ true
      none has is here =
          ⊎_elim none_from
          (λ same. subst (λ (n : ℕ). marked_from d calls n ≡ true) (sym (count_same calls same))
          (from_all calls (first_unmarked c calls) same (met (current || has_unmarked calls) (marked_from c calls (first_unmarked c calls)) here (or_left current (has_unmarked calls) (still is))))) (whole is has)

      either : (test : Bool) → now ≡ test → has_unmarked calls ≡ false → implies (current || has_unmarked calls) (marked_from c calls (first_unmarked c calls)) ≡ true
          → implies (now || has_unmarked calls) (marked_from d calls (first_unmarked d calls)) ≡ true
      either true is has here = said (now || has_unmarked calls) (marked_from d calls (first_unmarked d calls)) (none has is here)
      either false is has here = ap (λ (test : Bool). implies (test || has_unmarked calls) (marked_from d calls (first_unmarked d calls))) is ∙ ap (λ (test : Bool). implies (false || test) (marked_from d calls (first_unmarked d calls))) has

      by : (test : Bool) → has_unmarked calls ≡ test → implies (current || has_unmarked calls) (marked_from c calls (first_unmarked c calls)) ≡ true → implies (now || has_unmarked calls) (marked_from d calls (first_unmarked d calls)) ≡ true
      by true has here = said (now || has_unmarked calls) (marked_from d calls (first_unmarked d calls)) (some has here)
      by false has here = either now refl has here

-- ONE CALL MORE -----------------------------------------------------------------------------------

row_push : (start : ℕ) (before : Option Sent) (calls : List Sent) (x : Sent) → in_row start calls ≡ true → ((one : Sent) → before ≡ Some one → one.call + 1 ≡ start)
    → (last : Sent) → last_or before calls ≡ Some last → last.call + 1 ≡ x.call → in_row start (calls ++ x ∷ []) ≡ true
row_push start before [] x row starts last is next = and_from (x.call == start) true (eq_to x.call start (sym next ∙ starts last is)) refl
row_push start before (sent ∷ calls) x row starts last is next =
    let parts = and_parts (sent.call == start) (in_row (start + 1) calls) row in
    and_from (sent.call == start) (in_row (start + 1) (calls ++ x ∷ [])) parts.0
    (row_push (start + 1) (Some sent) calls x parts.1 (λ one same. let here : sent ≡ one = cc in ap (λ (s : Sent). s.call + 1) (sym here) ∙ ap (λ (n : ℕ). n + 1) (eq_from sent.call start parts.0)) last is next)

module _ (d : Course) (x : Sent) (place : is_marked x.frame ≡ false → x.call ≡ length d.report.calls) where
  count_push : (calls : List Sent) → first_unmarked d (calls ++ x ∷ []) ≡ first_unmarked d calls
  count_push [] = by (is_marked x.frame) refl
    where
      by : (mark : Bool) → is_marked x.frame ≡ mark → (if mark then length d.report.calls else x.call) ≡ length d.report.calls
      by true is = refl
      by false is = place is
  count_push (sent ∷ calls) = ap (λ (n : ℕ). if is_marked sent.frame then n else sent.call) (count_push calls)

  -- the row goes on
  pub row_more : (calls : List Sent) → is_row d true calls ≡ true → is_scripts d x x.frame ≡ true → ((last : Sent) → last_or None calls ≡ Some last → last.call + 1 ≡ x.call) → (calls ≡ [] → x.call ≡ recorded_from d.report.calls)
      → is_row d true (calls ++ x ∷ []) ≡ true
  row_more [] row scripts next fresh =
      let here : (x.call == recorded_from d.report.calls) ≡ true = eq_to x.call (recorded_from d.report.calls) (fresh refl) in
      and_from ((x.call == x.call) && true) _ (and_from (x.call == x.call) true (eq_to x.call x.call refl) refl)
      (and_from (is_scripts d x x.frame && true) _ (and_from (is_scripts d x x.frame) true scripts refl)
      (and_from (implies (is_marked x.frame) (x.call == recorded_from (take (first_unmarked d (x ∷ [])) d.report.calls))) (is_marked x.frame || (x.call == recorded_from (take x.call d.report.calls)))
      (or_right (not (is_marked x.frame)) (x.call == recorded_from (take (first_unmarked d (x ∷ [])) d.report.calls))
      (subst (λ (shown : List ShownCall). (x.call == recorded_from shown) ≡ true) (sym (ap (λ (n : ℕ). take n d.report.calls) (count_push []) ∙ take_all d.report.calls)) here))
      (by (is_marked x.frame) refl here)))
    where
      by : (mark : Bool) → is_marked x.frame ≡ mark → (x.call == recorded_from d.report.calls) ≡ true → (is_marked x.frame || (x.call == recorded_from (take x.call d.report.calls))) ≡ true
      by true is here = or_left (is_marked x.frame) (x.call == recorded_from (take x.call d.report.calls)) is
      by false is here =
          or_right (is_marked x.frame) (x.call == recorded_from (take x.call d.report.calls))
          (subst (λ (shown : List ShownCall). (x.call == recorded_from shown) ≡ true) (sym (ap (λ (n : ℕ). take n d.report.calls) (place is) ∙ take_all d.report.calls)) here)
  row_more (first ∷ calls) row scripts next fresh =
      let one = and_parts (in_row first.call (first ∷ calls)) _ row in
      let two = and_parts (list_all (λ sent. is_scripts d sent sent.frame) (first ∷ calls)) _ one.1 in
      let three = and_parts (implies (is_marked first.frame) (first.call == recorded_from (take (first_unmarked d (first ∷ calls)) d.report.calls))) (unmarked_first d (first ∷ calls)) two.1 in
      let tail = and_parts (first.call == first.call) (in_row (first.call + 1) calls) one.0 in
      and_from (in_row first.call ((first ∷ calls) ++ x ∷ [])) _
      (and_from (first.call == first.call) (in_row (first.call + 1) (calls ++ x ∷ [])) tail.0
      (pushed tail.1))
      (and_from (list_all (λ sent. is_scripts d sent sent.frame) ((first ∷ calls) ++ x ∷ [])) _
      (append_all (λ sent. is_scripts d sent sent.frame) (first ∷ calls) (x ∷ []) two.0 (and_from (is_scripts d x x.frame) true scripts refl))
      (and_from (implies (is_marked first.frame) (first.call == recorded_from (take (first_unmarked d ((first ∷ calls) ++ x ∷ [])) d.report.calls))) (unmarked_first d (first ∷ calls))
      (subst (λ (n : ℕ). implies (is_marked first.frame) (first.call == recorded_from (take n d.report.calls)) ≡ true) (sym (count_push (first ∷ calls))) three.0) three.1))
    where
      -- the last of the row comes before it
      last_of : (before : Sent) (calls : List Sent) → (last : Sent) × (last_or (Some before) calls ≡ Some last)
      last_of before [] = (before, refl)
      last_of before (sent ∷ calls) = last_of sent calls

      pushed : in_row (first.call + 1) calls ≡ true → in_row (first.call + 1) (calls ++ x ∷ []) ≡ true
      pushed tail =
          let last = last_of first calls in
          row_push (first.call + 1) (Some first) calls x tail (λ one same. let here : first ≡ one = cc in ap (λ (s : Sent). s.call + 1) (sym here)) last.0 last.1 (next last.0 last.1)

-- the connection may be the request's no more
pub row_weaker : (d : Course) (now : Bool) (calls : List Sent) → is_row d true calls ≡ true → is_row d now calls ≡ true
row_weaker d now calls row =
    let start : ℕ = option_map_or (λ sent. sent.call) (first_of calls) 0 in
    let one = and_parts (in_row start calls) _ row in
    let two = and_parts (list_all (λ sent. is_scripts d sent sent.frame) calls) _ one.1 in
    let three = and_parts (marked_from d calls (first_unmarked d calls)) (unmarked_first d calls) two.1 in
    and_from (in_row start calls) _ one.0
    (and_from (list_all (λ sent. is_scripts d sent sent.frame) calls) _ two.0
    (and_from (implies (now || has_unmarked calls) (marked_from d calls (first_unmarked d calls))) (unmarked_first d calls) (or_right (not (now || has_unmarked calls)) (marked_from d calls (first_unmarked d calls)) three.0) three.1))

pub no_row : (d : Course) (now : Bool) → is_row d now [] ≡ true
no_row d now = and_from (implies (now || false) true) true (or_right (not (now || false)) true refl) refl
