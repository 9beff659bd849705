-- In a state that is as the invariant says, no call without the mark that a request sent is of an
-- index beyond the calls that it was shown.
use Rattle.std.proofs.Common.{◌≡◌, refl, sym, subst, ◌∙◌, arith, true, false, ℕ, suc, zero, ◌+◌, ◌<◌, ◌≤◌, ◌&&◌, cond, fold, length, length-append, List, [], ◌∷◌, ◌++◌, map, Option, Some, None}
use Rattle.std.specs.Prelude.{◌==◌, is_some, nat_le, slice_get}
use Rattle.std.specs.List.{list_all, list_any}
use Rattle.std.specs.Option.{option_map_or}
use Rattle.std.specs.Cmp.Lexicographic.{pointwise}
use Rattle.std.proofs.lemmas.Bool.{and_parts}
use Rattle.std.proofs.lemmas.List.{length-map}
use Rattle.std.proofs.lemmas.Option.{slice_get_within}
use Rattle.svc_values.specs.declared.call.Call.{Call}
use Rattle.svc_values.specs.meaning.Same.{same_call}
use Rattle.client_model.specs.meaning.Account.{Account, account_of, after_step, before_sends, hears, shows, shows_found, unheard}
use Rattle.client_model.specs.meaning.Conversation.{Done}
use Rattle.client_model.specs.declared.act.Shown.{Shown}
use Rattle.client_model.specs.meaning.Terms.{Terms}
use Rattle.run_clauses.specs.meaning.Reports.{report_of, shown_call}
use Rattle.world_model.specs.meaning.Clients.{Step}
use Rattle.invariant_laws.specs.Invariant.{Invariant}
use Rattle.world_model.specs.meaning.Links.{Link, link_at}
use Rattle.invariant_laws.specs.NearCalls.{is_shown_or_next, sends_near, send_near}
use Rattle.invariant_laws.specs.Once.{are_placed, is_placed}
use Rattle.world_model.specs.Parts.{Scan, Sending, scan_of, scanned, sendings_of}
use Rattle.world_model.specs.records.Script.{are_sent, is_sending_of, reports_rightly, sendings_on, sent_on}
use Rattle.invariant_laws.specs.Shown.{calls_on}
use Rattle.world_model.specs.Traced.{Traced, Course, courses_of}
use Rattle.world_model.specs.Words.{held_in}
use Rattle.world_model.proofs.Offered.{weaker_all, hears_same, all_more, calls_of, on_of, eq_from, le_from, le_to}
use Rattle.invariant_laws.proofs.losses.LostKept.{both_all}
use Rattle.invariant_laws.proofs.rows.RowNear.{near_from, on_below, pair_below, scan_below}

-- WHAT IS SHOWN -----------------------------------------------------------------------------------

-- the account has each of so many shown calls that is one of the script
abbrev Has : List Call → ℕ → List Shown → Type 0
Has calls count shown = (index : ℕ) → index < length calls → index ≤ count → index ≤ length shown

none_left : (calls : List Call) (at : ℕ) → slice_get calls at ≡ None → length calls ≤ at
none_left [] at none = omega arith
none_left (call ∷ calls) zero none = absurd (let never : ⊥ = cc in never)
none_left (call ∷ calls) (suc at) none = let rest : length calls ≤ at = none_left calls at none in omega (arith, rest)

module _ (terms : Terms) (calls : List Call) where
  found_has : (count : ℕ) (a : Account) (shown : Shown) (found : Option Call) → slice_get calls (length a.shown) ≡ found → Has calls count a.shown → Has calls (count + 1) (shows_found terms a shown found).shown
  found_has count a shown None is has = λ index less least. let most : length calls ≤ length a.shown = none_left calls (length a.shown) is in omega (arith, less, most)
  found_has count a shown (Some call) is has = λ index less least.
      let long : length (a.shown ++ shown ∷ []) ≡ length a.shown + 1 = length-append a.shown (shown ∷ []) in
      by index less least long
    where
      by : (index : ℕ) → index < length calls → index ≤ count + 1 → length (a.shown ++ shown ∷ []) ≡ length a.shown + 1 → index ≤ length (a.shown ++ shown ∷ [])
      by zero less least long = omega arith
      by (suc index) less least long =
          let before : index ≤ length a.shown = has index (omega (arith, less)) (omega (arith, least)) in
          omega (arith, before, long)

  shows_has : (count : ℕ) (a : Account) (shown : Option Shown) → Has calls count a.shown → Has calls (count + cond (is_some shown) 1 0) (shows terms calls a shown).shown
  shows_has count a None has = λ index less least. has index less (omega (arith, least))
  shows_has count a (Some shown) has = found_has count a shown (slice_get calls (length a.shown)) refl has

  step_has : (count : ℕ) (a : Account) (done : Done) → Has calls count a.shown → Has calls (count + cond (is_some done.act.shown) 1 0) (after_step terms calls a done).shown
  step_has count a done has =
      let heard : Account = hears terms a done.input done.now done.act.shown in
      let same : heard.shown ≡ a.shown = (hears_same terms a done.input done.now done.act.shown).shown in
      subst (Has calls (count + cond (is_some done.act.shown) 1 0)) (sym (all_more terms calls done.now done.act.send (before_sends terms calls a done)))
      (shows_has count heard done.act.shown (subst (Has calls count) (sym same) has))

  steps_have : (scan : Scan) (a : Account) (steps : List Step) → Has calls scan.shown a.shown → Has calls (fold scanned scan steps).shown (fold (after_step terms calls) a (map (λ step. step.done) steps)).shown
  steps_have scan a [] has = has
  steps_have scan a (step ∷ steps) has = steps_have (scanned scan step) (after_step terms calls a step.done) steps (step_has scan.shown a step.done has)

-- A REQUEST ---------------------------------------------------------------------------------------

module _ (t : Traced) (course : Course) (placed : are_placed course ≡ true) (reports : reports_rightly t course ≡ true) where
  told : length (account_of t.setting.terms course.request.calls (map (λ step. step.done) course.steps)).shown ≡ length course.report.calls
  told =
      sym (length-map (account_of t.setting.terms course.request.calls (map (λ step. step.done) course.steps)).shown shown_call)
      ∙ eq_from (length (report_of t.setting.terms course.request (map (λ step. step.done) course.steps)).calls) (length course.report.calls)
      (and_parts (length (report_of t.setting.terms course.request (map (λ step. step.done) course.steps)).calls == length course.report.calls) _ reports).0

  has : Has course.request.calls (scan_of course).shown (account_of t.setting.terms course.request.calls (map (λ step. step.done) course.steps)).shown
  has = steps_have t.setting.terms course.request.calls (record { owner = course.owner; connection = 0; held = None; shown = 0; sendings = [] }) unheard course.steps (λ index less least. omega (arith, least))

  one_below : (sending : Sending) → (nat_le sending.at (scan_of course).shown && is_placed course.request.calls (held_in course.steps) sending) ≡ true → nat_le sending.at (length course.report.calls) ≡ true
  one_below sending both =
      let parts = and_parts (nat_le sending.at (scan_of course).shown) (is_placed course.request.calls (held_in course.steps) sending) both in
      let there = and_parts (option_map_or (same_call sending.call) (slice_get course.request.calls sending.at) false) (list_any (λ number. number == sending.connection) (held_in course.steps)) parts.1 in
      let within : sending.at < length course.request.calls = by (slice_get course.request.calls sending.at) refl there.0 in
      let most = has sending.at within (le_from sending.at (scan_of course).shown parts.0) in
      le_to sending.at (length course.report.calls) (omega (arith, most, told))
    where
      by : (found : Option Call) → slice_get course.request.calls sending.at ≡ found → option_map_or (same_call sending.call) found false ≡ true → sending.at < length course.request.calls
      by None is same = absurd (let none : ⊥ = cc in none)
      by (Some call) is same = slice_get_within course.request.calls sending.at call is

  all_below : list_all (λ (sending : Sending). nat_le sending.at (length course.report.calls)) (sendings_of course) ≡ true
  all_below =
      weaker_all (λ (sending : Sending). nat_le sending.at (scan_of course).shown && is_placed course.request.calls (held_in course.steps) sending) (λ (sending : Sending). nat_le sending.at (length course.report.calls)) (sendings_of course) one_below
      (both_all (λ (sending : Sending). nat_le sending.at (scan_of course).shown) (is_placed course.request.calls (held_in course.steps)) (sendings_of course)
      (scan_below (record { owner = course.owner; connection = 0; held = None; shown = 0; sendings = [] }) course.steps refl) placed)

  course_near : are_sent t course ≡ true → sends_near t course ≡ true
  course_near sent =
      weaker_all (λ number. option_map_or (λ link. pointwise is_sending_of (sent_on course link) (sendings_on course number)) (link_at t.machine.links number) false)
      (λ number. option_map_or (λ link. list_all (is_shown_or_next course.report.calls) (calls_on course link)) (link_at t.machine.links number) false) (held_in course.steps) (λ number is. at number (link_at t.machine.links number) is) sent
    where
      at : (number : ℕ) (found : Option Link) → option_map_or (λ link. pointwise is_sending_of (sent_on course link) (sendings_on course number)) found false ≡ true → option_map_or (λ link. list_all (is_shown_or_next course.report.calls) (calls_on course link)) found false ≡ true
      at number None is = absurd (let none : ⊥ = cc in none)
      at number (Some link) is =
          near_from course.owner course.report.calls link.sent
          (pair_below (length course.report.calls) (calls_of course.owner link.sent) (on_of number (sendings_of course)) is (on_below (length course.report.calls) number (sendings_of course) [] all_below refl))

pub calls_near : (t : Traced) → Invariant t → send_near t ≡ true
calls_near t inv =
    weaker_all (λ course. are_sent t course && (are_placed course && reports_rightly t course)) (sends_near t) (courses_of t)
    (λ course all.
    let one = and_parts (are_sent t course) (are_placed course && reports_rightly t course) all in
    let two = and_parts (are_placed course) (reports_rightly t course) one.1 in
    course_near t course two.0 two.1 one.0)
    (both_all (are_sent t) (λ course. are_placed course && reports_rightly t course) (courses_of t) inv.orderly.script.sent
    (both_all are_placed (reports_rightly t) (courses_of t) inv.once.placed inv.orderly.script.reports))
