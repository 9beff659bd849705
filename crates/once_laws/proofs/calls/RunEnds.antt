-- At the end of a run each client is finished: all its requests are over, and their reports are
-- what it was shown.
use Rattle.std.proofs.Common.{◌≡◌, refl, ap, subst, ◌∙◌, Bool, true, false, ℕ, suc, zero, ◌+◌, ◌<◌, List, [], ◌∷◌, ◌++◌, filter, flat_map, map, Option, Some, None, if◌then◌else◌, arith}
use Rattle.std.specs.Prelude.{◌==◌, slice_get, is_some}
use Rattle.std.specs.List.{list_all, list_any}
use Rattle.std.specs.Option.{option_map_or}
use Rattle.std.proofs.lemmas.List.{map-append, append-nil}
use Rattle.std.proofs.lemmas.List.Elements.{filter-append}
use Rattle.std.proofs.lemmas.Bool.{or_parts}
use Rattle.outage_schedule.specs.declared.event.Event.TheVariants as event
use Rattle.outage_schedule.specs.declared.request.RequestReport.{RequestReport}
use Rattle.world_model.specs.meaning.Clients.{Client, Doing, Past, is_unfinished, reports_of}
use Rattle.world_model.specs.meaning.Finishing.{Place, AtServer, AtOrphans, AtRound, AtClients, AtLinks, Next, first_behind, goes_or_serves, next_finish, next_round, opens_or_reaps, reaps_or_goes, serves_or_ticks}
use Rattle.world_model.specs.meaning.Links.{is_orphan}
use Rattle.world_model.specs.meaning.Machines.{Machine}
use Rattle.world_model.specs.meaning.Serving.{front_of}
use Rattle.world_model.specs.meaning.Settings.{Setting}
use Rattle.world_model.specs.Traced.{Course, course_now, course_over, courses_from, courses_of_clients}
use Rattle.world_model.proofs.Offered.{append_all, eq_to, ne_back, ne_to}

-- THE FINISH --------------------------------------------------------------------------------------

serves_on : (m : Machine) → serves_or_ticks m ≡ None → ⊥
serves_on m over = by (first_behind (λ link. is_some (front_of link)) 0 m.links) over
  where
    by : (found : Option ℕ) → option_map_or {U = Next} (λ number. Some (event.Serve number, AtLinks)) found (Some (event.Tick, AtRound)) ≡ None → ⊥
    by None over = let none : ⊥ = cc in none
    by (Some number) over = let none : ⊥ = cc in none

goes_on : (m : Machine) (last : ℕ) → goes_or_serves m last ≡ None → ⊥
goes_on m last over = by (first_behind is_unfinished last m.clients) over
  where
    by : (found : Option ℕ) → option_map_or {U = Next} (λ number. Some (event.Go number, AtClients number)) found (serves_or_ticks m) ≡ None → ⊥
    by None over = serves_on m over
    by (Some number) over = let none : ⊥ = cc in none

round_over : (m : Machine) → next_round m ≡ None → list_any is_unfinished m.clients ≡ false
round_over m over = by (list_any is_unfinished m.clients) over
  where
    by : (any : Bool) → (if any then goes_or_serves m 0 else None) ≡ None → any ≡ false
    by false over = refl
    by true over = absurd (goes_on m 0 over)

reaps_over : (m : Machine) → reaps_or_goes m ≡ None → list_any is_unfinished m.clients ≡ false
reaps_over m over = by (first_behind is_orphan 0 m.links) over
  where
    by : (found : Option ℕ) → option_map_or {U = Next} (λ number. Some (event.Reap number, AtOrphans)) found (next_round m) ≡ None → list_any is_unfinished m.clients ≡ false
    by None over = round_over m over
    by (Some number) over = absurd (let none : ⊥ = cc in none)

opens_over : (m : Machine) → opens_or_reaps m ≡ None → list_any is_unfinished m.clients ≡ false
opens_over m over = by m.server.is_up over
  where
    by : (up : Bool) → (if up then reaps_or_goes m else Some (event.Up, AtOrphans)) ≡ None → list_any is_unfinished m.clients ≡ false
    by true over = reaps_over m over
    by false over = absurd (let none : ⊥ = cc in none)

-- where the finish has no further event, no client is left unfinished
pub all_finished : (m : Machine) (place : Place) → next_finish m place ≡ None → list_any is_unfinished m.clients ≡ false
all_finished m AtServer over = opens_over m over
all_finished m AtOrphans over = reaps_over m over
all_finished m AtRound over = round_over m over
all_finished m (AtClients last) over = absurd (goes_on m last over)
all_finished m AtLinks over = absurd (serves_on m over)

-- FINISHED CLIENTS --------------------------------------------------------------------------------

-- no request is in course
none_now : (client : Client) → is_unfinished client ≡ false → is_some client.now ≡ false
none_now client is = (or_parts (is_some client.now) (is_some client.next) is).0

module _ (setting : Setting) where
  over_from : (number place : ℕ) (past : List Past) (now : Option Doing) → is_some now ≡ false → list_all (λ course. course.is_over) (courses_from setting number place past now) ≡ true
  over_from number place [] None none = refl
  over_from number place [] (Some doing) none = absurd (let never : ⊥ = cc in never)
  over_from number place (one ∷ past) now none = over_from number (place + 1) past now none

  reports_from : (number place : ℕ) (past : List Past) (now : Option Doing) → is_some now ≡ false → map (λ (course : Course). course.report) (courses_from setting number place past now) ≡ reports_of past
  reports_from number place [] None none = refl
  reports_from number place [] (Some doing) none = absurd (let never : ⊥ = cc in never)
  reports_from number place (one ∷ past) now none = ap (λ (reports : List RequestReport). one.report ∷ reports) (reports_from number (place + 1) past now none)

  pub all_over : (number : ℕ) (clients : List Client) → list_any is_unfinished clients ≡ false → list_all (λ course. course.is_over) (courses_of_clients setting number clients) ≡ true
  all_over number [] none = refl
  all_over number (client ∷ clients) none =
      let parts = or_parts (is_unfinished client) (list_any is_unfinished clients) none in
      append_all (λ (course : Course). course.is_over) (courses_from setting number 0 client.past client.now) (courses_of_clients setting (number + 1) clients)
      (over_from number 0 client.past client.now (none_now client parts.0)) (all_over (number + 1) clients parts.1)

  -- the reports of all requests are those that the clients were shown, in order
  pub all_reports : (number : ℕ) (clients : List Client) → list_any is_unfinished clients ≡ false
      → map (λ (course : Course). course.report) (courses_of_clients setting number clients) ≡ flat_map (λ transcript. transcript) (map (λ (client : Client). reports_of client.past) clients)
  all_reports number [] none = refl
  all_reports number (client ∷ clients) none =
      let parts = or_parts (is_unfinished client) (list_any is_unfinished clients) none in
      map-append (λ (course : Course). course.report) (courses_from setting number 0 client.past client.now) (courses_of_clients setting (number + 1) clients)
      ∙ (ap (λ (front : List RequestReport). front ++ map (λ (course : Course). course.report) (courses_of_clients setting (number + 1) clients)) (reports_from number 0 client.past client.now (none_now client parts.0))
      ∙ ap (λ (rest : List RequestReport). reports_of client.past ++ rest) (all_reports (number + 1) clients parts.1))

  -- BY NUMBER -------------------------------------------------------------------------------------

  abbrev is_its : ℕ → Course → Bool
  is_its number course = course.owner.client == number

  keeps : (test : Bool) (course : Course) (rest : List Course) → test ≡ true → (if test then course ∷ rest else rest) ≡ course ∷ rest
  keeps true course rest is = refl
  keeps false course rest is = absurd (let none : ⊥ = cc in none)

  drops : (test : Bool) (course : Course) (rest : List Course) → test ≡ false → (if test then course ∷ rest else rest) ≡ rest
  drops false course rest is = refl
  drops true course rest is = absurd (let none : ⊥ = cc in none)

  own_from : (number place : ℕ) (past : List Past) (now : Option Doing) → filter (is_its number) (courses_from setting number place past now) ≡ courses_from setting number place past now
  own_from number place [] None = refl
  own_from number place [] (Some doing) = keeps (number == number) (course_now setting number place doing) [] (eq_to number number refl)
  own_from number place (one ∷ past) now =
      keeps (number == number) (course_over number place one) (filter (is_its number) (courses_from setting number (place + 1) past now)) (eq_to number number refl)
      ∙ ap (λ (rest : List Course). course_over number place one ∷ rest) (own_from number (place + 1) past now)

  others_from : (other number place : ℕ) (past : List Past) (now : Option Doing) → (number == other) ≡ false → filter (is_its other) (courses_from setting number place past now) ≡ []
  others_from other number place [] None differ = refl
  others_from other number place [] (Some doing) differ = drops (number == other) (course_now setting number place doing) [] differ
  others_from other number place (one ∷ past) now differ =
      drops (number == other) (course_over number place one) (filter (is_its other) (courses_from setting number (place + 1) past now)) differ ∙ others_from other number (place + 1) past now differ

  later_none : (other number : ℕ) (clients : List Client) → other < number → filter (is_its other) (courses_of_clients setting number clients) ≡ []
  later_none other number [] below = refl
  later_none other number (client ∷ clients) below =
      filter-append (is_its other) (courses_from setting number 0 client.past client.now) (courses_of_clients setting (number + 1) clients)
      ∙ (ap (λ (front : List Course). front ++ filter (is_its other) (courses_of_clients setting (number + 1) clients)) (others_from other number 0 client.past client.now (ne_back number other below))
      ∙ later_none other (number + 1) clients (omega (arith, below)))

  -- those of one client are its own
  pub own_reports : (other number : ℕ) (clients : List Client) (index : ℕ) (client : Client) → list_any is_unfinished clients ≡ false → slice_get clients index ≡ Some client → other ≡ number + index
      → map (λ (course : Course). course.report) (filter (is_its other) (courses_of_clients setting number clients)) ≡ reports_of client.past
  own_reports other number [] index client none at same = absurd (let never : ⊥ = cc in never)
  own_reports other number (first ∷ clients) zero client none at same =
      let here : first ≡ client = cc in
      let is : number ≡ other = omega (arith, same) in
      let front : List Course = courses_from setting number 0 first.past first.now in
      let rest : List Course = courses_of_clients setting (number + 1) clients in
      let kept : filter (is_its other) front ≡ front = subst (λ (n : ℕ). filter (is_its n) front ≡ front) is (own_from number 0 first.past first.now) in
      ap (map (λ (course : Course). course.report))
      (filter-append (is_its other) front rest ∙ (ap (λ (list : List Course). list ++ filter (is_its other) rest) kept
      ∙ (ap (λ (list : List Course). front ++ list) (later_none other (number + 1) clients (omega (arith, is))) ∙ append-nil front)))
      ∙ (reports_from number 0 first.past first.now (none_now first (or_parts (is_unfinished first) (list_any is_unfinished clients) none).0) ∙ ap (λ (one : Client). reports_of one.past) here)
  own_reports other number (first ∷ clients) (suc index) client none at same =
      let front : List Course = courses_from setting number 0 first.past first.now in
      let rest : List Course = courses_of_clients setting (number + 1) clients in
      let below : number < other = omega (arith, same) in
      ap (map (λ (course : Course). course.report))
      (filter-append (is_its other) front rest ∙ ap (λ (list : List Course). list ++ filter (is_its other) rest) (others_from other number 0 first.past first.now (ne_to number other below)))
      ∙ own_reports other (number + 1) clients index client (or_parts (is_unfinished first) (list_any is_unfinished clients) none).1 at (omega (arith, same))
