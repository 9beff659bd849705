-- The events that notes and items tell grow by one with each note and the items of its event, which
-- stand behind all others.
use Rattle.std.proofs.Common.{◌≡◌, refl, sym, ap, subst, ◌∙◌, append-nil, append_assoc, Bool, true, false, ℕ, ◌+◌, ◌<◌, cond, length, List, [], ◌∷◌, ◌++◌, filter, fold, arith}
use Rattle.std.specs.Prelude.{◌==◌, nat_lt}
use Rattle.std.specs.List.{list_all}
use Rattle.std.proofs.lemmas.Bool.{and_parts}
use Rattle.std.proofs.lemmas.Bool.Decides.{nat_tests}
use Rattle.std.proofs.lemmas.List.Sums.{fold-append}
use Rattle.outage_schedule.specs.declared.item.Served.{Served}
use Rattle.outage_schedule.specs.declared.note.Note.{Note}
use Rattle.shown_clauses.specs.meaning.Fronts.{front_from, front_of, rest_from, rest_of}
use Rattle.shown_clauses.specs.meaning.Happenings.{Happening, tick_after, is_up_to, items_at, happenings_from}
use Rattle.shown_clauses.specs.meaning.Links.{Seen, nothing_seen, after_happening}
use Rattle.shown_clauses.specs.meaning.Steps.{Step, steps_from}
use Rattle.shown_laws.specs.Telling.{events_told, seen_after, ticks_told, event_told, steps_in}

-- NUMBERS -----------------------------------------------------------------------------------------

abbrev is_below : ℕ → Served → Bool
is_below limit one = nat_lt one.event limit

abbrev is_at : ℕ → Served → Bool
is_at event one = one.event == event

past_it : (event late : ℕ) (one : Served) → event < late → is_at late one ≡ true → is_up_to event one ≡ false
past_it event late one below is = grind (arith, nat_tests, below, is)

up_to_it : (event : ℕ) (one : Served) → is_at event one ≡ true → is_up_to event one ≡ true
up_to_it event one is = grind (arith, nat_tests, is)

before_it : (event : ℕ) (one : Served) → is_below event one ≡ true → is_up_to event one ≡ true
before_it event one is = grind (arith, nat_tests, is)

not_at : (event : ℕ) (one : Served) → is_below event one ≡ true → is_at event one ≡ false
not_at event one is = grind (arith, nat_tests, is)

-- FRONTS ------------------------------------------------------------------------------------------

-- none of those that come last is in front
none_in_front : (event late : ℕ) (more : List Served) → event < late → list_all (is_at late) more ≡ true → (front_of (is_up_to event) more ≡ []) × (rest_of (is_up_to event) more ≡ more)
none_in_front event late [] below all = (refl, refl)
none_in_front event late (one ∷ more) below all =
    let past : is_up_to event one ≡ false = past_it event late one below (and_parts (is_at late one) (list_all (is_at late) more) all).0 in
    (ap (λ (test : Bool). front_from (is_up_to event) test one more) past, ap (λ (test : Bool). rest_from (is_up_to event) test one more) past)

-- The items of a later event behind the others change nothing of this one.
front_more : (event late : ℕ) (items more : List Served) → event < late → list_all (is_at late) more ≡ true
    → (front_of (is_up_to event) (items ++ more) ≡ front_of (is_up_to event) items) × (rest_of (is_up_to event) (items ++ more) ≡ rest_of (is_up_to event) items ++ more)
front_more event late [] more below all = none_in_front event late more below all
front_more event late (one ∷ items) more below all = by (is_up_to event one) items (front_more event late items more below all)
  where
    by : (test : Bool) (items : List Served) → (front_of (is_up_to event) (items ++ more) ≡ front_of (is_up_to event) items) × (rest_of (is_up_to event) (items ++ more) ≡ rest_of (is_up_to event) items ++ more)
        → (front_from (is_up_to event) test one (items ++ more) ≡ front_from (is_up_to event) test one items) × (rest_from (is_up_to event) test one (items ++ more) ≡ rest_from (is_up_to event) test one items ++ more)
    by false items same = (refl, refl)
    by true [] same = (from_front more same.0, from_rest more same.1)
      where
        from_front : (more : List Served) → front_of (is_up_to event) more ≡ [] → front_from (is_up_to event) true one more ≡ one ∷ []
        from_front [] none = refl
        from_front (next ∷ more) none = ap (λ (rest : List Served). one ∷ rest) none

        from_rest : (more : List Served) → rest_of (is_up_to event) more ≡ more → rest_from (is_up_to event) true one more ≡ more
        from_rest [] none = refl
        from_rest (next ∷ more) none = none
    by true (next ∷ items) same = (ap (λ (rest : List Served). one ∷ rest) same.0, same.1)

-- those in front are of this event or earlier ones, and what is behind is among the others
rest_below : (event limit : ℕ) (items : List Served) → list_all (is_below limit) items ≡ true → list_all (is_below limit) (rest_of (is_up_to event) items) ≡ true
rest_below event limit [] all = refl
rest_below event limit (one ∷ items) all = by (is_up_to event one) items all (rest_below event limit items (and_parts (is_below limit one) (list_all (is_below limit) items) all).1)
  where
    by : (test : Bool) (items : List Served) → list_all (is_below limit) (one ∷ items) ≡ true → list_all (is_below limit) (rest_of (is_up_to event) items) ≡ true → list_all (is_below limit) (rest_from (is_up_to event) test one items) ≡ true
    by false items all rest = all
    by true [] all rest = refl
    by true (next ∷ items) all rest = rest

-- THE LAST EVENT ----------------------------------------------------------------------------------

all_at : (event : ℕ) (more : List Served) → list_all (is_at event) more ≡ true → filter (is_at event) (front_of (is_up_to event) more) ≡ more
all_at event [] all = refl
all_at event (one ∷ more) all =
    let parts = and_parts (is_at event one) (list_all (is_at event) more) all in
    ap (λ (test : Bool). filter (is_at event) (front_from (is_up_to event) test one more)) (up_to_it event one parts.0) ∙ by more (all_at event more parts.1) parts.0
  where
    by : (more : List Served) → filter (is_at event) (front_of (is_up_to event) more) ≡ more → is_at event one ≡ true → filter (is_at event) (front_from (is_up_to event) true one more) ≡ one ∷ more
    by [] same here = ap (λ (test : Bool). cond test (one ∷ []) []) here
    by (next ∷ more) same here =
        ap (λ (test : Bool). cond test (one ∷ filter (is_at event) (front_of (is_up_to event) (next ∷ more))) (filter (is_at event) (front_of (is_up_to event) (next ∷ more)))) here
        ∙ ap (λ (rest : List Served). one ∷ rest) same

-- Of the last event are those that come last.
last_items : (event : ℕ) (items more : List Served) → list_all (is_below event) items ≡ true → list_all (is_at event) more ≡ true → items_at event (items ++ more) ≡ more
last_items event [] more below all = all_at event more all
last_items event (one ∷ items) more below all =
    let parts = and_parts (is_below event one) (list_all (is_below event) items) below in
    ap (λ (test : Bool). filter (is_at event) (front_from (is_up_to event) test one (items ++ more))) (before_it event one parts.0)
    ∙ by (items ++ more) (not_at event one parts.0) (last_items event items more parts.1 all)
  where
    by : (rest : List Served) → is_at event one ≡ false → filter (is_at event) (front_of (is_up_to event) rest) ≡ more → filter (is_at event) (front_from (is_up_to event) true one rest) ≡ more
    by [] other same = ap (λ (test : Bool). cond test (one ∷ []) []) other ∙ same
    by (next ∷ rest) other same =
        ap (λ (test : Bool). cond test (one ∷ filter (is_at event) (front_of (is_up_to event) (next ∷ rest))) (filter (is_at event) (front_of (is_up_to event) (next ∷ rest)))) other ∙ same

-- EVENTS ------------------------------------------------------------------------------------------

abbrev at_end : ℕ → ℕ → List Note → Note → List Served → Happening
at_end event tick notes last more = record { event = event + length notes; tick = fold tick_after tick notes; noted = last; items = more }

happenings_more : (event tick : ℕ) (notes : List Note) (last : Note) (items more : List Served) → list_all (is_below (event + length notes)) items ≡ true → list_all (is_at (event + length notes)) more ≡ true
    → happenings_from event tick (notes ++ last ∷ []) (items ++ more) ≡ happenings_from event tick notes items ++ at_end event tick notes last more ∷ []
happenings_more event tick [] last items more below all =
    let same : event + 0 ≡ event = omega arith in
    ap (λ (own : List Served). record { event = event; tick = tick; noted = last; items = own } ∷ [])
    (last_items event items more (subst (λ (n : ℕ). list_all (is_below n) items ≡ true) same below) (subst (λ (n : ℕ). list_all (is_at n) more ≡ true) same all))
    ∙ ap (λ (n : ℕ). record { event = n; tick = tick; noted = last; items = more } ∷ []) (sym same)
happenings_more event tick (first ∷ notes) last items more below all =
    let same : event + length (first ∷ notes) ≡ (event + 1) + length notes = omega arith in
    let past : event < event + length (first ∷ notes) = omega arith in
    let front = front_more event (event + length (first ∷ notes)) items more past all in
    let rest : List Served = rest_of (is_up_to event) items in
    ap (λ (own : List Served). record { event = event; tick = tick; noted = first; items = filter (is_at event) own } ∷ happenings_from (event + 1) (tick_after tick first) (notes ++ last ∷ []) (rest_of (is_up_to event) (items ++ more))) front.0
    ∙ (ap (λ (own : List Served). record { event = event; tick = tick; noted = first; items = items_at event items } ∷ happenings_from (event + 1) (tick_after tick first) (notes ++ last ∷ []) own) front.1
    ∙ (ap (λ (own : List Happening). record { event = event; tick = tick; noted = first; items = items_at event items } ∷ own)
    (happenings_more (event + 1) (tick_after tick first) notes last rest more
    (subst (λ (n : ℕ). list_all (is_below n) rest ≡ true) same (rest_below event (event + length (first ∷ notes)) items below))
    (subst (λ (n : ℕ). list_all (is_at n) more ≡ true) same all))
    ∙ ap (λ (n : ℕ). record { event = event; tick = tick; noted = first; items = items_at event items } ∷ (happenings_from (event + 1) (tick_after tick first) notes rest ++ record { event = n; tick = fold tick_after (tick_after tick first) notes; noted = last; items = more } ∷ [])) (sym same)))

-- One event more, with its note and its items.
pub events_more : (notes : List Note) (last : Note) (items more : List Served) → list_all (λ one. nat_lt one.event (length notes + 1)) items ≡ true → list_all (λ one. one.event == length notes + 1) more ≡ true
    → events_told (notes ++ last ∷ []) (items ++ more) ≡ events_told notes items ++ event_told (length notes) (ticks_told notes) last more ∷ []
events_more notes last items more below all =
    let same : 1 + length notes ≡ length notes + 1 = omega arith in
    happenings_more 1 0 notes last items more (subst (λ (n : ℕ). list_all (is_below n) items ≡ true) (sym same) below) (subst (λ (n : ℕ). list_all (is_at n) more ≡ true) (sym same) all)
    ∙ ap (λ (n : ℕ). events_told notes items ++ record { event = n; tick = ticks_told notes; noted = last; items = more } ∷ []) same

-- WHAT THEY COME TO -------------------------------------------------------------------------------

pub seen_more : (happenings : List Happening) (last : Happening) → seen_after nothing_seen (happenings ++ last ∷ []) ≡ after_happening (seen_after nothing_seen happenings) last
seen_more happenings last = fold-append after_happening nothing_seen happenings (last ∷ [])

pub steps_more : (seen : Seen) (happenings : List Happening) (last : Happening) → steps_from seen (happenings ++ last ∷ []) ≡ steps_from seen happenings ++ steps_in (seen_after seen happenings) last
steps_more seen [] last = append-nil (steps_in seen last)
steps_more seen (first ∷ happenings) last =
    ap (λ (rest : List Step). steps_in seen first ++ rest) (steps_more (after_happening seen first) happenings last)
    ∙ sym (append_assoc (steps_in seen first) (steps_from (after_happening seen first) happenings) (steps_in (seen_after (after_happening seen first) happenings) last))
