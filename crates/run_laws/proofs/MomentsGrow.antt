-- What a run tells of its sessions grows event by event: what an event tells stands behind all that
-- was told before it.
use Rattle.std.proofs.Common.{◌≡◌, refl, sym, ap, ◌∙◌, append-nil, append_assoc, Bool, true, false, ℕ, ◌+◌, ◌<◌, ◌≤◌, length, List, [], ◌∷◌, ◌++◌, map, Some, arith, if◌then◌else◌}
use Rattle.std.specs.Prelude.{◌==◌, not, nat_lt}
use Rattle.std.specs.List.{list_all}
use Rattle.std.proofs.lemmas.Bool.{and_parts, and_from, not-true}
use Rattle.std.proofs.lemmas.Bool.Decides.{nat_tests}
use Rattle.outage_schedule.specs.declared.item.Served.{Served}
use Rattle.outage_schedule.specs.declared.note.Note.{Note}
use Rattle.outage_schedule.specs.declared.note.Note.TheVariants as note
use Rattle.run_clauses.specs.meaning.Moments.{HappenedAt, moment_of_note, moments_of_notes, moment_of_item, before_event, from_event, in_order}
use Rattle.world_model.proofs.Offered.{append_all, weaker_all, eq_from, lt_from, lt_to}

-- what these notes and items tell
abbrev pub moments_of : List Note → List Served → List HappenedAt
moments_of notes items = in_order items (moments_of_notes 1 notes)

-- what one event tells
abbrev pub event_moments : ℕ → Note → List Served → List HappenedAt
event_moments event note items = map moment_of_item items ++ moment_of_note event note

abbrev pub is_before : ℕ → HappenedAt → Bool
is_before event moment = nat_lt moment.event event

abbrev is_from : ℕ → HappenedAt → Bool
is_from event moment = not (nat_lt moment.event event)

-- NOTES -------------------------------------------------------------------------------------------

notes_more : (first : ℕ) (notes : List Note) (note : Note) → moments_of_notes first (notes ++ note ∷ []) ≡ moments_of_notes first notes ++ moment_of_note (first + length notes) note
notes_more first [] note = let same : first ≡ first + 0 = omega arith in append-nil (moment_of_note first note) ∙ ap (λ (event : ℕ). moment_of_note event note) same
notes_more first (one ∷ notes) note =
    let same : (first + 1) + length notes ≡ first + length (one ∷ notes) = omega arith in
    ap (λ (rest : List HappenedAt). moment_of_note first one ++ rest) (notes_more (first + 1) notes note ∙ ap (λ (event : ℕ). moments_of_notes (first + 1) notes ++ moment_of_note event note) same)
    ∙ sym (append_assoc (moment_of_note first one) (moments_of_notes (first + 1) notes) (moment_of_note (first + length (one ∷ notes)) note))

note_before : (first event : ℕ) (one : Note) → first < event → list_all (is_before event) (moment_of_note first one) ≡ true
note_before first event (note.Outside (Some ran)) below = and_from (nat_lt first event) true (lt_to first event below) refl
note_before first event (note.Ask x (Some told)) below = and_from (nat_lt first event) true (lt_to first event below) refl
note_before first event one below = refl

notes_before : (first event : ℕ) (notes : List Note) → first + length notes ≤ event → list_all (is_before event) (moments_of_notes first notes) ≡ true
notes_before first event [] below = refl
notes_before first event (one ∷ notes) below =
    let here : first < event = omega (arith, below) in
    let later : (first + 1) + length notes ≤ event = omega (arith, below) in
    append_all (is_before event) (moment_of_note first one) (moments_of_notes (first + 1) notes) (note_before first event one here) (notes_before (first + 1) event notes later)

not_below : (event : ℕ) → not (nat_lt event event) ≡ true
not_below event = grind (arith, nat_tests)

note_from : (event : ℕ) (one : Note) → list_all (is_from event) (moment_of_note event one) ≡ true
note_from event (note.Outside (Some ran)) = and_from (not (nat_lt event event)) true (not_below event) refl
note_from event (note.Ask x (Some told)) = and_from (not (nat_lt event event)) true (not_below event) refl
note_from event one = refl

from_earlier : (early event : ℕ) (moment : HappenedAt) → early < event → is_from event moment ≡ true → is_from early moment ≡ true
from_earlier early event moment below is = grind (arith, nat_tests, below, is)

-- THE ORDER ---------------------------------------------------------------------------------------

-- Those that come last are of later events.
split_more : (event : ℕ) (old last : List HappenedAt) → list_all (is_from event) last ≡ true → (before_event event (old ++ last) ≡ before_event event old) × (from_event event (old ++ last) ≡ from_event event old ++ last)
split_more event [] [] later = (refl, refl)
split_more event [] (moment ∷ last) later =
    let here : nat_lt moment.event event ≡ false = not-true (nat_lt moment.event event) (and_parts (is_from event moment) (list_all (is_from event) last) later).0 in
    (ap (λ (test : Bool). if test then moment ∷ before_event event last else []) here, ap (λ (test : Bool). if test then from_event event last else moment ∷ last) here)
split_more event (moment ∷ old) last later = by (nat_lt moment.event event) (split_more event old last later)
  where
    by : (test : Bool) → (before_event event (old ++ last) ≡ before_event event old) × (from_event event (old ++ last) ≡ from_event event old ++ last)
        → ((if test then moment ∷ before_event event (old ++ last) else []) ≡ (if test then moment ∷ before_event event old else []))
        × ((if test then from_event event (old ++ last) else moment ∷ (old ++ last)) ≡ (if test then from_event event old else moment ∷ old) ++ last)
    by true same = (ap (λ (rest : List HappenedAt). moment ∷ rest) same.0, same.1)
    by false same = (refl, refl)

split_whole : (event : ℕ) (old last : List HappenedAt) → list_all (is_before event) old ≡ true → list_all (is_from event) last ≡ true → (before_event event (old ++ last) ≡ old) × (from_event event (old ++ last) ≡ last)
split_whole event [] last earlier later = split_more event [] last later
split_whole event (moment ∷ old) last earlier later =
    let parts = and_parts (is_before event moment) (list_all (is_before event) old) earlier in
    let same = split_whole event old last parts.1 later in (
      ap (λ (test : Bool). if test then moment ∷ before_event event (old ++ last) else []) parts.0 ∙ ap (λ (rest : List HappenedAt). moment ∷ rest) same.0,
      ap (λ (test : Bool). if test then from_event event (old ++ last) else moment ∷ (old ++ last)) parts.0 ∙ same.1,
    )

from_keeps : (event : ℕ) (test : HappenedAt → Bool) (old : List HappenedAt) → list_all test old ≡ true → list_all test (from_event event old) ≡ true
from_keeps event test [] all = refl
from_keeps event test (moment ∷ old) all = by (nat_lt moment.event event) (from_keeps event test old (and_parts (test moment) (list_all test old) all).1)
  where
    by : (earlier : Bool) → list_all test (from_event event old) ≡ true → list_all test (if earlier then from_event event old else moment ∷ old) ≡ true
    by true rest = rest
    by false rest = all

abbrev is_now : ℕ → Served → Bool
is_now event one = one.event == event

abbrev was_before : ℕ → Served → Bool
was_before event one = nat_lt one.event event

items_now : (event : ℕ) (more : List Served) (last : List HappenedAt) → list_all (is_now event) more ≡ true → list_all (is_from event) last ≡ true → in_order more last ≡ map moment_of_item more ++ last
items_now event [] last now later = refl
items_now event (one ∷ more) last now later =
    let parts = and_parts (is_now event one) (list_all (is_now event) more) now in
    let same = split_more event [] last later in
    ap (λ (at : ℕ). before_event at last ++ moment_of_item one ∷ in_order more (from_event at last)) (eq_from one.event event parts.0)
    ∙ ((λ i. same.0 i ++ moment_of_item one ∷ in_order more (same.1 i)) ∙ ap (λ (rest : List HappenedAt). moment_of_item one ∷ rest) (items_now event more last parts.1 later))

more_in_order : (event : ℕ) (items more : List Served) (old last : List HappenedAt) → list_all (was_before event) items ≡ true → list_all (is_now event) more ≡ true → list_all (is_before event) old ≡ true → list_all (is_from event) last ≡ true
    → in_order (items ++ more) (old ++ last) ≡ in_order items old ++ (map moment_of_item more ++ last)
more_in_order event [] [] old last were now earlier later = refl
more_in_order event [] (one ∷ more) old last were now earlier later =
    let parts = and_parts (is_now event one) (list_all (is_now event) more) now in
    let same = split_whole event old last earlier later in
    ap (λ (at : ℕ). before_event at (old ++ last) ++ moment_of_item one ∷ in_order more (from_event at (old ++ last))) (eq_from one.event event parts.0)
    ∙ ((λ i. same.0 i ++ moment_of_item one ∷ in_order more (same.1 i)) ∙ ap (λ (rest : List HappenedAt). old ++ moment_of_item one ∷ rest) (items_now event more last parts.1 later))
more_in_order event (one ∷ items) more old last were now earlier later =
    let parts = and_parts (was_before event one) (list_all (was_before event) items) were in
    let below : one.event < event = lt_from one.event event parts.0 in
    let same = split_more one.event old last (weaker_all (is_from event) (is_from one.event) last (λ moment. from_earlier one.event event moment below) later) in
    (λ i. same.0 i ++ moment_of_item one ∷ in_order (items ++ more) (same.1 i))
    ∙ (ap (λ (rest : List HappenedAt). before_event one.event old ++ moment_of_item one ∷ rest)
    (more_in_order event items more (from_event one.event old) last parts.1 now (from_keeps one.event (is_before event) old earlier) later)
    ∙ sym (append_assoc (before_event one.event old) (moment_of_item one ∷ in_order items (from_event one.event old)) (map moment_of_item more ++ last)))

-- One more event, with its note and the items that it served.
pub moments_more : (notes : List Note) (note : Note) (items more : List Served) → list_all (λ one. nat_lt one.event (length notes + 1)) items ≡ true → list_all (λ one. one.event == length notes + 1) more ≡ true
    → moments_of (notes ++ note ∷ []) (items ++ more) ≡ moments_of notes items ++ event_moments (length notes + 1) note more
moments_more notes note items more were now =
    let same : 1 + length notes ≡ length notes + 1 = omega arith in
    let most : 1 + length notes ≤ length notes + 1 = omega arith in
    ap (in_order (items ++ more)) (notes_more 1 notes note ∙ ap (λ (event : ℕ). moments_of_notes 1 notes ++ moment_of_note event note) same)
    ∙ more_in_order (length notes + 1) items more (moments_of_notes 1 notes) (moment_of_note (length notes + 1) note) were now
    (notes_before 1 (length notes + 1) notes most) (note_from (length notes + 1) note)
