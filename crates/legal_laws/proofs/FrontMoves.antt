-- How the reading of a report comes to an event: with the ticks and the connections that the notes
-- and the items before it tell, and with the events of the schedule from it on.
use Rattle.std.proofs.Common.{◌≡◌, refl, sym, ap, ◌∙◌, ℕ, ◌+◌, ◌<◌, Bool, true, false, length, List, [], ◌∷◌, ◌++◌, arith}
use Rattle.std.specs.Prelude.{◌==◌, nat_lt}
use Rattle.std.proofs.lemmas.Bool.Decides.{nat_tests}
use Rattle.std.proofs.lemmas.List.{length_push}
use Rattle.std.proofs.lemmas.List.Sums.{fold-append}
use Rattle.outage_schedule.specs.declared.event.Event.{Event}
use Rattle.outage_schedule.specs.declared.item.Served.{Served}
use Rattle.outage_schedule.specs.declared.note.Note.{Note}
use Rattle.shown_clauses.specs.meaning.Fronts.{rest_items}
use Rattle.shown_clauses.specs.meaning.Happenings.{tick_after}
use Rattle.shown_clauses.specs.meaning.Links.{Seen}
use Rattle.shown_clauses.specs.meaning.Places.{Place, Front, with_note, behind, reach_from, reach, tick_if, tick_at, noted_if, noted_at, with_seen}
use Rattle.shown_laws.specs.Telling.{seen_told, ticks_told}

-- NUMBERS -----------------------------------------------------------------------------------------

pub below_is : (a b : ℕ) → a < b → nat_lt a b ≡ true
below_is a b below = grind (arith, nat_tests)

pub same_not_below : (a b : ℕ) → a ≡ b → nat_lt a b ≡ false
same_not_below a b same = grind (arith, nat_tests)

pub same_is : (a b : ℕ) → a ≡ b → (a == b) ≡ true
same_is a b same = grind (arith, nat_tests)

-- LISTS -------------------------------------------------------------------------------------------

-- the second list without as many as the first one has
abbrev pub rest_behind : {A B : Type 0} → List A → List B → List B
rest_behind [] xs = xs
rest_behind (a ∷ before) xs = rest_behind before (rest_items xs)

pub one_further : {A B : Type 0} (before : List A) (a : A) (xs : List B) → rest_items (rest_behind before xs) ≡ rest_behind (before ++ a ∷ []) xs
one_further [] a xs = refl
one_further (b ∷ before) a xs = one_further before a (rest_items xs)

-- PLACES ------------------------------------------------------------------------------------------

-- the place behind these notes and items, and the front there
abbrev pub place_told : List Event → List Note → List Served → Place
place_told schedule notes items = record { event = length notes + 1; tick = ticks_told notes; schedule = rest_behind notes schedule; seen = seen_told notes items }

abbrev pub front_told : List Event → List Note → List Served → List Note → Front
front_told schedule notes items others = record { place = place_told schedule notes items; notes = others }

-- from both it comes to the same place at each event behind so many
abbrev pub Comes : Front → Front → ℕ → Type 0
Comes a b before = (event : ℕ) → before < event → reach event a ≡ reach event b

-- at its own event it stays
pub stays_at : (event : ℕ) (notes : List Note) (place : Place) → place.event ≡ event → reach event (record { place = place; notes = notes }) ≡ record { place = place; notes = notes }
stays_at event [] place same = refl
stays_at event (first ∷ notes) place same = ap (λ (test : Bool). reach_from event test first notes place) (same_not_below place.event event same)

-- a later one is behind its note
pub passes : (event : ℕ) (first : Note) (notes : List Note) (place : Place) → place.event < event → reach event (record { place = place; notes = first ∷ notes }) ≡ reach event (record { place = behind first place; notes = notes })
passes event first [] place below = ap (λ (test : Bool). reach_from event test first [] place) (below_is place.event event below)
passes event first (next ∷ notes) place below = ap (λ (test : Bool). reach_from event test first (next ∷ notes) place) (below_is place.event event below)

-- the tick there is that of the place
pub tick_here : (all notes : List Note) (event : ℕ) (place : Place) → place.event ≡ event → tick_at all (record { place = place; notes = notes }) event ≡ place.tick
tick_here all notes event place same = ap (λ (test : Bool). tick_if test place.tick event all) (same_not_below event place.event (sym same))

-- and the note is the first one
pub noted_here : (event : ℕ) (first : Note) (notes : List Note) (place : Place) → place.event ≡ event → noted_at (record { place = place; notes = first ∷ notes }) event ≡ first
noted_here event first notes place same = ap (λ (test : Bool). noted_if test (first ∷ notes)) (same_is place.event event same)

-- AN EVENT ----------------------------------------------------------------------------------------

-- Behind the event it comes on with what the event told of connections.
pub comes_behind : (schedule : List Event) (notes : List Note) (items more : List Served) (first : Note) (others : List Note) (seen : Seen) → with_note (length notes + 1) first seen ≡ seen_told (notes ++ first ∷ []) (items ++ more)
    → Comes (record { place = with_seen (place_told schedule notes items) seen; notes = first ∷ others }) (front_told schedule (notes ++ first ∷ []) (items ++ more) others) (length notes + 1)
comes_behind schedule notes items more first others seen tells event below =
    passes event first others (with_seen (place_told schedule notes items) seen) below
    ∙ ap (λ (place : Place). reach event (record { place = place; notes = others })) same
  where
    counts : (length notes + 1) + 1 ≡ length (notes ++ first ∷ []) + 1
    counts = ap (λ (n : ℕ). n + 1) (sym (length_push notes first))

    ticks : tick_after (ticks_told notes) first ≡ ticks_told (notes ++ first ∷ [])
    ticks = sym (fold-append tick_after 0 notes (first ∷ []))

    same : behind first (with_seen (place_told schedule notes items) seen) ≡ place_told schedule (notes ++ first ∷ []) (items ++ more)
    same = λ i. record { event = counts i; tick = ticks i; schedule = one_further notes first schedule i; seen = tells i }
