-- The moments of a report that was read are of events that do not fall, each of which has its note.
use Rattle.std.proofs.Common.{◌≡◌, refl, ℕ, zero, suc, ◌+◌, ◌-◌, ◌<◌, ◌≤◌, Bool, true, false, length, List, [], ◌∷◌, ◌++◌, Some, if◌then◌else◌, arith}
use Rattle.std.specs.Prelude.{nat_lt, slice_get}
use Rattle.std.specs.Option.{option_map_or}
use Rattle.std.proofs.lemmas.Bool.{and_parts, ltb-true, ltb-false}
use Rattle.outage_schedule.specs.declared.item.Served.{Served}
use Rattle.outage_schedule.specs.declared.note.Note.{Note}
use Rattle.outage_schedule.specs.declared.note.Note.TheVariants as note
use Rattle.outage_schedule.specs.declared.report.Report.{Report}
use Rattle.told_reports.specs.Keeping.{IsTold, word_of_item, events_fit}
use Rattle.told_reports.specs.meaning.Places.{fits_event, note_of, may_stand}
use Rattle.run_clauses.specs.meaning.Moments.{HappenedAt, moments_of_notes, moment_of_item, before_event, from_event, in_order, moments}

-- from an event on, and up to another one
abbrev pub Rises : ℕ → ℕ → List HappenedAt → Type 0
Rises from last [] = Unit {0}
Rises from last (moment ∷ more) = (from ≤ moment.event) × ((moment.event ≤ last) × Rises moment.event last more)

rises_from : (from before last : ℕ) (all : List HappenedAt) → before ≤ from → Rises from last all → Rises before last all
rises_from from before last [] most rises = tt
rises_from from before last (moment ∷ more) most rises = let begins = rises.0 in (omega (arith, most, begins), rises.1)

-- ---- notes

notes_rise : (event last : ℕ) (notes : List Note) → event + length notes ≤ last + 1 → Rises event last (moments_of_notes event notes)
notes_rise event last [] within = tt
notes_rise event last (note.Outside (Some ran) ∷ notes) within =
    (omega arith, (omega (arith, within), rises_from (event + 1) event last (moments_of_notes (event + 1) notes) (omega arith) (notes_rise (event + 1) last notes (omega (arith, within)))))
notes_rise event last (note.Ask x (Some told) ∷ notes) within =
    (omega arith, (omega (arith, within), rises_from (event + 1) event last (moments_of_notes (event + 1) notes) (omega arith) (notes_rise (event + 1) last notes (omega (arith, within)))))
notes_rise event last (one ∷ notes) within = rises_from (event + 1) event last (moments_of_notes (event + 1) notes) (omega arith) (notes_rise (event + 1) last notes (omega (arith, within)))

-- ---- a moment among others

placed : (from last : ℕ) (one : HappenedAt) (behind all : List HappenedAt) → from ≤ one.event → one.event ≤ last → Rises one.event last behind → Rises from last all
    → Rises from last (before_event one.event all ++ one ∷ behind)
placed from last one behind [] begins ends later rises = (begins, (ends, later))
placed from last one behind (moment ∷ more) begins ends later rises =
    by (nat_lt moment.event one.event) refl (λ (most : moment.event ≤ one.event). placed moment.event last one behind more most ends later rises.1.1)
  where
    by : (test : Bool) → nat_lt moment.event one.event ≡ test
        → (moment.event ≤ one.event → Rises moment.event last (before_event one.event more ++ one ∷ behind))
        → Rises from last ((if test then moment ∷ before_event one.event more else []) ++ one ∷ behind)
    by true is others = let below = ltb-true moment.event one.event is in (rises.0, (rises.1.0, others (omega (arith, below))))
    by false is others = (begins, (ends, later))

left_over : (event from last : ℕ) (all : List HappenedAt) → Rises from last all → Rises event last (from_event event all)
left_over event from last [] rises = tt
left_over event from last (moment ∷ more) rises = by (nat_lt moment.event event) refl (left_over event moment.event last more rises.1.1)
  where
    by : (test : Bool) → nat_lt moment.event event ≡ test → Rises event last (from_event event more) → Rises event last (if test then from_event event more else moment ∷ more)
    by true is others = others
    by false is others = (ltb-false moment.event event is, rises.1)

-- ---- served items

is_there : (n : ℕ) (notes : List Note) (test : Note → Bool) → option_map_or test (slice_get notes n) false ≡ true → n < length notes
is_there n [] test is = absurd (let never : ⊥ = cc in never)
is_there zero (one ∷ notes) test is = omega arith
is_there (suc n) (one ∷ notes) test is = let more = is_there n notes test is in omega (arith, more)

order_rises : (notes : List Note) (items : List Served) (before from : ℕ) (all : List HappenedAt) → events_fit notes before items ≡ true → from ≤ before + 1
    → Rises from (length notes) all → Rises from (length notes) (in_order items all)
order_rises notes [] before from all fit most rises = rises
order_rises notes (one ∷ items) before from all fit most rises =
    let parts = and_parts (fits_event notes (word_of_item one.item) before one.event) (events_fit notes one.event items) fit in
    let here = and_parts (nat_lt before one.event) (option_map_or (λ (noted : Note). may_stand noted (word_of_item one.item)) (note_of notes one.event) false) parts.0 in
    let above = ltb-true before one.event here.0 in
    let within = is_there (one.event - 1) notes (λ (noted : Note). may_stand noted (word_of_item one.item)) here.1 in
    placed from (length notes) (moment_of_item one) (in_order items (from_event one.event all)) all (omega (arith, above, most)) (omega (arith, within))
    (order_rises notes items one.event one.event (from_event one.event all) parts.1 (omega arith) (left_over one.event from (length notes) all rises)) rises

pub moments_rise : (report : Report) → IsTold report → Rises 1 (length report.notes) (moments report)
moments_rise report told =
    order_rises report.notes report.served 0 1 (moments_of_notes 1 report.notes) told.events (omega arith) (notes_rise 1 (length report.notes) report.notes (omega arith))
