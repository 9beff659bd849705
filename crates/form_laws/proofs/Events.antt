-- The events of served items rise, and each names a note at which its item may stand.
use Rattle.std.proofs.Common.{◌≡◌, ◌∙◌, ℕ, zero, suc, ◌+◌, ◌-◌, ◌≤◌, Bool, true, List, [], ◌∷◌, drop, Option, Some, refl, sym, ap, subst, arith, add-one}
use Rattle.std.specs.Prelude.{nat_lt, slice_get}
use Rattle.std.specs.Option.{option_map_or}
use Rattle.std.proofs.lemmas.Bool.{and_from}
use Rattle.outage_schedule.specs.declared.event.Event.{Event}
use Rattle.outage_schedule.specs.declared.item.Served.{Served}
use Rattle.outage_schedule.specs.declared.note.Note.{Note}
use Rattle.told_reports.specs.meaning.Places.{may_stand, note_of, fits_event}
use Rattle.told_reports.specs.Keeping.{events_fit, word_of_item}
use Rattle.world_model.specs.meaning.Machines.{Machine}
use Rattle.world_model.specs.meaning.Matching.{Noted}
use Rattle.world_model.specs.meaning.Settings.{Setting, setting_of}
use Rattle.world_model.specs.meaning.Walking.{follow}
use Rattle.world_model.proofs.Offered.{lt_to, at_event, follow_happens, goes_same, Happens, Nothing, IsStep, Serves, Cuts, Reaps, Crashes, OpensUp, StopsOpening, Ticks, RunsOutside, MovesAsks, Drains, ServesLast, LastNone, LastStopped, LastServed}
use Rattle.form_laws.specs.Laws.{EventsAreFit}
use Rattle.form_laws.proofs.Takes.{Took, NoItem, OneItem, follow_takes}
use Rattle.form_laws.proofs.Walks.{EachTells, followed_tells}

-- ---- the number of an event

last_event : (m : Machine) (number after : ℕ) (items left : List Served) (a : Machine) → ServesLast m number after items left a → a.event ≡ m.event
last_event m number after items left _ (LastNone same) = refl
last_event m number after items left _ (LastStopped front served is stopped same) = refl
last_event m number after items left _ (LastServed front served is over same) = refl

event_kept : (setting : Setting) (m : Machine) (items left : List Served) (happened : Noted) (n : Machine) → Happens setting m items left happened n → n.event ≡ m.event
event_kept setting m items left happened _ (Nothing kind quiet) = refl
event_kept setting m items left happened _ (IsStep number did n moves) = (goes_same setting m number n moves).event
event_kept setting m items left happened _ (Serves number frame front served is ordinary same) = refl
event_kept setting m items left happened _ (Cuts number up down reached link is) = refl
event_kept setting m items left happened _ (Reaps number reaped orphan) = refl
event_kept setting m items left happened _ (Crashes number after failover down a up last) = last_event m number after items left a last
event_kept setting m items left happened _ (OpensUp incarnation down may) = refl
event_kept setting m items left happened _ (StopsOpening made down) = refl
event_kept setting m items left happened _ Ticks = refl
event_kept setting m items left happened _ (RunsOutside ran up) = refl
event_kept setting m items left happened _ (MovesAsks ltxid result up) = refl
event_kept setting m items left happened _ (Drains closed) = refl

event_more : (setting : Setting) (m n : Machine) (event : Event) (noted : Note) (items left : List Served) → follow setting m event noted items ≡ Some (n, left) → n.event ≡ m.event + 1
event_more setting m n event noted items left e =
    let followed = follow_happens setting m event noted items left n e in event_kept setting (at_event m) items left followed.kind n followed.happens

-- ---- its note

-- the notes from an event on are those from the next one on behind its own
next_note : (all : List Note) (at : ℕ) (noted : Note) (notes : List Note) → drop at all ≡ noted ∷ notes → (slice_get all at ≡ Some noted) × (drop (suc at) all ≡ notes)
next_note [] zero noted notes e = absurd (let none : ⊥ = cc in none)
next_note [] (suc at) noted notes e = absurd (let none : ⊥ = cc in none)
next_note (one ∷ all) zero noted notes e = let first : one ≡ noted = cc in let rest : all ≡ notes = cc in (ap Some first, rest)
next_note (one ∷ all) (suc at) noted notes e = next_note all at noted notes e

module _ (all : List Note) where
  -- these are the notes from the machine's event on
  abbrev Left : Machine → List Note → Type 0
  Left m notes = drop m.event all ≡ notes

  -- the items are of later events
  abbrev Fit : Machine → List Served → Type 0
  Fit m items = (last : ℕ) → last ≤ m.event → events_fit all last items ≡ true

  own_note : (m : Machine) (noted : Note) (notes : List Note) → Left m (noted ∷ notes) → note_of all (m.event + 1) ≡ Some noted
  own_note m noted notes left = ap (slice_get all) (let same : m.event + 1 - 1 ≡ m.event = omega arith in same) ∙ (next_note all m.event noted notes left).0

  one_fits : (m n : Machine) (noted : Note) (notes : List Note) (served : Served) (items : List Served) → n.event ≡ m.event + 1 → Left m (noted ∷ notes) → served.event ≡ m.event + 1
      → may_stand noted (word_of_item served.item) ≡ true → Fit n items → Fit m (served ∷ items)
  one_fits m n noted notes served items more left of stands later last below =
      let behind : nat_lt last served.event ≡ true = lt_to last served.event (omega (arith, of, below)) in
      let found : note_of all served.event ≡ Some noted = ap (note_of all) of ∙ own_note m noted notes left in
      let here : option_map_or (λ (one : Note). may_stand one (word_of_item served.item)) (note_of all served.event) Bool.false ≡ true =
      ap (λ (o : Option Note). option_map_or (λ (one : Note). may_stand one (word_of_item served.item)) o Bool.false) found ∙ stands in
      and_from (fits_event all (word_of_item served.item) last served.event) (events_fit all served.event items)
      (and_from (nat_lt last served.event) _ behind here) (later served.event (omega (arith, of, more)))

  each_fits : (setting : Setting) → EachTells setting Left Fit
  each_fits setting = record {
    stands = λ m n event noted notes items left e stands.
        ap (λ (at : ℕ). drop at all) (event_more setting m n event noted items left e ∙ add-one m.event) ∙ (next_note all m.event noted notes stands).1;
    tells = λ m n event noted notes items left e stands later. told m n event noted notes items left (event_more setting m n event noted items left e) stands later (follow_takes setting m event noted items left n e);
    none = λ m last below. refl;
  }
    where
      told : (m n : Machine) (event : Event) (noted : Note) (notes : List Note) (items left : List Served) → n.event ≡ m.event + 1 → Left m (noted ∷ notes) → Fit n left
          → Took (at_event m) (may_stand noted) items left → Fit m items
      told m n event noted notes items left more stands later (NoItem same) =
          subst (Fit m) (sym same) (λ last below. later last (omega (arith, more, below)))
      told m n event noted notes items left more stands later (OneItem number front served there is of passes same) =
          subst (Fit m) (sym same) (one_fits m n noted notes served left more stands of passes later)

pub events_are_fit : EventsAreFit
events_are_fit document report is =
    followed_tells document report (Left report.notes) (Fit report.notes) (each_fits report.notes (setting_of document)) refl is 0 (let none : 0 ≤ 0 = omega arith in none)
