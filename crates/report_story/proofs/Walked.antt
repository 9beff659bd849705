-- What is kept of a report that was gone through is what its events tell.
use Rattle.std.proofs.Common.{◌≡◌, refl, sym, ap, subst, ◌∙◌, append-nil, append_assoc, ℕ, ◌+◌, true, List, [], ◌∷◌, ◌++◌, map, fold, Option}
use Rattle.std.specs.Prelude.{◌==◌}
use Rattle.std.proofs.lemmas.Bool.{not-true, eq-eqb}
use Rattle.std.proofs.lemmas.List.{map-append}
use Rattle.outage_schedule.specs.declared.item.Served.{Served}
use Rattle.outage_schedule.specs.declared.note.Note.{Note}
use Rattle.outage_schedule.specs.declared.report.Report.{Report}
use Rattle.shown_clauses.specs.meaning.Happenings.{Happening, is_up_to, items_at, tick_after, happenings_from, happenings}
use Rattle.shown_clauses.specs.meaning.Fronts.{rest_of}
use Rattle.shown_clauses.specs.meaning.Links.{Seen, nothing_seen, after_item, after_note, after_happening}
use Rattle.shown_clauses.specs.meaning.Steps.{Step as ClientStep, steps_at, steps_from, steps, turns_seen, turns}
use Rattle.told_reports.specs.Keeping.{IsTold}
use Rattle.report_story.specs.Plain.{plain_seen, plain_step, plain_note}
use Rattle.report_story.specs.Passing.{Repeated, repeated_by, Passed, with_step, with_one_if, with_first, with_note, pass, passed_by}
use Rattle.report_story.proofs.Fitting.{fits, fits_first, is_apart, Step, Here, Apart, step_of, none_at, none_passed, one_at, one_passed}
use Rattle.report_story.proofs.Plainly.{item_plain, note_plain, steps_plain, turns_plain}

-- how far it was gone through, where the connections were these
abbrev pub at : ℕ → Seen → List ClientStep → List (Option Repeated) → List Served → Passed
at event seen steps repeated left = record { event = event; seen = plain_seen seen; steps = steps; repeated = repeated; left = left }

abbrev pub noted_seen : ℕ → Note → Seen → Seen
noted_seen event noted seen = record seen { links = after_note event noted seen.links }

-- the step of a note
abbrev pub made : ℕ → ℕ → Note → Seen → List Served → List ClientStep
made event tick noted seen items = map plain_step (steps_at seen (record { event = event; tick = tick; noted = noted; items = items }) noted)

pub pass_apart : (event tick : ℕ) (noted : Note) (seen : Seen) (done : List ClientStep) (repeated : List (Option Repeated)) (left items : List Served) → is_apart event left ≡ true
    → pass (at event seen done repeated left) noted ≡ at (event + 1) (noted_seen event noted seen) (done ++ made event tick noted seen items) repeated left
pass_apart event tick noted seen done repeated left items apart =
    ap (with_note noted) (still left apart)
    ∙ λ i. record {
      event = event + 1;
      seen = record { links = sym (note_plain event noted seen.links) i; over = seen.over };
      steps = done ++ sym (steps_plain seen (record { event = event; tick = tick; noted = noted; items = items }) noted) i;
      repeated = repeated;
      left = left;
    }
  where
    stepped : Passed
    stepped = with_step noted (at event seen done repeated left)

    still : (items : List Served) → is_apart event items ≡ true → with_first noted stepped items ≡ stepped
    still [] is = refl
    still (one ∷ items) is = ap (λ b. with_one_if b noted stepped one items) (not-true (one.event == event) is)

pub pass_here : (event tick : ℕ) (noted : Note) (seen : Seen) (done : List ClientStep) (repeated : List (Option Repeated)) (one : Served) (left items : List Served) → one.event ≡ event
    → pass (at event seen done repeated (one ∷ left)) noted
    ≡ at (event + 1) (noted_seen event noted (after_item event noted seen one)) (done ++ made event tick noted seen items) (repeated ++ repeated_by (plain_seen seen) one ∷ []) left
pass_here event tick noted seen done repeated one left items same =
    ap (λ b. with_note noted (with_one_if b noted (with_step noted (at event seen done repeated (one ∷ left))) one left)) (eq-eqb one.event event same)
    ∙ λ i. record {
      event = event + 1;
      seen = record {
        links = (ap (λ (s : Seen). plain_note event noted s.links) (sym (item_plain event noted seen one)) ∙ sym (note_plain event noted (after_item event noted seen one).links)) i;
        over = sym (ap (λ (s : Seen). s.over) (item_plain event noted seen one)) i;
      };
      steps = done ++ sym (steps_plain seen (record { event = event; tick = tick; noted = noted; items = items }) noted) i;
      repeated = repeated ++ repeated_by (plain_seen seen) one ∷ [];
      left = left;
    }

-- ---- all notes

pub record Tells (told : Passed) (done : List ClientStep) (seen : Seen) (more : List Happening) : Type 0 where
  pub steps : told.steps ≡ done ++ map plain_step (steps_from seen more)
  pub seen_last : told.seen ≡ plain_seen (fold after_happening seen more)

-- one happening more
told_more : (told : Passed) (done : List ClientStep) (seen : Seen) (one : Happening) (more : List Happening)
    → Tells told (done ++ map plain_step (steps_at seen one one.noted)) (after_happening seen one) more → Tells told done seen (one ∷ more)
told_more told done seen one more so = record {
  steps = so.steps
      ∙ (append_assoc done (map plain_step (steps_at seen one one.noted)) (map plain_step (steps_from (after_happening seen one) more))
      ∙ ap (λ (rest : List ClientStep). done ++ rest) (sym (map-append plain_step (steps_at seen one one.noted) (steps_from (after_happening seen one) more))));
  seen_last = so.seen_last;
}

abbrev TellsAll : List Note → Type 0
TellsAll notes =
    (event last tick : ℕ) (seen : Seen) (done : List ClientStep) (repeated : List (Option Repeated)) (left : List Served)
    → event ≡ last + 1 → fits event notes last left ≡ true
    → Tells (fold pass (at event seen done repeated left) notes) done seen (happenings_from event tick notes left)

told_note : (noted : Note) (notes : List Note) → TellsAll notes → TellsAll (noted ∷ notes)
told_note noted notes others event last tick seen done repeated left next fit = by (step_of event last noted notes left next fit)
  where
    so : (here rest : List Served) (items : List Served) → items_at event items ≡ here → rest_of (is_up_to event) items ≡ rest → (told : Passed)
        → Tells told done seen (record { event = event; tick = tick; noted = noted; items = here } ∷ happenings_from (event + 1) (tick_after tick noted) notes rest)
        → Tells told done seen (happenings_from event tick (noted ∷ notes) items)
    so here rest items is_here is_rest told given =
        let P : List Served → List Served → Type 0 = λ now later. Tells told done seen (record { event = event; tick = tick; noted = noted; items = now } ∷ happenings_from (event + 1) (tick_after tick noted) notes later) in
        subst (λ (later : List Served). P (items_at event items) later) (sym is_rest) (subst (λ (now : List Served). P now rest) (sym is_here) given)

    Goal : List Served → Type 0
    Goal items = Tells (fold pass (at event seen done repeated items) (noted ∷ notes)) done seen (happenings_from event tick (noted ∷ notes) items)

    by : Step event noted notes left → Goal left
    by (Here one more is same still fit_on behind) =
        subst Goal (sym is)
        (so (one ∷ []) more (one ∷ more) (one_at event one more same behind) (one_passed event one more same behind) (fold pass (at event seen done repeated (one ∷ more)) (noted ∷ notes))
        (subst (λ (told : Passed). Tells (fold pass told notes) done seen (record { event = event; tick = tick; noted = noted; items = one ∷ [] } ∷ happenings_from (event + 1) (tick_after tick noted) notes more))
        (sym (pass_here event tick noted seen done repeated one more (one ∷ []) same))
        (told_more _ done seen (record { event = event; tick = tick; noted = noted; items = one ∷ [] }) (happenings_from (event + 1) (tick_after tick noted) notes more)
        (others (event + 1) event (tick_after tick noted) (noted_seen event noted (after_item event noted seen one)) (done ++ made event tick noted seen (one ∷ [])) (repeated ++ repeated_by (plain_seen seen) one ∷ []) more refl fit_on))))
    by (Apart apart fit_on behind) =
        so [] left left (none_at event left behind) (none_passed event left behind) (fold pass (at event seen done repeated left) (noted ∷ notes))
        (subst (λ (told : Passed). Tells (fold pass told notes) done seen (record { event = event; tick = tick; noted = noted; items = [] } ∷ happenings_from (event + 1) (tick_after tick noted) notes left))
        (sym (pass_apart event tick noted seen done repeated left [] apart))
        (told_more _ done seen (record { event = event; tick = tick; noted = noted; items = [] }) (happenings_from (event + 1) (tick_after tick noted) notes left)
        (others (event + 1) event (tick_after tick noted) (noted_seen event noted seen) (done ++ made event tick noted seen []) repeated left refl fit_on)))

told_from : (notes : List Note) → TellsAll notes
told_from [] event last tick seen done repeated left next fit = record { steps = sym (append-nil done); seen_last = refl }
told_from (noted ∷ notes) event last tick seen done repeated left next fit = told_note noted notes (told_from notes) event last tick seen done repeated left next fit

pub fit_all : (report : Report) → IsTold report → fits 1 report.notes 0 report.served ≡ true
fit_all report told = sym (fits_first report.notes 0 report.served) ∙ told.events

pub told_by : (report : Report) → IsTold report → Tells (passed_by report) [] nothing_seen (happenings report)
told_by report told = told_from report.notes 1 0 0 nothing_seen [] [] report.served refl (fit_all report told)

pub steps_told : (report : Report) → IsTold report → (passed_by report).steps ≡ map plain_step (steps report)
steps_told report told = (told_by report told).steps

pub turns_told : (report : Report) → IsTold report → turns_seen (passed_by report).seen ≡ turns report
turns_told report told =
    let last = fold after_happening nothing_seen (happenings report) in
    ap turns_seen (told_by report told).seen_last ∙ turns_plain last.links last.over
