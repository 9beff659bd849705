-- Where runs from outside do not fit their events.
use Rattle.std.specs.Prelude.{ℕ, ◌+◌, List, [], ◌∷◌, Option, Some, None, if◌then◌else◌}
use Rattle.outage_schedule.specs.declared.event.Event.{Event}
use Rattle.outage_schedule.specs.declared.note.Note.{Note}
use Rattle.shown_clauses.specs.meaning.Fronts.{first_item, rest_items}
use Rattle.shown_clauses.specs.meaning.LegalItems.{outside_fits}

-- the number of the first note that does not; the first of these notes has this number, and stands
-- beside the event that it is of
abbrev pub misfit_from : ℕ → List Event → List Note → Option ℕ
misfit_from number schedule [] = None
misfit_from number schedule (first ∷ notes) =
    if outside_fits (first_item schedule) first then misfit_from (number + 1) (rest_items schedule)
    notes else Some number
