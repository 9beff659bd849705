-- The draws that the served items bring which carry the mark, in the order of the items.
use Rattle.std.specs.Prelude.{ℕ, List, [], ◌∷◌, ◌++◌}
use Rattle.svc_values.specs.declared.draw.Draw.{Draw}
use Rattle.outage_schedule.specs.declared.item.Served.{Served}
use Rattle.outage_schedule.specs.declared.document.Document.{Document}
use Rattle.outage_schedule.specs.declared.report.Report.{Report}
use Rattle.run_clauses.specs.meaning.Moments.{HappenedAt, Happened, ServedItem, RanOutside, Asked, moments}
use Rattle.shown_clauses.specs.meaning.KeptDraws.{parts, is_marked_item}
use Rattle.shown_clauses.specs.meaning.LegalItems.{kept_if, after_moment}
use Rattle.shown_clauses.specs.meaning.Parts.{Part}
use Rattle.shown_clauses.specs.meaning.Places.{Front, first_front, reach}

-- what a served item brings, seen from the front that its event reaches
abbrev pub kept_by : List Part → Front → Served → List Draw
kept_by parts front one = kept_if (is_marked_item one.item) parts front one

-- of a moment that the front has reached
abbrev pub kept_here : List Part → Front → ℕ → Happened → List (List Draw)
kept_here parts front at (ServedItem session served) = kept_by parts front (record {
  event = at;
  session = session;
  item = served;
}) ∷ []
kept_here parts front at (RanOutside ran) = []
kept_here parts front at (Asked x told) = []

-- of the moments behind a front: a list for each served item
abbrev pub kept_from : List Part → Front → List HappenedAt → List (List Draw)
kept_from parts front [] = []
kept_from parts front (moment ∷ more) =
    let here : Front = reach moment.event front in
    kept_here parts here moment.event moment.happened
    ++ kept_from parts (after_moment here moment.event moment.happened) more

-- for each served item of a report, in order, what it brings: nothing where it has no mark
abbrev pub kept_of : Document → Report → List (List Draw)
kept_of document report = kept_from (parts document report) (first_front document report)
    (moments report)
