-- What a repeated call drew of the values that are kept for it.
use Rattle.std.specs.Prelude.{Bool, true, IsTrue, List, filter, slice_get}
use Rattle.std.specs.List.{list_all}
use Rattle.std.specs.Option.{option_map_or}
use Rattle.svc_values.specs.declared.draw.Draw.{Draw}
use Rattle.svc_values.specs.meaning.Same.{same_answers, same_draws}
use Rattle.outage_schedule.specs.declared.document.Document.{Document}
use Rattle.outage_schedule.specs.declared.event.Event.{Event}
use Rattle.outage_schedule.specs.declared.item.Item.{Item}
use Rattle.outage_schedule.specs.declared.item.Item.TheVariants as item
use Rattle.outage_schedule.specs.declared.item.Served.{Served}
use Rattle.outage_schedule.specs.declared.note.Note.{Note}
use Rattle.server_model.specs.Seen.{Seen}
use Rattle.world_model.specs.meaning.Frames.{Sent, Handled}
use Rattle.world_model.specs.meaning.Links.{Link}
use Rattle.world_model.specs.Parts.{implies}
use Rattle.world_model.specs.Reached.{IsRun, Reached}
use Rattle.world_model.specs.records.Ready.{all_requests_right}
use Rattle.invariant_laws.specs.Same.{granted_by, test_at}
use Rattle.world_model.specs.Sames.{owned_by}
use Rattle.world_model.specs.Traced.{Traced, Course, courses_of}
use Rattle.world_model.specs.Words.{held_in}

-- A call with the mark that was answered as its first time was shown drew the granted values that
-- were shown, in order.
abbrev pub redraws : (Draw → Bool) → Course → Sent → Item → Bool
redraws granted course sent (item.Call true call answers draws) =
    option_map_or (λ shown. implies (same_answers answers shown.answers)
    (same_draws (filter granted draws) (filter granted shown.draws)))
    (slice_get course.report.calls sent.call) true
redraws granted course sent one = true

-- of a request, on a connection
abbrev pub one_redraws : (Draw → Bool) → Course → Handled → Bool
one_redraws granted course one = implies (owned_by course.owner one.sent)
    (redraws granted course one.sent one.served.item)

abbrev pub redraws_on : (Draw → Bool) → Course → Link → Bool
redraws_on granted course link = list_all (one_redraws granted course) link.served

-- on each connection that it held
abbrev pub repeats_redraw : (Draw → Bool) → Traced → Bool
repeats_redraw granted t = list_all (λ course. list_all (test_at t (redraws_on granted course))
    (held_in course.steps)) (courses_of t)

-- Wherever a run has come to, each repeated call drew so.
abbrev pub RepeatsRedraw : Type 0
RepeatsRedraw =
    (document : Document) (events : List Event) (notes : List Note) (items : List Served)
    (seen : Seen) (t : Traced)
    → IsTrue (all_requests_right document) → Reached document events notes items seen t
    → IsTrue (repeats_redraw (granted_by document) t)

-- and at the end of a whole run
abbrev pub WholeRepeatsRedraw : Type 0
WholeRepeatsRedraw =
    (document : Document) (notes : List Note) (items : List Served) (seen : Seen) (t : Traced)
    → IsTrue (all_requests_right document) → IsRun document notes items seen t
    → IsTrue (repeats_redraw (granted_by document) t)
