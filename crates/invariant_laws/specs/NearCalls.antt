-- A request sends no call without the mark that is beyond the next one.
use Rattle.std.specs.Prelude.{◌||◌, Bool, false, nat_le, List, length}
use Rattle.std.specs.List.{list_all}
use Rattle.std.specs.Option.{option_map_or}
use Rattle.outage_schedule.specs.declared.request.ShownCall.{ShownCall}
use Rattle.world_model.specs.meaning.Frames.{Sent}
use Rattle.world_model.specs.meaning.Links.{link_at}
use Rattle.invariant_laws.specs.Shown.{calls_on, is_marked}
use Rattle.world_model.specs.Traced.{Traced, Course, courses_of}
use Rattle.world_model.specs.Words.{held_in}

-- each call without the mark is of an index that was shown, or is the next one
abbrev pub is_shown_or_next : List ShownCall → Sent → Bool
is_shown_or_next shown sent = is_marked sent.frame || nat_le sent.call (length shown)

-- on each connection that the request held
abbrev pub sends_near : Traced → Course → Bool
sends_near t course = list_all (λ number.
    option_map_or (λ link. list_all (is_shown_or_next course.report.calls) (calls_on course link))
    (link_at t.machine.links number) false) (held_in course.steps)

abbrev pub send_near : Traced → Bool
send_near t = list_all (sends_near t) (courses_of t)
