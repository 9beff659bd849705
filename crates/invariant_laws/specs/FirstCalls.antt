-- With which calls the transactions of a request begin.
use Rattle.std.specs.Prelude.{ℕ, ◌+◌, ◌-◌, ◌==◌, ◌&&◌, ◌||◌, Bool, true, false, List, slice_get}
use Rattle.std.specs.List.{list_all, list_any}
use Rattle.std.specs.Option.{option_map_or}
use Rattle.svc_values.specs.declared.frame.Up.{Up}
use Rattle.svc_values.specs.declared.frame.Up.TheVariants as up
use Rattle.request_bounds.specs.meaning.Replies.{ends_decided}
use Rattle.outage_schedule.specs.declared.item.Item.{Item}
use Rattle.outage_schedule.specs.declared.item.Item.TheVariants as item
use Rattle.outage_schedule.specs.declared.request.ShownCall.{ShownCall}
use Rattle.world_model.specs.meaning.Frames.{Handled}
use Rattle.world_model.specs.meaning.Links.{Link}
use Rattle.world_model.specs.Parts.{implies}
use Rattle.invariant_laws.specs.Same.{ServedCall, ends_on_server, first_call, ran_by, test_at}
use Rattle.world_model.specs.Sames.{owned_by}
use Rattle.world_model.specs.Traced.{Traced, Course, courses_of}
use Rattle.world_model.specs.Words.{held_in}

-- it is the first call, or the one before it was shown with a decided commit
abbrev pub is_behind_decided : List ShownCall → ℕ → Bool
is_behind_decided shown index = (index == 0)
    || option_map_or (λ one. ends_decided one.answers) (slice_get shown (index - 1)) false

-- each Begin has the index of such a call
abbrev pub begins_behind : List ShownCall → ℕ → Up → Bool
begins_behind shown index (up.Begin settings) = is_behind_decided shown index
begins_behind shown index _ = true

abbrev pub begins_on : Course → Link → Bool
begins_on course link = list_all (λ sent. implies (owned_by course.owner sent)
    (begins_behind course.report.calls sent.call sent.frame)) link.sent

abbrev pub begin_decided : Traced → Bool
begin_decided t = list_all (λ course. list_all (begins_on course) t.machine.links) (courses_of t)

-- or it is behind one that its connection served, with answers that ended a transaction there
abbrev pub is_ended : Item → Bool
is_ended (item.Call marked call answers draws) = ends_on_server answers
is_ended _ = false

abbrev pub ends_before : Course → ℕ → Handled → Bool
ends_before course index one = owned_by course.owner one.sent
    && ((one.sent.call + 1 == index) && is_ended one.served.item)

abbrev pub may_begin : Course → List Handled → ℕ → Bool
may_begin course served index = is_behind_decided course.report.calls index
    || list_any (ends_before course index) served

-- a transaction with a call of the request begins with such a call
abbrev pub begins_there : Course → List Handled → List ServedCall → Bool
begins_there course served dids = implies (list_any (λ did. owned_by course.owner did.sent) dids)
    (may_begin course served (first_call dids 0))

abbrev pub all_begin_there : Course → Link → Bool
all_begin_there course link = list_all (begins_there course link.served) (ran_by link).over
    && begins_there course link.served (ran_by link).pieces

-- each transaction on a connection that the request held: those that are over, and the open one
abbrev pub transactions_begin : Traced → Bool
transactions_begin t = list_all (λ course. list_all (test_at t (all_begin_there course))
    (held_in course.steps)) (courses_of t)
