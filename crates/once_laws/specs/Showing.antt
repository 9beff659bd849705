-- What a request took as the reply to a call that it sent without the mark is what it was shown of
-- that call.
use Rattle.std.specs.Prelude.{ℕ, ◌&&◌, Bool, true, false, List, slice_get}
use Rattle.std.specs.List.{list_all}
use Rattle.std.specs.Option.{option_map_or}
use Rattle.svc_values.specs.declared.answer.Answer.{Answer}
use Rattle.svc_values.specs.declared.draw.Draw.{Draw}
use Rattle.svc_values.specs.declared.entry.Ltxid.{Ltxid}
use Rattle.svc_values.specs.declared.frame.Up.{Up}
use Rattle.svc_values.specs.declared.frame.Up.TheVariants as up
use Rattle.svc_values.specs.declared.frame.Down.{Down}
use Rattle.svc_values.specs.declared.frame.Down.TheVariants as down
use Rattle.svc_values.specs.meaning.Identifiers.{same_ltxid}
use Rattle.svc_values.specs.meaning.Same.{same_answers, same_draws}
use Rattle.outage_schedule.specs.declared.request.ShownCall.{ShownCall}
use Rattle.world_model.specs.meaning.Frames.{Reply}
use Rattle.world_model.specs.meaning.Links.{Link}
use Rattle.world_model.specs.Parts.{implies}
use Rattle.world_model.specs.Sames.{owned_by}
use Rattle.world_model.specs.Traced.{Traced, Course, courses_of}

-- a call was shown with these answers and draws, and with the identifier behind it
abbrev pub is_as_told : List Answer → List Draw → Ltxid → ShownCall → Bool
is_as_told answers draws x shown = same_answers answers shown.answers
    && (same_draws draws shown.draws && same_ltxid x shown.ltxid)

-- the reply to the call of this index was shown, where the call had no mark
abbrev pub shows_reply : List ShownCall → ℕ → Up → Down → Bool
shows_reply shown index (up.Call false kept call) (down.Reply answers draws x) =
    option_map_or (is_as_told answers draws x) (slice_get shown index) false
shows_reply shown index frame reply = true

-- where the request sent it
abbrev pub is_shown_reply : Course → Reply → Bool
is_shown_reply course reply = implies (owned_by course.owner reply.to)
    (shows_reply course.report.calls reply.to.call reply.to.frame reply.frame)

-- all that was taken on a connection
abbrev pub shows_taken : Course → Link → Bool
shows_taken course link = list_all (is_shown_reply course) link.taken

-- of all requests, on all connections
abbrev pub show_replies : Traced → Bool
show_replies t = list_all (λ course. list_all (shows_taken course) t.machine.links) (courses_of t)
