-- How the answers to a call may end: with RolledBack those of a rollback and no others, and with
-- Committed those of a call with a commit and without the mark.
use Rattle.std.specs.Prelude.{◌&&◌, Bool, true, false, not, List}
use Rattle.std.specs.List.{list_all}
use Rattle.svc_values.specs.declared.answer.Answer.{Answer}
use Rattle.svc_values.specs.declared.call.Call.{Call}
use Rattle.svc_values.specs.declared.call.Call.TheVariants as call
use Rattle.svc_values.specs.meaning.Calls.{has_commit}
use Rattle.svc_values.specs.meaning.Endings.{is_rolled_back, ends_with, ends_committed}
use Rattle.svc_values.specs.meaning.Same.{same_bool}
use Rattle.outage_schedule.specs.declared.item.Item.{Item}
use Rattle.outage_schedule.specs.declared.item.Item.TheVariants as item
use Rattle.world_model.specs.meaning.Links.{Link}
use Rattle.world_model.specs.Parts.{implies}
use Rattle.world_model.specs.Traced.{Traced}

abbrev pub is_rollback : Call → Bool
is_rollback call.Rollback = true
is_rollback _ = false

abbrev pub ends_rolled_back : List Answer → Bool
ends_rolled_back answers = ends_with is_rolled_back answers

abbrev pub fit_call : Bool → Call → List Answer → Bool
fit_call marked called answers = same_bool (ends_rolled_back answers) (is_rollback called)
    && implies (ends_committed answers) (not marked && has_commit called)

abbrev pub ends_fittingly : Item → Bool
ends_fittingly (item.Call marked called answers draws) = fit_call marked called answers
ends_fittingly _ = true

-- each call that was served
abbrev pub all_end_fittingly : Link → Bool
all_end_fittingly link = list_all (λ one. ends_fittingly one.served.item) link.served

abbrev pub end_fittingly : Traced → Bool
end_fittingly t = list_all all_end_fittingly t.machine.links
