-- What a service's history has of a session, and what a connection served: frame by frame with what
-- was told, in order.
use Rattle.std.specs.Prelude.{List, [], ◌∷◌, map, Option, if◌then◌else◌}
use Rattle.svc_values.specs.declared.entry.SessionId.{SessionId}
use Rattle.svc_values.specs.declared.frame.Up.{Up}
use Rattle.svc_values.specs.declared.frame.Down.{Down}
use Rattle.svc_values.specs.meaning.Identifiers.{same_session}
use Rattle.outage_schedule.specs.declared.item.Item.{Item}
use Rattle.outage_schedule.specs.declared.item.Item.TheVariants as item
use Rattle.server_model.specs.meaning.Outcomes.{Telling, Stopped, telling_of}
use Rattle.server_model.specs.Runs.{Happened, Served, Asked}
use Rattle.world_model.specs.meaning.Frames.{Handled}
use Rattle.world_model.specs.meaning.Links.{Link}

abbrev pub served_in : List Happened → SessionId → List (Up × Telling)
served_in [] session = []
served_in (Served other now frame told ∷ history) session =
    if same_session other session then (frame, told) ∷ served_in history session else served_in
    history session
served_in (Asked x told ∷ history) session = served_in history session

-- what was told with this item, where this reply was given: nothing at a stop
abbrev pub told_with : Item → Option Down → Telling
told_with (item.CrashedCall marked call) reply = Stopped
told_with (item.CrashedOutcome asked) reply = Stopped
told_with _ reply = telling_of reply

abbrev pub told_of : Handled → Up × Telling
told_of one = (one.sent.frame, told_with one.served.item one.reply)

abbrev pub served_on : Link → List (Up × Telling)
served_on link = map told_of link.served
