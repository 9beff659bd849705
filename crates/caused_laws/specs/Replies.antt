-- The items by which a session answers the frames of a client.
use Rattle.std.specs.Prelude.{◌≡◌, true, false, Option, Some, None}
use Rattle.svc_values.specs.declared.entry.Ltxid.{Ltxid}
use Rattle.svc_values.specs.declared.frame.Up.{Up}
use Rattle.svc_values.specs.declared.frame.Up.TheVariants as up
use Rattle.svc_values.specs.declared.frame.Down.{Down}
use Rattle.svc_values.specs.declared.frame.Down.TheVariants as down
use Rattle.svc_values.specs.declared.frame.Ahead.TheVariants as ahead
use Rattle.outage_schedule.specs.declared.item.Item.{Item}
use Rattle.outage_schedule.specs.declared.item.Item.TheVariants as item
use Rattle.outage_schedule.specs.declared.note.AskResult.{AskResult}
use Rattle.outage_schedule.specs.declared.note.AskResult.TheVariants as told

-- the frame that tells an outcome
abbrev pub outcome_frame : AskResult → Down
outcome_frame (told.Committed completed) = down.OutcomeIs true completed
outcome_frame told.Uncommitted = down.OutcomeIs false false
outcome_frame (told.ServerAhead next) = down.OutcomeRefused ahead.Server next
outcome_frame (told.ClientAhead next) = down.OutcomeRefused ahead.Client next
outcome_frame (told.Forgotten horizon) = down.OutcomeRefused ahead.Forgotten horizon

-- the reply to the client, by a session whose identifier is this one then
abbrev pub reply_to : Ltxid → Item → Option Down
reply_to x item.Connect = Some (down.Hello x)
reply_to x (item.Call replay call answers draws) = Some (down.Reply answers draws x)
reply_to x (item.Blocked call) = Some down.Blocked
reply_to x (item.Outcome asked result) = Some (outcome_frame result)
reply_to x (item.Refused cause) = Some (down.Refused cause)
reply_to x _ = None

-- the item was replied to with this frame
abbrev pub Replies : Item → Down → Type 0
Replies served frame = (x : Ltxid) × (reply_to x served ≡ Some frame)

-- The item is that of the last frame that the client sent. A session may refuse at any time.
abbrev pub Answers : Option Up → Item → Type 0
Answers last (item.Refused cause) = Unit {0}
Answers (Some up.Connect) item.Connect = Unit {0}
Answers (Some (up.Call mark kept call)) (item.Call replay served answers draws) = (replay ≡ mark)
    × (served ≡ call)
Answers (Some (up.Call mark kept call)) (item.Blocked served) = served ≡ call
Answers (Some (up.Outcome x)) (item.Outcome asked result) = asked ≡ x
Answers _ _ = ⊥
