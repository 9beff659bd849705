-- What a session did, by its item in the report.
use Rattle.std.specs.Prelude.{false, List}
use Rattle.svc_values.specs.declared.draw.Draw.{Draw}
use Rattle.outage_schedule.specs.declared.item.Item.{Item}
use Rattle.outage_schedule.specs.declared.item.Item.TheVariants as item
use Rattle.outage_schedule.specs.declared.note.AskResult.{AskResult}
use Rattle.outage_schedule.specs.declared.note.AskResult.TheVariants as told
use Rattle.server_model.specs.meaning.Items.{Outcome, Uncommitted, Committed, ServerAhead, ClientAhead, Forgotten, Thing, Connected, Began, Called, MetBlock, TellsOutcome, EndedRequest, Closed, Refused, CallStopped, OutcomeStopped}

-- what is told of an identifier
abbrev pub outcome_of : AskResult → Outcome
outcome_of (told.Committed completed) = Committed completed
outcome_of told.Uncommitted = Uncommitted
outcome_of (told.ServerAhead next) = ServerAhead next
outcome_of (told.ClientAhead next) = ClientAhead next
outcome_of (told.Forgotten horizon) = Forgotten horizon

-- `kept` are the draws that a call with the mark was shown with. A call that met a block had no
-- mark.
abbrev pub thing_of : List Draw → Item → Thing
thing_of kept item.Connect = Connected
thing_of kept (item.Begin settings) = Began settings
thing_of kept (item.Call replay call answers draws) = Called replay kept call answers draws
thing_of kept (item.Blocked call) = MetBlock false call
thing_of kept (item.Outcome x result) = TellsOutcome x (outcome_of result)
thing_of kept item.End = EndedRequest
thing_of kept item.Close = Closed
thing_of kept (item.Refused cause) = Refused
thing_of kept (item.CrashedCall replay call) = CallStopped replay call
thing_of kept (item.CrashedOutcome x) = OutcomeStopped x
