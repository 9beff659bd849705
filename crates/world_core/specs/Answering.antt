-- What is written down of a frame that was served: its name, its session and its item.
use Rattle.std.specs.Prelude.{Bool, true, Option, Some, None, unwrap_or}
use Rattle.std.specs.Option.{option_or}
use Rattle.svc_values.specs.declared.call.Call.{Call}
use Rattle.svc_values.specs.declared.entry.SessionId.{SessionId}
use Rattle.svc_values.specs.declared.frame.Up.{Up}
use Rattle.svc_values.specs.declared.frame.Up.TheVariants as up
use Rattle.svc_values.specs.declared.frame.Down.{Down}
use Rattle.svc_values.specs.declared.frame.Down.TheVariants as down
use Rattle.svc_values.specs.declared.frame.Ahead.TheVariants as ahead
use Rattle.svc_values.specs.meaning.Identifiers.{session_of}
use Rattle.ltxid_book.specs.declared.verdict.Verdict.{Verdict}
use Rattle.ltxid_book.specs.declared.verdict.Verdict.TheVariants as verdict
use Rattle.outage_schedule.specs.declared.note.AskResult.{AskResult}
use Rattle.outage_schedule.specs.declared.note.AskResult.TheVariants as told
use Rattle.outage_schedule.specs.declared.item.Item.{Item}
use Rattle.outage_schedule.specs.declared.item.Item.TheVariants as item

-- the session that a Hello names
abbrev pub session_named : Option Down → Option SessionId
session_named (Some (down.Hello x)) = Some (session_of x)
session_named _ = None

abbrev pub no_session : SessionId
no_session = record { incarnation = 0; session = 0 }

-- the session that the connection has, or else the one that the reply names
abbrev pub session_served : Option SessionId → Option Down → SessionId
session_served known reply = unwrap_or (option_or known (session_named reply)) no_session

-- the outcome that a reply tells
abbrev pub result_told : Option Down → AskResult
result_told (Some (down.OutcomeIs true completed)) = told.Committed completed
result_told (Some (down.OutcomeRefused ahead.Server next)) = told.ServerAhead next
result_told (Some (down.OutcomeRefused ahead.Client next)) = told.ClientAhead next
result_told (Some (down.OutcomeRefused ahead.Forgotten next)) = told.Forgotten next
result_told _ = told.Uncommitted

abbrev pub call_item : Bool → Call → Option Down → Item
call_item replay call (Some (down.Reply answers draws x)) = item.Call replay call answers draws
call_item replay call _ = item.Blocked call

-- of a frame that was not refused
abbrev pub ordinary_item : Up → Option Down → Item
ordinary_item up.Connect reply = item.Connect
ordinary_item (up.Begin settings) reply = item.Begin settings
ordinary_item (up.Call replay kept call) reply = call_item replay call reply
ordinary_item (up.Outcome x) reply = item.Outcome x (result_told reply)
ordinary_item up.End reply = item.End
ordinary_item up.Close reply = item.Close

abbrev pub served_item : Up → Option Down → Item
served_item frame (Some (down.Refused cause)) = item.Refused cause
served_item frame reply = ordinary_item frame reply

-- what a verdict tells: an identifier that is to be blocked was so before it was told
abbrev pub result_of : Verdict → AskResult
result_of (verdict.Committed completed) = told.Committed completed
result_of verdict.BlockIt = told.Uncommitted
result_of verdict.AlreadyBlocked = told.Uncommitted
result_of (verdict.ServerAhead next) = told.ServerAhead next
result_of (verdict.ClientAhead next) = told.ClientAhead next
result_of (verdict.Forgotten horizon) = told.Forgotten horizon

-- A frame that was stopped before its reply. Only calls and questions for outcomes are ever
-- stopped.
abbrev pub crashed_item : Up → Item
crashed_item (up.Call replay kept call) = item.CrashedCall replay call
crashed_item (up.Outcome x) = item.CrashedOutcome x
crashed_item frame = ordinary_item frame None
