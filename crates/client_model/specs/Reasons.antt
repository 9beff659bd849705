-- The table of reasons against a replay, for each kind of service.
use Rattle.std.specs.Prelude.{ℕ, ◌+◌, false, List, [], ◌∷◌, ◌++◌, length, nat_le, Option, Some, None, if◌then◌else◌}
use Rattle.std.specs.Option.{option_or}
use Rattle.svc_values.specs.declared.answer.Answer.{Answer}
use Rattle.svc_values.specs.declared.call.Call.{Call}
use Rattle.svc_values.specs.declared.call.Call.TheVariants as call
use Rattle.svc_values.specs.declared.frame.Up.{Up}
use Rattle.svc_values.specs.declared.frame.Up.TheVariants as up
use Rattle.request_bounds.specs.declared.rule.Why.{Why}
use Rattle.request_bounds.specs.declared.rule.Why.TheVariants as why
use Rattle.request_bounds.specs.meaning.Replies.{ends_decided}
use Rattle.request_bounds.specs.meaning.Rules.{Rules, off_rules, static_rules, dynamic_rules, auto_rules}
use Rattle.client_model.specs.declared.act.Shown.{Shown}
use Rattle.client_model.specs.meaning.Conversation.{Done}

-- the kinds: no replay, dynamic or static session state, settings that are kept
pub data Kind : Type 0 where
  NoReplay : Kind
  Dynamic : Kind
  Static : Kind
  Auto : Kind

abbrev pub rules_of : Kind → Rules
rules_of NoReplay = off_rules
rules_of Dynamic = dynamic_rules
rules_of Static = static_rules
rules_of Auto = auto_rules

-- what a reason may come from: an unmarked call went out at this index, or answers were shown
pub data Event : Type 0 where
  Submitted : (call : Call) (index : ℕ) → Event
  Showed : (answers : List Answer) → Event

-- the submissions among frames, where so many calls are shown
abbrev pub submissions : ℕ → List Up → List Event
submissions index [] = []
submissions index (up.Call false kept call ∷ frames) =
    Submitted call index ∷ submissions index frames
submissions index (_ ∷ frames) = submissions index frames

abbrev pub showing : Option Shown → List Event
showing None = []
showing (Some shown) = Showed shown.answers ∷ []

-- what the steps tell in order, the showing of a step before its submissions
abbrev pub events_from : ℕ → List Done → List Event
events_from index [] = []
events_from index (done ∷ steps) =
    let shown : List Event = showing done.act.shown in
    shown ++ submissions (index + length shown) done.act.send
    ++ events_from (index + length shown) steps

abbrev pub events_of : List Done → List Event
events_of steps = events_from 0 steps

-- the reason of a submission
abbrev pub submit_reason : Kind → Call → ℕ → Option Why
submit_reason NoReplay call index = Some why.Off
submit_reason Static (call.Set name value) index = Some (why.Settings index)
submit_reason kind (call.Alter line) index = Some (why.Restricted index)
submit_reason kind call.Disable index = Some (why.Asked index)
submit_reason kind call index = None

-- the reason of a decided commit
abbrev pub decided_reason : Kind → Option Why
decided_reason Dynamic = Some why.AfterCommit
decided_reason _ = None

-- the reason of a showing, where so many calls were shown since the last decided commit
abbrev pub show_reason : Kind → ℕ → ℕ → List Answer → Option Why
show_reason kind limit since answers =
    if ends_decided answers then decided_reason kind
    else (if nat_le limit since then Some (why.Full limit) else None)

-- the first reason of all
abbrev pub reason_from : Kind → ℕ → ℕ → List Event → Option Why
reason_from kind limit since [] = None
reason_from kind limit since (Submitted call index ∷ events) =
    option_or (submit_reason kind call index) (reason_from kind limit since events)
reason_from kind limit since (Showed answers ∷ events) =
    option_or (show_reason kind limit since answers)
    (reason_from kind limit (if ends_decided answers then 0 else since + 1) events)

abbrev pub reason_of : Kind → ℕ → List Done → Option Why
reason_of kind limit steps = reason_from kind limit 0 (events_of steps)
