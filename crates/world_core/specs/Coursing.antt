-- How a client, with its driver and the request in course, stands for one of the machine.
use Rattle.std.specs.Prelude.{◌≡◌, ◌≤◌, ℕ, Bool, true, false, List, [], ◌∷◌, ◌++◌, map, length, Option, Some, None}
use Rattle.std.specs.List.{AllByRecursion}
use Rattle.svc_values.specs.Calls.{IsMade}
use Rattle.svc_values.specs.declared.frame.Up.{Up}
use Rattle.request_bounds.specs.meaning.Rules.{Rules}
use Rattle.outage_schedule.specs.declared.document.Request.{Request}
use Rattle.outage_schedule.specs.declared.request.RequestReport.{RequestReport}
use Rattle.client_model.specs.declared.act.Hold.{Hold}
use Rattle.client_model.specs.declared.act.Hold.TheVariants.{Keep}
use Rattle.client_model.specs.declared.input.Input.{Input}
use Rattle.client_model.specs.meaning.Conversation.{Done}
use Rattle.client_model.specs.Conversation.{is_gone_next}
use Rattle.client_model.specs.meaning.Talk.{Step, talk_step}
use Rattle.client_model.specs.meaning.Terms.{Terms, Talk, Idle}
use Rattle.driver_core.specs.Driving.{Driving, terms_of, ArePast}
use Rattle.run_clauses.specs.meaning.Copies.{next_of}
use Rattle.transcript_core.specs.declared.next_request.NextRequest.{NextRequest}
use Rattle.transcript_core.specs.Drafts.{IsDraft}
use Rattle.transcript_core.specs.Following.{IsNext}
use Rattle.world_model.specs.meaning.Clients.{Doing, Client, reports_of, script_at, step_at, heard, after_hold}
use Rattle.world_model.specs.meaning.Settings.{Setting}
use Rattle.world_core.specs.declared.client.Course.{Course}

-- A client as it is held: its driver, the request that comes next, the one in course, and the
-- reports of those that are over.
pub record Held (R : Type 0) : Type 0 where
  pub driver : Driving R
  pub next : NextRequest
  pub course : Option Course
  pub past : List RequestReport

-- what its driver goes by
abbrev pub terms_in : (R : Type 0) → (R → Rules) → Held R → Terms
terms_in R rules held = terms_of (rules held.driver.rule) held.driver.limits held.driver.recorded

-- the step that its driver takes at an input
abbrev pub step_of : (R : Type 0) → (R → Rules) → Held R → Input → ℕ → Step
step_of R rules held input tick = talk_step (terms_in R rules held) held.driver.talk input tick

-- a request has 1 to 1,024 calls, each of which can be sent
pub record IsFit (request : Request) : Type 0 where
  pub some : 1 ≤ length request.calls
  pub few : length request.calls ≤ 1024
  pub made : AllByRecursion IsMade request.calls

abbrev pub done_of : Doing → List Done
done_of doing = map (λ step. step.done) doing.steps

-- the driver stands where the conversation does, and the draft is of its steps
pub record IsCourse (terms : Terms) (driven : Talk) (course : Course) (doing : Doing) : Type 0 where
  pub talk : driven ≡ doing.talk
  pub connection : course.connection ≡ doing.connection
  pub draft : IsDraft terms doing.request (done_of doing) course.draft

-- a request is in course, or none is and the driver rests
abbrev pub IsNow : Terms → Talk → Option Course → Option Doing → Type 0
IsNow terms talk None None = talk.phase ≡ Idle
IsNow terms talk (Some course) (Some doing) = IsCourse terms talk course doing
IsNow _ _ _ _ = ⊥

-- beside the request in course: the driver goes by the terms of the run, the reports are those of
-- the past requests, and the next request follows them; `is_lost` where the loss of its connection
-- is the next thing that is heard
pub record IsBeside (R : Type 0) (rules : R → Rules) (setting : Setting) (number tick : ℕ)
    (is_lost : Bool) (held : Held R) (client : Client) : Type 0 where
  pub terms : terms_in R rules held ≡ setting.terms
  pub past : held.past ≡ reports_of client.past
  pub following : IsNext (script_at setting number) (reports_of client.past) held.next
  pub next : client.next ≡ next_of (script_at setting number) (reports_of client.past)
  pub ticks : ArePast held.driver.talk tick
  pub gone : held.driver.gone_next ≡ is_lost

pub record IsClient (R : Type 0) (rules : R → Rules) (setting : Setting) (number tick : ℕ)
    (is_lost : Bool) (held : Held R) (client : Client) : Type 0 where
  pub beside : IsBeside R rules setting number tick is_lost held client
  pub now : IsNow setting.terms held.driver.talk held.course client.now

-- where the connection is not kept the driver rests, and no loss is to be heard
abbrev pub IsSettled : Talk → Bool → Hold → Type 0
IsSettled talk is_lost Keep = Unit {0}
IsSettled talk is_lost _ = (talk.phase ≡ Idle) × (is_lost ≡ false)

-- one report more, and the request that follows it
pub record Closes (R : Type 0) (script : List Request) (report : RequestReport)
    (before after : Held R) : Type 0 where
  pub driver : after.driver ≡ before.driver
  pub course : after.course ≡ before.course
  pub past : after.past ≡ before.past ++ report ∷ []
  pub next : (reports : List RequestReport) → IsNext script reports before.next
      → IsNext script (reports ++ report ∷ []) after.next

-- the request in course heard the input at this event: what is to be sent, what becomes of its
-- connection, and the client then
pub record Hears (R : Type 0) (rules : R → Rules) (setting : Setting) (number event tick : ℕ)
    (client : Client) (doing : Doing) (input : Input) (frames : List Up) (kept : Hold)
    (after : Held R) : Type 0 where
  pub send : frames ≡ (step_at setting.terms event tick doing input).done.act.send
  pub hold : kept ≡ (step_at setting.terms event tick doing input).done.act.hold
  pub stands : IsClient R rules setting number tick (is_gone_next input kept) after
      (after_hold setting number client (heard setting.terms event tick doing input) kept)

-- a request is in course now, or there is none
abbrev pub Begins : (R : Type 0) → (R → Rules) → Setting → ℕ → ℕ → Client → Option Doing → Bool
    → Held R → Type 0
Begins R rules setting number tick client None there after = (there ≡ false)
    × IsClient R rules setting number tick false after client
Begins R rules setting number tick client (Some doing) there after = (there ≡ true)
    × IsClient R rules setting number tick false after (record client { now = Some doing })

-- with this connection
abbrev pub with_connection : Option Course → Option ℕ → Option Course
with_connection None connection = None
with_connection (Some course) connection = Some (record course { connection = connection })
