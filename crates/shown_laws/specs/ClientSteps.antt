-- What the notes and the items of a run tell of a step of a client, beside what the client did.
use Rattle.std.specs.Prelude.{◌≡◌, ◌<◌, ◌+◌, ◌==◌, ℕ, true, false, IsTrue, List, [], ◌∷◌, ◌++◌, length, Option, Some, None, unwrap_or, if◌then◌else◌}
use Rattle.std.specs.List.{list_any, last_or}
use Rattle.svc_values.specs.declared.entry.Ltxid.{Ltxid}
use Rattle.svc_values.specs.declared.frame.Down.{Down}
use Rattle.svc_values.specs.meaning.Identifiers.{same_ltxid, session_of}
use Rattle.client_model.specs.declared.act.Hold.TheVariants as hold
use Rattle.client_model.specs.declared.input.Input.{Input}
use Rattle.client_model.specs.declared.input.Input.TheVariants.{Waiting, Lent, Opened, TryFailed, Took, Gone}
use Rattle.client_model.specs.declared.input.Wants.{Wants}
use Rattle.client_model.specs.declared.input.Wants.TheVariants as wants
use Rattle.client_model.specs.meaning.Talk.{wants_of}
use Rattle.client_model.specs.meaning.Terms.{Phase}
use Rattle.outage_schedule.specs.declared.item.Served.{Served}
use Rattle.outage_schedule.specs.declared.note.GoNote.TheVariants as go
use Rattle.shown_clauses.specs.meaning.Links.{Link as Seen, is_connect}
use Rattle.shown_clauses.specs.meaning.Steps.{Step as StepTold, asked_of}
use Rattle.world_model.specs.meaning.Clients.{Step, Doing, step_at, heard}
use Rattle.world_model.specs.meaning.Frames.{Owner, Sent, Handled}
use Rattle.world_model.specs.records.Hold.{is_awaited}
use Rattle.world_model.specs.meaning.Links.{Link, link_at}
use Rattle.invariant_laws.specs.Lost.{is_wanted, lost_links}
use Rattle.world_model.specs.Sames.{owned_by, same_sent}
use Rattle.world_model.specs.meaning.Serving.{is_item_of, reply_of}
use Rattle.world_model.specs.Traced.{Traced, Course, course_now}
use Rattle.world_model.specs.Wanted.{Wanted, wanted_in}
use Rattle.world_model.specs.records.Wire.{same_replies}
use Rattle.caused_laws.specs.Telling.{SentBy}
use Rattle.shown_laws.specs.Connections.{TellsLink}

-- REPLIES -----------------------------------------------------------------------------------------

-- A reply that is taken, as it is told: the item is that of a frame which this connection's session
-- answered with this reply, and the frame is the one that the request sent last there and awaited
-- the reply to.
pub record TellsReply (owner : Owner) (phase : Phase) (link : Link) (frame : Down)
    (served : Served) : Type 0 where
  pub one : Handled
  pub before : List Handled
  pub later : List Handled
  pub among : link.served ≡ before ++ one ∷ later
  pub item : one.served ≡ served
  pub reply : one.reply ≡ Some frame
  pub commits : ℕ
  pub is_its : IsTrue (is_item_of one.sent.frame served.item)
  pub says : IsTrue (same_replies (Some frame) (reply_of served.session commits served.item))
  pub sent : Sent
  pub last : last_or None link.sent ≡ Some sent
  pub same : IsTrue (same_sent one.sent sent)
  pub own : IsTrue (owned_by owner sent)
  pub awaited : IsTrue (is_awaited phase sent)
  pub session : link.session ≡ Some served.session

-- The connection whose outcome is taken, as it is told: that of the session of the identifier. The
-- request lost it, held this identifier on it, and goes by the event that is told to have ended it.
pub record TellsLost (t : Traced) (course : Course) (x : Ltxid) (told : Option Seen) : Type 0 where
  pub wanted : Wanted
  pub wants : wanted_in course.phase ≡ Some wanted
  pub same : IsTrue (same_ltxid x wanted.ltxid)
  pub number : ℕ
  pub among : IsTrue (list_any (λ other. other == number) (lost_links course))
  pub link : Link
  pub there : link_at t.machine.links number ≡ Some link
  pub is_its : IsTrue (is_wanted link wanted)
  pub seen : Seen
  pub found : told ≡ Some seen
  pub tells : TellsLink number link seen
  pub ended : seen.ended ≡ wanted.event
  pub some : 0 < seen.ended

-- where no outcome is taken none is told
pub data LostTold (t : Traced) (course : Course) (told : Option Seen) : Option Ltxid → Type 0 where
  NoneAsked : told ≡ None → LostTold t course told None
  WasAsked : (x : Ltxid) → TellsLost t course x told → LostTold t course told (Some x)

-- STEPS -------------------------------------------------------------------------------------------

-- nothing is told of a reply, a session or a loss
pub record IsBare (step : StepTold) : Type 0 where
  pub taken : step.taken ≡ None
  pub session : step.session ≡ None
  pub lost : step.lost ≡ None

-- what the request does at an input in the next event
abbrev pub now_at : Traced → Doing → Input → Step
now_at t doing input = step_at t.setting.terms (t.machine.event + 1) t.machine.tick doing input

abbrev pub after_now : Traced → Doing → Input → Doing
after_now t doing input = heard t.setting.terms (t.machine.event + 1) t.machine.tick doing input

-- the event of a loss, as the client hears it
abbrev pub ended_at : Link → ℕ
ended_at link = unwrap_or link.ended 0

-- Behind a reply the connection is gone in the same event, where it had ended and the request goes
-- on.
pub data GoneBehind (t : Traced) (doing : Doing) (link : Link) (frame : Down) : List Step
    → Type 0 where
  GoesOn : link.is_open ≡ true → GoneBehind t doing link frame []
  IsOver : link.is_open ≡ false → ((now_at t doing (Took frame link.is_open)).done.act.hold
      ≡ hold.Keep → ⊥) → GoneBehind t doing link frame []
  IsGone : link.is_open ≡ false → (now_at t doing (Took frame link.is_open)).done.act.hold
      ≡ hold.Keep → GoneBehind t doing link frame
      (now_at t (after_now t doing (Took frame link.is_open)) (Gone (ended_at link)) ∷ [])

-- what the request wants then, and that it has begun
abbrev pub wants_at : Traced → Doing → Wants
wants_at t doing = wants_of t.setting.terms doing.talk t.machine.tick

abbrev pub HasBegun : Traced → Doing → Type 0
HasBegun t doing = wants_at t doing ≡ wants.Request → ⊥

-- What a step of a client is told as, by its kind, and what the request did at it.
pub data TellsKind (t : Traced) (client place : ℕ) (doing : Doing) (step : StepTold) : List Step
    → Type 0 where
  Rested : step.did ≡ go.Early → wants_at t doing ≡ wants.Early → IsBare step
      → TellsKind t client place doing step []
  FoundNone : step.did ≡ go.NoFrame → wants_at t doing ≡ wants.Frame → IsBare step
      → TellsKind t client place doing step []
  Waited : step.did ≡ go.Wait → HasBegun t doing → IsBare step
      → TellsKind t client place doing step (now_at t doing Waiting ∷ [])
  WasLent : (connection : ℕ) (link : Link) (ltxid : Ltxid) → step.did ≡ go.Lent connection
      → HasBegun t doing → link_at t.machine.links connection ≡ Some link → link.held ≡ Some ltxid
      → step.taken ≡ None → step.session ≡ link.session → step.session ≡ Some (session_of ltxid)
      → step.lost ≡ None → TellsKind t client place doing step
      (now_at t doing (Lent connection ltxid) ∷ [])
  HasOpened : (connection : ℕ) → step.did ≡ go.Open connection
      → connection ≡ length t.machine.links + 1 → HasBegun t doing → IsBare step
      → TellsKind t client place doing step (now_at t doing (Opened connection) ∷ [])
  HasFailed : step.did ≡ go.Down → HasBegun t doing → IsBare step
      → TellsKind t client place doing step (now_at t doing TryFailed ∷ [])
  HasTaken : (connection sent : ℕ) (link : Link) (frame : Down) (served : Served) (more : List Step)
      → step.did ≡ go.Took connection sent
      → SentBy (now_at t doing (Took frame link.is_open)).done.act sent
      → doing.connection ≡ Some connection → link_at t.machine.links connection ≡ Some link
      → step.taken ≡ Some served → TellsReply (record {
        client = client;
        place = place;
      }) doing.talk.phase link frame served
      → step.session ≡ (if is_connect served.item then Some served.session else None)
      → LostTold t (course_now t.setting client place doing) step.lost (asked_of served.item)
      → GoneBehind t doing link frame more
      → TellsKind t client place doing step (now_at t doing (Took frame link.is_open) ∷ more)
  HasLost : (connection : ℕ) (link : Link) → step.did ≡ go.Lost connection
      → doing.connection ≡ Some connection → link_at t.machine.links connection ≡ Some link
      → link.is_open ≡ false → IsBare step
      → TellsKind t client place doing step (now_at t doing (Gone (ended_at link)) ∷ [])
