-- A client's step as an event of a run: machine and service go on together, and the client stands
-- for what the machine has then.
use Rattle.std.specs.Prelude.{◌≡◌, ℕ, false, List, [], Option, Some, None}
use Rattle.request_bounds.specs.meaning.Rules.{Rules}
use Rattle.outage_schedule.specs.declared.document.Request.{Request}
use Rattle.outage_schedule.specs.declared.event.Event.TheVariants as event
use Rattle.outage_schedule.specs.declared.note.GoNote.{GoNote}
use Rattle.outage_schedule.specs.declared.note.GoNote.TheVariants as go
use Rattle.outage_schedule.specs.declared.note.Note.{Note}
use Rattle.server_model.specs.Seen.{Seen}
use Rattle.world_model.specs.meaning.Clients.{Client, client_at, script_at}
use Rattle.world_model.specs.Forgets.{Forgets}
use Rattle.world_model.specs.OneEvent.{OneEvent}
use Rattle.world_model.specs.Traced.{Traced}
use Rattle.world_core.specs.declared.traffic.Traffic.{Traffic}
use Rattle.world_core.specs.Coursing.{Held, IsClient}
use Rattle.world_core.specs.Stepping.{IsGoing}
use Rattle.world_core.specs.Making.{IsAt}

-- the connection that a step opened, if it opened one
abbrev pub opened_in : GoNote → Option ℕ
opened_in (go.Open number) = Some number
opened_in _ = None

-- Between two events a client stands for the one of this number. A request in course has begun and
-- is not over: at the start none is, and each step keeps it.
pub record StandsFor (R : Type 0) (rules : R → Rules) (script : List Request) (number : ℕ)
    (held : Held R) (t : Traced) (client : Client) : Type 0 where
  pub scripted : script ≡ script_at t.setting number
  pub there : client_at t.machine.clients number ≡ Some client
  pub stands : IsClient R rules t.setting number t.machine.tick false held client
  pub going : IsGoing client.now

-- service and traffic stand somewhere, with this client beside them
pub record SomeBeside (R : Type 0) (rules : R → Rules) (sees : Seen → Type 0)
    (script : List Request) (number : ℕ) (traffic : Traffic) (held : Held R) : Type 0 where
  pub seen : Seen
  pub traced : Traced
  pub client : Client
  pub place : IsAt sees traffic seen traced
  pub stands : StandsFor R rules script number held traced client

-- The step was made with this note and serves nothing. The client stands for what the machine has
-- then. The others are as before, and what stood for one does so still.
pub record StepMade (R : Type 0) (rules : R → Rules) (sees_later : Seen → Type 0)
    (script : List Request) (number : ℕ) (after : Traffic) (held : Held R) (seen : Seen)
    (t : Traced) (note : Note) : Type 0 where
  pub seen_later : Seen
  pub later : Traced
  pub client : Client
  pub made : OneEvent seen t (event.Go number) note [] [] seen_later later
  pub forgets : (below : ℕ) → Forgets below note seen.state.store seen_later.state.store
  pub place : IsAt sees_later after seen_later later
  pub stands : StandsFor R rules script number held later client
  pub same : (other : ℕ) → (other ≡ number → ⊥)
      → client_at later.machine.clients other ≡ client_at t.machine.clients other
  pub others : (other : ℕ) (own : List Request) (kept : Held R) (one : Client)
      → (other ≡ number → ⊥) → StandsFor R rules own other kept t one
      → StandsFor R rules own other kept later one

-- whatever was seen, and wherever the machine stood with this client
abbrev pub MakesStep : (R : Type 0) → (R → Rules) → (Seen → Type 0) → Traffic → (Seen → Type 0)
    → Traffic → List Request → ℕ → Held R → Held R → Note → Type 0
MakesStep R rules sees before sees_later after script number old new note =
    (seen : Seen) (t : Traced) (client : Client) → IsAt sees before seen t
    → StandsFor R rules script number old t client
    → StepMade R rules sees_later script number after new seen t note
