-- A step of a client, with what it does to the traffic.
use Rattle.std.specs.Prelude.{◌≡◌, ◌<◌, ◌≤◌, ◌+◌, ℕ, Bool, true, false, IsTrue, List, length, Option, Some, None, unwrap_or}
use Rattle.std.specs.Option.{option_map_or}
use Rattle.svc_values.specs.declared.entry.Ltxid.{Ltxid}
use Rattle.pool_core.specs.meaning.Slots.{is_among}
use Rattle.request_bounds.specs.meaning.Rules.{Rules}
use Rattle.outage_schedule.specs.declared.document.Request.{Request}
use Rattle.client_model.specs.declared.input.Input.{Input}
use Rattle.client_model.specs.declared.input.Wants.{Wants}
use Rattle.client_model.specs.declared.input.Wants.TheVariants as wants
use Rattle.client_model.specs.declared.input.Input.TheVariants.{TryFailed}
use Rattle.client_model.specs.Conversation.{is_wanted, is_gone_next}
use Rattle.client_model.specs.meaning.Talk.{wants_of}
use Rattle.client_model.specs.meaning.Terms.{Phase, Idle, Unbegun}
use Rattle.world_model.specs.meaning.Acting.{act_at, connection_of, frames_of, steps}
use Rattle.world_model.specs.meaning.Clients.{Doing, Client, client_at, script_at, doing_of, heard, after_hold}
use Rattle.world_model.specs.Orderly.{Orderly}
use Rattle.world_model.specs.meaning.Links.{Link, link_at}
use Rattle.world_model.specs.meaning.Machines.{Machine}
use Rattle.world_model.specs.meaning.Settings.{Setting}
use Rattle.world_model.specs.Traced.{Traced}
use Rattle.world_core.specs.declared.client.Course.{Course}
use Rattle.world_core.specs.declared.traffic.Traffic.{Traffic}
use Rattle.world_core.specs.Coursing.{Held, IsClient}
use Rattle.world_core.specs.Underway.{IsUnderway}

-- the connection of the request in course, and 0 where it has none
abbrev pub connection_in : Option Course → ℕ
connection_in None = 0
connection_in (Some course) = unwrap_or course.connection 0

-- The machine took the step of this client, and traffic and client stand for what they are then.
pub record Acts (R : Type 0) (rules : R → Rules) (setting : Setting) (m : Machine) (number : ℕ)
    (client : Client) (doing : Doing) (holds_slot : Bool) (input : Input) (many : ℕ)
    (traffic : Traffic) (held : Held R) : Type 0 where
  pub sent : many ≡ length (frames_of m.pool (connection_of doing) (act_at setting m doing input))
  pub underway : IsUnderway traffic (steps setting m number doing holds_slot input)
  pub stands : IsClient R rules setting number m.tick
      (is_gone_next input (act_at setting m doing input).hold) held
      (after_hold setting number client (heard setting.terms m.event m.tick doing input)
      (act_at setting m doing input).hold)

-- WHERE A CLIENT STANDS ---------------------------------------------------------------------------

-- it has begun and is not over
abbrev pub is_going : Phase → Bool
is_going Idle = false
is_going Unbegun = false
is_going _ = true

-- so is the request in course, if there is one
abbrev pub IsGoing : Option Doing → Type 0
IsGoing now = IsTrue (option_map_or (λ doing. is_going doing.talk.phase) now true)

-- The client of this number is in this request at the machine, which wants this; and traffic and
-- client stand for them. `is_lost` as for a client.
pub record IsPlaced (R : Type 0) (rules : R → Rules) (script : List Request) (number : ℕ)
    (wanted : Wants) (is_lost : Bool) (traffic : Traffic) (held : Held R) (setting : Setting)
    (m : Machine) (client : Client) (doing : Doing) : Type 0 where
  pub scripted : script ≡ script_at setting number
  pub there : client_at m.clients number ≡ Some client
  pub underway : IsUnderway traffic m
  pub stands : IsClient R rules setting number m.tick is_lost held
      (record client { now = Some doing })
  pub wants : wants_of setting.terms doing.talk m.tick ≡ wanted

-- a slot is lent, and the connection of this number was opened and is not idle
pub record IsHis (m : Machine) (connection : ℕ) (link : Link) : Type 0 where
  pub found : link_at m.links connection ≡ Some link
  pub lent : 0 < m.pool.lent
  pub opened : connection ≤ m.pool.opened
  pub busy : is_among connection m.pool.idle ≡ false

-- where a machine is that this stands for
pub record SomePlaced (R : Type 0) (rules : R → Rules) (script : List Request) (number : ℕ)
    (wanted : Wants) (is_lost : Bool) (traffic : Traffic) (held : Held R) : Type 0 where
  pub setting : Setting
  pub machine : Machine
  pub client : Client
  pub doing : Doing
  pub placed : IsPlaced R rules script number wanted is_lost traffic held setting machine client
      doing

-- it may try to open a connection, and has a slot
pub record SomeTrying (R : Type 0) (rules : R → Rules) (script : List Request) (number : ℕ)
    (traffic : Traffic) (held : Held R) : Type 0 where
  pub wanted : Wants
  pub some : SomePlaced R rules script number wanted false traffic held
  pub tries : is_wanted wanted TryFailed ≡ true
  pub lent : 0 < some.machine.pool.lent

-- the loss of its connection may be told
pub record SomeLosing (R : Type 0) (rules : R → Rules) (script : List Request) (number : ℕ)
    (traffic : Traffic) (held : Held R) : Type 0 where
  pub is_lost : Bool
  pub some : SomePlaced R rules script number wants.Frame is_lost traffic held

-- an idle connection is lent to it, which is open and has this identifier
pub record IsOffered (m : Machine) (connection : ℕ) (link : Link) (ltxid : Ltxid) : Type 0 where
  pub his : IsHis m connection link
  pub is_open : link.is_open ≡ true
  pub has : link.held ≡ Some ltxid

pub record SomeOffered (R : Type 0) (rules : R → Rules) (script : List Request)
    (number connection : ℕ) (traffic : Traffic) (held : Held R) : Type 0 where
  pub some : SomePlaced R rules script number wants.Slot false traffic held
  pub link : Link
  pub ltxid : Ltxid
  pub offered : IsOffered some.machine connection link ltxid

-- it awaits a frame on a connection, which is open or not
pub record IsAwaiting (m : Machine) (doing : Doing) (connection : ℕ) (ended : Option ℕ)
    (link : Link) : Type 0 where
  pub has : doing.connection ≡ Some connection
  pub his : IsHis m connection link
  pub ends : link.ended ≡ ended

pub record SomeAwaiting (R : Type 0) (rules : R → Rules) (script : List Request)
    (number connection : ℕ) (ended : Option ℕ) (traffic : Traffic) (held : Held R) : Type 0 where
  pub some : SomePlaced R rules script number wants.Frame false traffic held
  pub link : Link
  pub awaits : IsAwaiting some.machine some.doing connection ended link

-- A STEP AS A WHOLE -------------------------------------------------------------------------------

-- The machine goes on by this client alone, and traffic and client stand for what they are then.
pub record Goes (R : Type 0) (rules : R → Rules) (setting : Setting) (m : Machine) (number : ℕ)
    (next : Option Machine) (traffic : Traffic) (held : Held R) : Type 0 where
  pub after : Machine
  pub client : Client
  pub followed : next ≡ Some after
  pub underway : IsUnderway traffic after
  pub placed : client_at after.clients number ≡ Some client
  pub others : (other : ℕ) → (other ≡ number → ⊥)
      → client_at after.clients other ≡ client_at m.clients other
  pub same : (after.event ≡ m.event) × (after.tick ≡ m.tick) × (after.server ≡ m.server)
  pub stands : IsClient R rules setting number m.tick false held client
  pub going : IsGoing client.now

-- wherever the machine was with the client in this want, it goes on to what follows
abbrev pub Follows : (R : Type 0) → (R → Rules) → List Request → ℕ → Wants → Bool → Traffic → Held R
    → (Setting → Machine → Doing → Option Machine) → Traffic → Held R → Type 0
Follows R rules script number wanted is_lost before old next after new =
    (setting : Setting) (m : Machine) (client : Client) (doing : Doing)
    → IsPlaced R rules script number wanted is_lost before old setting m client doing
    → Goes R rules setting m number (next setting m doing) after new

-- AT AN EVENT -------------------------------------------------------------------------------------

-- the machine at its next event
abbrev pub at_next : Traced → Machine
at_next t = record t.machine { event = t.machine.event + 1 }

-- the client stands so between two events
pub record IsStanding (R : Type 0) (rules : R → Rules) (script : List Request) (number : ℕ)
    (traffic : Traffic) (held : Held R) (t : Traced) (client : Client) : Type 0 where
  pub orderly : Orderly t
  pub scripted : script ≡ script_at t.setting number
  pub there : client_at t.machine.clients number ≡ Some client
  pub underway : IsUnderway traffic (at_next t)
  pub stands : IsClient R rules t.setting number t.machine.tick false held client
  pub going : IsGoing client.now

pub record SomeStanding (R : Type 0) (rules : R → Rules) (script : List Request) (number : ℕ)
    (traffic : Traffic) (held : Held R) : Type 0 where
  pub traced : Traced
  pub client : Client
  pub standing : IsStanding R rules script number traffic held traced client

-- its request has begun, if it was not in course before
pub record IsTurn (R : Type 0) (rules : R → Rules) (script : List Request) (number : ℕ)
    (wanted : Wants) (traffic : Traffic) (held : Held R) (t : Traced) (client : Client)
    (doing : Doing) : Type 0 where
  pub orderly : Orderly t
  pub does : doing_of t.setting.terms (t.machine.event + 1) t.machine.tick client ≡ Some doing
  pub placed : IsPlaced R rules script number wanted false traffic held t.setting
      (at_next t) client doing

pub record SomeTurn (R : Type 0) (rules : R → Rules) (script : List Request) (number : ℕ)
    (wanted : Wants) (traffic : Traffic) (held : Held R) : Type 0 where
  pub traced : Traced
  pub client : Client
  pub doing : Doing
  pub turn : IsTurn R rules script number wanted traffic held traced client doing
