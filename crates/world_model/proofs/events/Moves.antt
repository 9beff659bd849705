-- What an event does to the state, kind by kind, with what holds where it does it.
use Rattle.std.proofs.Common.{◌≡◌, refl, Bool, true, false, ℕ, ◌+◌, length, List, [], ◌∷◌, ◌++◌, Option, Some}
use Rattle.svc_values.specs.declared.entry.Ltxid.{Ltxid}
use Rattle.pool_core.specs.declared.answers.Take.TheVariants as take
use Rattle.pool_core.specs.meaning.Slots.{Slots, take_answer, after_take, after_opened}
use Rattle.client_model.specs.declared.input.Input.TheVariants.{Waiting, Lent, Opened, TryFailed, Took}
use Rattle.client_model.specs.declared.input.Wants.{Wants}
use Rattle.client_model.specs.declared.input.Wants.TheVariants as wants
use Rattle.client_model.specs.meaning.Talk.{wants_of}
use Rattle.outage_schedule.specs.declared.note.GoNote.{GoNote}
use Rattle.outage_schedule.specs.declared.note.FrameName.{FrameName}
use Rattle.outage_schedule.specs.declared.note.Reached.{Reached}
use Rattle.outage_schedule.specs.declared.note.AskResult.{AskResult}
use Rattle.outage_schedule.specs.declared.note.OutsideNote.{OutsideNote}
use Rattle.outage_schedule.specs.declared.item.Served.{Served}
use Rattle.world_model.specs.meaning.Settings.{Setting}
use Rattle.world_model.specs.meaning.Frames.{Reply}
use Rattle.world_model.specs.meaning.Links.{Link, new_link, link_at, with_link, changed, takes}
use Rattle.world_model.specs.meaning.Clients.{Client, Doing, client_at, doing_of}
use Rattle.world_model.specs.meaning.Machines.{Machine}
use Rattle.world_model.specs.meaning.Acting.{steps, loses}
use Rattle.world_model.specs.meaning.Noting.{only_if}
use Rattle.world_model.specs.meaning.Matching.{Noted, Went, ServedOn, CutOff, Reaped, Crashed, OpeningStopped, Ticked, RanOutside, Asked, Drained}
use Rattle.world_model.specs.meaning.Matching as noted_as
use Rattle.world_model.specs.meaning.Going.{unless_open}
use Rattle.world_model.specs.meaning.Serving.{Front, front_at, is_ordinary, after_served}
use Rattle.world_model.specs.meaning.Cutting.{open_at, after_cut, has_orphan, reaped_link}
use Rattle.world_model.specs.meaning.Crashing.{is_stopped, is_over, falls, after_stopped}
use Rattle.world_model.specs.meaning.Opening.{may_open, opened}
use Rattle.world_model.specs.meaning.Outside.{ticked, after_asked, drained}

-- where something is reached, the test is met
pub only_met : {A : Type 0} (test : Bool) (a b : A) → only_if test a ≡ Some b → test ≡ true
only_met true a b e = refl
only_met false a b e = absurd (let none : ⊥ = cc in none)

-- A STEP OF A CLIENT ------------------------------------------------------------------------------

-- the client of this number is at this request, new or old, and this is what it wants
pub record IsDoing (setting : Setting) (m : Machine) (number : ℕ) (doing : Doing) (wanted : Wants) : Type 0 where
  pub client : Client
  pub here : client_at m.clients number ≡ Some client
  pub does : doing_of setting.terms m.event m.tick client ≡ Some doing
  pub wants : wants_of setting.terms doing.talk m.tick ≡ wanted

abbrev pub with_pool : Machine → Slots → Machine
with_pool m pool = record m { pool = pool }

-- the pool from which a try is made
pub data Tries (m : Machine) (number : ℕ) : Wants → Slots → Type 0 where
  FromQueue : take_answer m.pool number ≡ take.Open → Tries m number wants.Slot (after_take m.pool number)
  Again : Tries m number wants.Try m.pool

abbrev pub next_number : Machine → ℕ
next_number m = length m.links + 1

-- with a new connection
abbrev pub with_new : Machine → Slots → Machine
with_new m pool = record m { links = m.links ++ new_link ∷ []; pool = after_opened pool (next_number m) }

abbrev pub opens_one : Setting → Machine → ℕ → Doing → Slots → Machine
opens_one setting m number doing pool =
    steps setting (with_new m pool) number (record doing { connection = Some (next_number m) }) true (Opened (next_number m))

abbrev pub takes_one : Setting → Machine → ℕ → Doing → ℕ → Link → Reply → List Reply → Machine
takes_one setting m number doing connection link reply left =
    steps setting (record m { links = with_link m.links connection (takes (Took reply.frame link.is_open) reply left link) }) number doing true (Took reply.frame link.is_open)

-- the request's connection
pub record IsOn (m : Machine) (doing : Doing) (connection : ℕ) (link : Link) : Type 0 where
  pub has : doing.connection ≡ Some connection
  pub there : link_at m.links connection ≡ Some link

pub data Goes (setting : Setting) (m : Machine) (number : ℕ) : Machine → Type 0 where
  Rests : Goes setting m number m
  Waits : (doing : Doing) → IsDoing setting m number doing wants.Slot → take_answer m.pool number ≡ take.Waiting
      → Goes setting m number (steps setting (with_pool m (after_take m.pool number)) number doing false Waiting)
  Lends : (doing : Doing) (connection : ℕ) (link : Link) (ltxid : Ltxid) → IsDoing setting m number doing wants.Slot → take_answer m.pool number ≡ take.Lent connection
      → link_at m.links connection ≡ Some link → link.held ≡ Some ltxid
      → Goes setting m number (steps setting (with_pool m (after_take m.pool number)) number (record doing { connection = Some connection }) true (Lent connection ltxid))
  Opens : (doing : Doing) (wanted : Wants) (pool : Slots) → IsDoing setting m number doing wanted → Tries m number wanted pool → m.server.is_up ≡ true
      → Goes setting m number (opens_one setting m number doing pool)
  Fails : (doing : Doing) (wanted : Wants) (pool : Slots) → IsDoing setting m number doing wanted → Tries m number wanted pool → m.server.is_up ≡ false
      → Goes setting m number (steps setting (with_pool m pool) number doing true TryFailed)
  Takes : (doing : Doing) (connection : ℕ) (link : Link) (reply : Reply) (left : List Reply) → IsDoing setting m number doing wants.Frame → IsOn m doing connection link
      → link.down ≡ reply ∷ left → Goes setting m number (unless_open setting (takes_one setting m number doing connection link reply left) number link)
  Loses : (doing : Doing) (connection : ℕ) (link : Link) → IsDoing setting m number doing wants.Frame → IsOn m doing connection link
      → link.down ≡ [] → link.is_open ≡ false → Goes setting m number (loses setting m number doing link.ended)

-- EVENTS ------------------------------------------------------------------------------------------

-- what a crash may serve before it
pub data ServesLast (m : Machine) (number after : ℕ) (items left : List Served) : Machine → Type 0 where
  LastNone : items ≡ left → ServesLast m number after items left m
  LastStopped : (front : Front) (served : Served) → front_at m.links number ≡ Some front → is_stopped m after front served ≡ true → items ≡ served ∷ left
      → ServesLast m number after items left (after_stopped m number front served)
  LastServed : (front : Front) (served : Served) → front_at m.links number ≡ Some front → is_over m after front served ≡ true → items ≡ served ∷ left
      → ServesLast m number after items left (after_served m number front served)

-- a session was made outside
abbrev pub makes_outside : Noted → Bool
makes_outside (RanOutside (Some ran)) = true
makes_outside _ = false

pub data Happens (setting : Setting) (m : Machine) (items left : List Served) : Noted → Machine → Type 0 where
  Nothing : (happened : Noted) → makes_outside happened ≡ false → Happens setting m items left happened m
  IsStep : (number : ℕ) (did : GoNote) (n : Machine) → Goes setting m number n → Happens setting m items left (Went number did) n
  Serves : (number : ℕ) (frame : Option FrameName) (front : Front) (served : Served) → front_at m.links number ≡ Some front → is_ordinary m front served ≡ true → items ≡ served ∷ left
      → Happens setting m items left (ServedOn number frame) (after_served m number front served)
  Cuts : (number up down : ℕ) (reached : Option Reached) (link : Link) → open_at m.links number ≡ Some link → Happens setting m items left (CutOff number up down reached) (after_cut m number up down link)
  Reaps : (number : ℕ) (reaped : Bool) → has_orphan m.links number ≡ true → Happens setting m items left (Reaped number reaped) (record m { links = changed reaped_link m.links number })
  Crashes : (number after : ℕ) (failover down : Bool) (a : Machine) → m.server.is_up ≡ true → ServesLast m number after items left a
      → Happens setting m items left (Crashed number after failover down) (falls failover a)
  OpensUp : (incarnation : ℕ) → m.server.is_up ≡ false → may_open m.server incarnation ≡ true
      → Happens setting m items left (noted_as.Opened (Some incarnation)) (record m { server = opened m.server incarnation })
  StopsOpening : (made : Bool) → m.server.is_up ≡ false → Happens setting m items left (OpeningStopped made) (record m { server = record m.server { stopped = m.server.stopped + 1 } })
  Ticks : Happens setting m items left Ticked (ticked m)
  RunsOutside : (ran : OutsideNote) → m.server.is_up ≡ true
      → Happens setting m items left (RanOutside (Some ran)) (record m { server = record m.server { sessions = m.server.sessions + 1 } })
  Asks : (ltxid : Ltxid) (result : AskResult) → m.server.is_up ≡ true → Happens setting m items left (Asked ltxid (Some result)) (record m { server = after_asked m.server ltxid result })
  Drains : (closed : ℕ) → Happens setting m items left (Drained closed) (drained m)
