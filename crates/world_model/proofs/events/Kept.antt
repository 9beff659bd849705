-- Which parts of the state each kind of event leaves as they are.
use Rattle.std.proofs.Common.{◌≡◌, refl, ap, subst, Bool, true, false, ℕ, List, [], ◌∷◌, Option, Some, None, if◌then◌else◌}
use Rattle.std.specs.Prelude.{option_and_then}
use Rattle.svc_values.specs.declared.entry.Ltxid.{Ltxid}
use Rattle.pool_core.specs.declared.answers.Take.{Take}
use Rattle.pool_core.specs.declared.answers.Take.TheVariants as take
use Rattle.pool_core.specs.meaning.Slots.{take_answer, after_take}
use Rattle.client_model.specs.declared.input.Wants.{Wants}
use Rattle.client_model.specs.declared.input.Wants.TheVariants as wants
use Rattle.client_model.specs.meaning.Talk.{wants_of}
use Rattle.outage_schedule.specs.declared.note.GoNote.{GoNote}
use Rattle.outage_schedule.specs.declared.item.Served.{Served}
use Rattle.world_model.specs.meaning.Settings.{Setting}
use Rattle.world_model.specs.meaning.Frames.{Reply}
use Rattle.world_model.specs.meaning.Links.{Link, link_at}
use Rattle.world_model.specs.meaning.Clients.{Doing}
use Rattle.world_model.specs.meaning.Machines.{Machine}
use Rattle.world_model.specs.meaning.Noting.{only_if, same_did}
use Rattle.world_model.specs.meaning.Going.{noted, tries_while, lends, takes_slot, lost_at_once, looks, looks_at, goes_by, goes}
use Rattle.world_model.specs.meaning.Serving.{Front, after_served}
use Rattle.world_model.specs.meaning.Crashing.{is_stopped, is_over, serves_last, after_stopped}
use Rattle.world_model.specs.meaning.Walking.{After}
use Rattle.world_model.proofs.events.Items.{reaches, reaches_if}

-- where the test is met, it is that
pub only_is : {A : Type 0} (test : Bool) (a b : A) → only_if test a ≡ Some b → a ≡ b
only_is true a b e = let same : a ≡ b = cc in same
only_is false a b e = absurd (let none : ⊥ = cc in none)

-- GO ----------------------------------------------------------------------------------------------

-- the server and the clock
pub record IsSameServer (a b : Machine) : Type 0 where
  pub server : b.server ≡ a.server
  pub tick : b.tick ≡ a.tick
  pub event : b.event ≡ a.event

abbrev by_same : (m a b : Machine) → a ≡ b → IsSameServer m a → IsSameServer m b
by_same m a b e same = subst (IsSameServer m) e same

noted_same : (m : Machine) (did expected : GoNote) (a b : Machine) → IsSameServer m a → noted did expected a ≡ Some b → IsSameServer m b
noted_same m did expected a b same e = by_same m a b (only_is (same_did did expected) a b e) same

tries_same : (setting : Setting) (m : Machine) (client : ℕ) (did : GoNote) (doing : Doing) (is_up : Bool) (n : Machine) → tries_while setting m client did doing is_up ≡ Some n → IsSameServer m n
tries_same setting m client did doing true n e = noted_same m did _ _ n (record { server = refl; tick = refl; event = refl }) e
tries_same setting m client did doing false n e = noted_same m did _ _ n (record { server = refl; tick = refl; event = refl }) e

lends_same : (setting : Setting) (m : Machine) (client : ℕ) (did : GoNote) (doing : Doing) (number : ℕ) (held : Option Ltxid) (n : Machine)
    → lends setting m client did doing number held ≡ Some n → IsSameServer m n
lends_same setting m client did doing number None n e = absurd (let none : ⊥ = cc in none)
lends_same setting m client did doing number (Some ltxid) n e = noted_same m did _ _ n (record { server = refl; tick = refl; event = refl }) e

slot_same : (setting : Setting) (m : Machine) (client : ℕ) (did : GoNote) (doing : Doing) (answer : Take) (n : Machine)
    → takes_slot setting m client did doing answer ≡ Some n → IsSameServer m n
slot_same setting m client did doing take.Waiting n e = noted_same m did _ _ n (record { server = refl; tick = refl; event = refl }) e
slot_same setting m client did doing (take.Lent number) n e = lends_same setting m client did doing number (option_and_then (λ (link : Link). link.held) (link_at m.links number)) n e
slot_same setting m client did doing take.Open n e = tries_same setting m client did doing m.server.is_up n e

lost_same : (setting : Setting) (m : Machine) (client : ℕ) (ended : Option ℕ) (doing : Option Doing) → IsSameServer m (lost_at_once setting m client ended doing)
lost_same setting m client ended None = record { server = refl; tick = refl; event = refl }
lost_same setting m client ended (Some doing) = record { server = refl; tick = refl; event = refl }

unless_same : (setting : Setting) (m : Machine) (client : ℕ) (ended : Option ℕ) (doing : Option Doing) (is_open : Bool) → IsSameServer m (if is_open then m else lost_at_once setting m client ended doing)
unless_same setting m client ended doing true = record { server = refl; tick = refl; event = refl }
unless_same setting m client ended doing false = lost_same setting m client ended doing

finds_same : (setting : Setting) (m : Machine) (client : ℕ) (did : GoNote) (doing : Doing) (number : ℕ) (link : Link) (is_open : Bool) (n a : Machine) (none lost : GoNote)
    → IsSameServer m a → (if is_open then noted did none m else noted did lost a) ≡ Some n → IsSameServer m n
finds_same setting m client did doing number link true n a none lost same e = noted_same m did none m n (record { server = refl; tick = refl; event = refl }) e
finds_same setting m client did doing number link false n a none lost same e = noted_same m did lost a n same e

looks_same : (setting : Setting) (m : Machine) (client : ℕ) (did : GoNote) (doing : Doing) (number : ℕ) (link : Link) (down : List Reply) (n : Machine)
    → looks setting m client did doing number link down ≡ Some n → IsSameServer m n
looks_same setting m client did doing number link [] n e =
    finds_same setting m client did doing number link link.is_open n _ _ _ (record { server = refl; tick = refl; event = refl }) e
looks_same setting m client did doing number link (reply ∷ left) n e =
    noted_same m did _ _ n
    (let same : IsSameServer _ _ = unless_same setting _ client link.ended _ link.is_open in record { server = same.server; tick = same.tick; event = same.event }) e

found_same : (setting : Setting) (m : Machine) (client : ℕ) (did : GoNote) (doing : Doing) (number : ℕ) (link : Option Link) (n : Machine)
    → option_and_then (λ (one : Link). looks setting m client did doing number one one.down) link ≡ Some n → IsSameServer m n
found_same setting m client did doing number None n e = absurd (let none : ⊥ = cc in none)
found_same setting m client did doing number (Some link) n e = looks_same setting m client did doing number link link.down n e

connected_same : (setting : Setting) (m : Machine) (client : ℕ) (did : GoNote) (doing : Doing) (connection : Option ℕ) (n : Machine)
    → option_and_then (looks_at setting m client did doing) connection ≡ Some n → IsSameServer m n
connected_same setting m client did doing None n e = absurd (let none : ⊥ = cc in none)
connected_same setting m client did doing (Some number) n e = found_same setting m client did doing number (link_at m.links number) n e

by_same_wants : (setting : Setting) (m : Machine) (client : ℕ) (did : GoNote) (doing : Doing) (wanted : Wants) (n : Machine)
    → goes_by setting m client did doing wanted ≡ Some n → IsSameServer m n
by_same_wants setting m client did doing wants.Idle n e = absurd (let none : ⊥ = cc in none)
by_same_wants setting m client did doing wants.Request n e = absurd (let none : ⊥ = cc in none)
by_same_wants setting m client did doing wants.Slot n e =
    let same : IsSameServer (record m { pool = after_take m.pool client }) n = slot_same setting (record m { pool = after_take m.pool client }) client did doing (take_answer m.pool client) n e in
    record { server = same.server; tick = same.tick; event = same.event }
by_same_wants setting m client did doing wants.Try n e = tries_same setting m client did doing m.server.is_up n e
by_same_wants setting m client did doing wants.Early n e = noted_same m did _ m n (record { server = refl; tick = refl; event = refl }) e
by_same_wants setting m client did doing wants.Frame n e = connected_same setting m client did doing doing.connection n e

goes_same : (setting : Setting) (m : Machine) (client : ℕ) (did : GoNote) (doing : Option Doing) (n : Machine) → goes setting m client did doing ≡ Some n → IsSameServer m n
goes_same setting m client did None n e = noted_same m did _ m n (record { server = refl; tick = refl; event = refl }) e
goes_same setting m client did (Some doing) n e = by_same_wants setting m client did doing (wants_of setting.terms doing.talk m.tick) n e

-- SERVE, CUT, REAP, CRASH -------------------------------------------------------------------------

-- the clients and the clock
pub record IsSameClients (a b : Machine) : Type 0 where
  pub clients : b.clients ≡ a.clients
  pub tick : b.tick ≡ a.tick
  pub event : b.event ≡ a.event

-- the state that is reached, or else this one
abbrev machine_or : Machine → After → Machine
machine_or m None = m
machine_or m (Some next) = next.0

-- where the pair is reached only if the test is met
pub pair_is : (test : Bool) (a n : Machine) (items left : List Served) → reaches_if test a items ≡ Some (n, left) → a ≡ n
pair_is true a n items left e = ap (machine_or a) e
pair_is false a n items left e = absurd (let none : ⊥ = cc in none)

pub reached_is : (a n : Machine) (items left : List Served) → reaches a items ≡ Some (n, left) → a ≡ n
reached_is a n items left e = ap (machine_or a) e

with_clients : (m a n : Machine) → IsSameClients m a → a ≡ n → IsSameClients m n
with_clients m a n same e = subst (IsSameClients m) e same

stops_clients : (m a b n : Machine) (stopped over : Bool) (items left : List Served) → IsSameClients m a → IsSameClients m b
    → (if stopped then reaches a items else reaches_if over b items) ≡ Some (n, left) → IsSameClients m n
stops_clients m a b n true over items left first second e = with_clients m a n first (reached_is a n items left e)
stops_clients m a b n false over items left first second e = with_clients m b n second (pair_is over b n items left e)

last_clients : (m : Machine) (number after : ℕ) (items left : List Served) (front : Option Front) (n : Machine) → serves_last m number after items front ≡ Some (n, left) → IsSameClients m n
last_clients m number after items left None n e = with_clients m m n (record { clients = refl; tick = refl; event = refl }) (reached_is m n items left e)
last_clients m number after [] left (Some front) n e = absurd (let none : ⊥ = cc in none)
last_clients m number after (served ∷ items) left (Some front) n e =
    stops_clients m (after_stopped m number front served) (after_served m number front served) n (is_stopped m after front served) (is_over m after front served) items left
    (record { clients = refl; tick = refl; event = refl }) (record { clients = refl; tick = refl; event = refl }) e

-- the clients and the server
pub record IsSameSides (a b : Machine) : Type 0 where
  pub clients : b.clients ≡ a.clients
  pub server : b.server ≡ a.server
  pub tick : b.tick ≡ a.tick
  pub event : b.event ≡ a.event

-- all but the connections
pub record IsSameButLinks (a b : Machine) : Type 0 where
  pub clients : b.clients ≡ a.clients
  pub server : b.server ≡ a.server
  pub pool : b.pool ≡ a.pool
  pub tick : b.tick ≡ a.tick
  pub event : b.event ≡ a.event

reaps : (m : Machine) (links : List Link) (reaped : Bool) → IsSameButLinks m (if reaped then record m { links = links } else m)
reaps m links true = record { clients = refl; server = refl; pool = refl; tick = refl; event = refl }
reaps m links false = record { clients = refl; server = refl; pool = refl; tick = refl; event = refl }

-- DRAIN -------------------------------------------------------------------------------------------

-- THE SERVER ALONE --------------------------------------------------------------------------------

-- all but the server
pub record IsSameButServer (a b : Machine) : Type 0 where
  pub clients : b.clients ≡ a.clients
  pub links : b.links ≡ a.links
  pub pool : b.pool ≡ a.pool
  pub tick : b.tick ≡ a.tick
  pub event : b.event ≡ a.event
