-- What an event does to the server and to the clock.
use Rattle.std.proofs.Common.{◌≡◌, refl, ap, Bool, true, false, ℕ, ◌+◌, ◌<◌, List, ◌∷◌, map, Option, Some, None, if◌then◌else◌, arith}
use Rattle.std.specs.Prelude.{nat_le}
use Rattle.std.proofs.lemmas.Bool.{and_parts}
use Rattle.svc_values.specs.declared.entry.Ltxid.{Ltxid}
use Rattle.outage_schedule.specs.declared.note.AskResult.{AskResult}
use Rattle.outage_schedule.specs.declared.item.Item.{Item}
use Rattle.outage_schedule.specs.declared.item.Item.TheVariants as item
use Rattle.outage_schedule.specs.declared.item.Served.{Served}
use Rattle.run_clauses.specs.meaning.Outcomes.{is_uncommitted}
use Rattle.world_model.specs.meaning.Settings.{Setting}
use Rattle.world_model.specs.meaning.Links.{Link}
use Rattle.world_model.specs.meaning.Clients.{Doing, doing_at}
use Rattle.world_model.specs.meaning.Machines.{Server, Machine}
use Rattle.world_model.specs.meaning.Matching.{Noted}
use Rattle.world_model.specs.meaning.Going.{lost_at_once}
use Rattle.world_model.specs.meaning.Serving.{server_after}
use Rattle.world_model.specs.meaning.Crashing.{with_doubt, fallen_link, falls}
use Rattle.world_model.specs.meaning.Outside.{after_asked}
use Rattle.world_model.proofs.events.Kept.{IsSameServer}
use Rattle.world_model.proofs.events.Tests.{le_from}
use Rattle.world_model.proofs.events.Moves.{takes_one, Goes, Rests, Waits, Lends, Opens, Fails, Takes, Loses, ServesLast, LastNone, LastStopped, LastServed, Happens, Nothing, IsStep, Serves, Cuts, Reaps, Crashes, OpensUp, StopsOpening, Ticks, RunsOutside, Asks, Drains}

-- A STEP OF A CLIENT ------------------------------------------------------------------------------

lost_same : (setting : Setting) (m a : Machine) (number : ℕ) (ended : Option ℕ) (doing : Option Doing) → IsSameServer m a → IsSameServer m (lost_at_once setting a number ended doing)
lost_same setting m a number ended None same = same
lost_same setting m a number ended (Some doing) same = record { server = same.server; tick = same.tick; event = same.event }

unless_same : (setting : Setting) (m a : Machine) (number : ℕ) (ended : Option ℕ) (doing : Option Doing) (is_open : Bool) → IsSameServer m a
    → IsSameServer m (if is_open then a else lost_at_once setting a number ended doing)
unless_same setting m a number ended doing true same = same
unless_same setting m a number ended doing false same = lost_same setting m a number ended doing same

pub goes_same : (setting : Setting) (m : Machine) (number : ℕ) (n : Machine) → Goes setting m number n → IsSameServer m n
goes_same setting m number _ Rests = record { server = refl; tick = refl; event = refl }
goes_same setting m number _ (Waits doing is_doing answer) = record { server = refl; tick = refl; event = refl }
goes_same setting m number _ (Lends doing connection link ltxid is_doing answer there held) = record { server = refl; tick = refl; event = refl }
goes_same setting m number _ (Opens doing wanted pool is_doing tries up) = record { server = refl; tick = refl; event = refl }
goes_same setting m number _ (Fails doing wanted pool is_doing tries down) = record { server = refl; tick = refl; event = refl }
goes_same setting m number _ (Takes doing connection link reply left is_doing on down) =
    let a : Machine = takes_one setting m number doing connection link reply left in
    unless_same setting m a number link.ended (doing_at a.clients number) link.is_open (record { server = refl; tick = refl; event = refl })
goes_same setting m number _ (Loses doing connection link is_doing on none closed) = record { server = refl; tick = refl; event = refl }

-- THE SERVER --------------------------------------------------------------------------------------

-- it is up or down as before, and of the same incarnation
pub record IsSameRun (a b : Server) : Type 0 where
  pub is_up : b.is_up ≡ a.is_up
  pub incarnation : b.incarnation ≡ a.incarnation

if_run : (a b c : Server) (test : Bool) → IsSameRun a b → IsSameRun a c → IsSameRun a (if test then b else c)
if_run a b c true one other = one
if_run a b c false one other = other

served_run : (server : Server) (one : Item) → IsSameRun server (server_after server one)
served_run server (item.Outcome asked result) =
    if_run server (record server { blocked = asked ∷ server.blocked }) server (is_uncommitted result) (record { is_up = refl; incarnation = refl }) (record { is_up = refl; incarnation = refl })
served_run server one = record { is_up = refl; incarnation = refl }

doubted_run : (server : Server) (one : Item) → IsSameRun server (with_doubt server one)
doubted_run server (item.CrashedOutcome asked) = record { is_up = refl; incarnation = refl }
doubted_run server one = record { is_up = refl; incarnation = refl }

asked_run : (server : Server) (ltxid : Ltxid) (result : AskResult) → IsSameRun server (after_asked server ltxid result)
asked_run server ltxid result =
    if_run server (record server { blocked = ltxid ∷ server.blocked }) server (is_uncommitted result) (record { is_up = refl; incarnation = refl }) (record { is_up = refl; incarnation = refl })

-- how the server stands after an event
pub data Stands (m n : Machine) : Type 0 where
  AsBefore : IsSameRun m.server n.server → Stands m n
  Fell : (links : List Link) → n.links ≡ map (fallen_link m.event) links → n.server.is_up ≡ false → n.server.incarnation ≡ m.server.incarnation → Stands m n
  Opened : n.links ≡ m.links → m.server.is_up ≡ false → n.server.is_up ≡ true → m.server.incarnation < n.server.incarnation → n.server.sessions ≡ 0 → Stands m n

same_server : (m n : Machine) → IsSameServer m n → Stands m n
same_server m n same = AsBefore (record { is_up = ap (λ (s : Server). s.is_up) same.server; incarnation = ap (λ (s : Server). s.incarnation) same.server })

pub happens_stands : (setting : Setting) (m : Machine) (items left : List Served) (happened : Noted) (n : Machine) → Happens setting m items left happened n → Stands m n
happens_stands setting m items left happened _ (Nothing kind quiet) = AsBefore (record { is_up = refl; incarnation = refl })
happens_stands setting m items left happened _ (IsStep number did n moves) = same_server m n (goes_same setting m number n moves)
happens_stands setting m items left happened _ (Serves number frame front served is ordinary same) = AsBefore (served_run m.server served.item)
happens_stands setting m items left happened _ (Cuts number up down reached link is) = AsBefore (record { is_up = refl; incarnation = refl })
happens_stands setting m items left happened _ (Reaps number reaped orphan) = AsBefore (record { is_up = refl; incarnation = refl })
happens_stands setting m items left happened _ (Crashes number after failover down a up last) = fallen number after failover a last
  where
    fallen : (number after : ℕ) (failover : Bool) (a : Machine) → ServesLast m number after items left a → Stands m (falls failover a)
    fallen number after failover _ (LastNone same) = Fell m.links refl refl refl
    fallen number after failover _ (LastStopped front served is stopped same) = Fell _ refl refl (doubted_run m.server served.item).incarnation
    fallen number after failover _ (LastServed front served is over same) = Fell _ refl refl (served_run m.server served.item).incarnation
happens_stands setting m items left happened _ (OpensUp incarnation down may) =
    let bound = le_from (m.server.incarnation + 1) incarnation (and_parts (nat_le (m.server.incarnation + 1) incarnation) (nat_le incarnation (m.server.incarnation + 1 + m.server.stopped)) may).0 in
    Opened refl down refl (omega arith) refl
happens_stands setting m items left happened _ (StopsOpening made down) = AsBefore (record { is_up = refl; incarnation = refl })
happens_stands setting m items left happened _ Ticks = AsBefore (record { is_up = refl; incarnation = refl })
happens_stands setting m items left happened _ (RunsOutside ran up) = AsBefore (record { is_up = refl; incarnation = refl })
happens_stands setting m items left happened _ (Asks ltxid result up) = AsBefore (asked_run m.server ltxid result)
happens_stands setting m items left happened _ (Drains closed) = AsBefore (record { is_up = refl; incarnation = refl })

-- THE CLOCK ---------------------------------------------------------------------------------------

last_event : (m : Machine) (number after : ℕ) (items left : List Served) (a : Machine) → ServesLast m number after items left a → a.event ≡ m.event
last_event m number after items left _ (LastNone same) = refl
last_event m number after items left _ (LastStopped front served is stopped same) = refl
last_event m number after items left _ (LastServed front served is over same) = refl

pub event_kept : (setting : Setting) (m : Machine) (items left : List Served) (happened : Noted) (n : Machine) → Happens setting m items left happened n → n.event ≡ m.event
event_kept setting m items left happened _ (Nothing kind quiet) = refl
event_kept setting m items left happened _ (IsStep number did n moves) = (goes_same setting m number n moves).event
event_kept setting m items left happened _ (Serves number frame front served is ordinary same) = refl
event_kept setting m items left happened _ (Cuts number up down reached link is) = refl
event_kept setting m items left happened _ (Reaps number reaped orphan) = refl
event_kept setting m items left happened _ (Crashes number after failover down a up last) = last_event m number after items left a last
event_kept setting m items left happened _ (OpensUp incarnation down may) = refl
event_kept setting m items left happened _ (StopsOpening made down) = refl
event_kept setting m items left happened _ Ticks = refl
event_kept setting m items left happened _ (RunsOutside ran up) = refl
event_kept setting m items left happened _ (Asks ltxid result up) = refl
event_kept setting m items left happened _ (Drains closed) = refl
