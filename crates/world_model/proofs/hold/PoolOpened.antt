-- The pool counts the connections that were opened, and drains no more than these.
use Rattle.std.proofs.Common.{◌≡◌, refl, ap, ◌∙◌, Bool, true, false, ℕ, suc, zero, ◌+◌, ◌≤◌, ◌&&◌, length, length-append, List, [], ◌∷◌, ◌++◌, fold, Option, Some, None, if◌then◌else◌, arith}
use Rattle.std.specs.Prelude.{◌==◌, nat_le, slice_set, drop}
use Rattle.std.specs.Option.{option_map_or}
use Rattle.std.proofs.lemmas.Bool.{and_parts, and_from}
use Rattle.std.proofs.lemmas.List.{length-map}
use Rattle.pool_core.specs.meaning.Slots.{Slots, has_to_wait, joined, without, after_take, after_gone}
use Rattle.client_model.specs.declared.act.Hold.{Hold}
use Rattle.client_model.specs.declared.act.Hold.TheVariants.{Keep, GiveBack, Drop}
use Rattle.client_model.specs.declared.input.Wants.{Wants}
use Rattle.client_model.specs.meaning.Released.{released}
use Rattle.outage_schedule.specs.declared.item.Item.{Item}
use Rattle.outage_schedule.specs.declared.item.Served.{Served}
use Rattle.world_model.specs.meaning.Settings.{Setting}
use Rattle.world_model.specs.meaning.Links.{Link, new_link, link_at, with_link, changed, open_from}
use Rattle.world_model.specs.meaning.Clients.{Doing, doing_at}
use Rattle.world_model.specs.meaning.Acting.{connection_of}
use Rattle.world_model.specs.meaning.Machines.{Machine}
use Rattle.world_model.specs.meaning.Matching.{Noted}
use Rattle.world_model.specs.meaning.Going.{lost_at_once}
use Rattle.world_model.specs.meaning.Serving.{is_blocked, pool_after, after_front, handled, after_served}
use Rattle.world_model.specs.meaning.Crashing.{fallen_link, after_stopped, falls}
use Rattle.world_model.proofs.events.Tests.{eq_from, eq_to, le_from, le_to}
use Rattle.world_model.proofs.events.Moves.{next_number, takes_one, Tries, FromQueue, Again, Goes, Rests, Waits, Lends, Opens, Fails, Takes, Loses, ServesLast, LastNone, LastStopped, LastServed, Happens, Nothing, IsStep, Serves, Cuts, Reaps, Crashes, OpensUp, StopsOpening, Ticks, RunsOutside, Asks, Drains}

-- THE POOL ----------------------------------------------------------------------------------------

-- no connection was opened, and none is drained further
pub record IsAsOpened (a b : Slots) : Type 0 where
  pub opened : b.opened ≡ a.opened
  pub drained : b.drained ≡ a.drained

then_opened : (a b c : Slots) → IsAsOpened a b → IsAsOpened b c → IsAsOpened a c
then_opened a b c one other = record { opened = other.opened ∙ one.opened; drained = other.drained ∙ one.drained }

if_opened : (a b c : Slots) (test : Bool) → IsAsOpened a b → IsAsOpened a c → IsAsOpened a (if test then b else c)
if_opened a b c true one other = one
if_opened a b c false one other = other

pub take_opened : (pool : Slots) (client : ℕ) → IsAsOpened pool (after_take pool client)
take_opened pool client =
    if_opened pool (record pool { queue = joined pool.queue client }) (record pool { lent = pool.lent + 1; queue = without pool.queue client; idle = drop 1 pool.idle }) (has_to_wait pool client)
    (record { opened = refl; drained = refl }) (record { opened = refl; drained = refl })

pub tries_opened : (m : Machine) (number : ℕ) (wanted : Wants) (pool : Slots) → Tries m number wanted pool → IsAsOpened m.pool pool
tries_opened m number _ _ (FromQueue answer) = take_opened m.pool number
tries_opened m number _ _ Again = record { opened = refl; drained = refl }

released_opened : (pool : Slots) (client connection : ℕ) (holds_slot : Bool) (held : Hold) → IsAsOpened pool (released pool client connection holds_slot held)
released_opened pool client connection holds_slot Keep = record { opened = refl; drained = refl }
released_opened pool client connection holds_slot GiveBack = record { opened = refl; drained = refl }
released_opened pool client connection true Drop = record { opened = refl; drained = refl }
released_opened pool client connection false Drop = record { opened = refl; drained = refl }

gone_opened : (pool : Slots) (numbers : List ℕ) → IsAsOpened pool (fold after_gone pool numbers)
gone_opened pool [] = record { opened = refl; drained = refl }
gone_opened pool (number ∷ numbers) = let later = gone_opened (after_gone pool number) numbers in record { opened = later.opened; drained = later.drained }

served_opened : (pool : Slots) (number : ℕ) (one : Item) → IsAsOpened pool (pool_after pool number one)
served_opened pool number one = if_opened pool (after_gone pool number) pool (is_blocked one) (record { opened = refl; drained = refl }) (record { opened = refl; drained = refl })

-- CONNECTIONS -------------------------------------------------------------------------------------

set_long : (links : List Link) (index : ℕ) (link : Link) → length (slice_set links index link) ≡ length links
set_long [] index link = refl
set_long (first ∷ links) zero link = refl
set_long (first ∷ links) (suc index) link = ap suc (set_long links index link)

pub with_long : (links : List Link) (number : ℕ) (link : Link) → length (with_link links number link) ≡ length links
with_long links zero link = refl
with_long links (suc index) link = set_long links index link

found_long : (change : Link → Link) (links : List Link) (number : ℕ) (found : Option Link) → length (option_map_or (λ link. with_link links number (change link)) found links) ≡ length links
found_long change links number None = refl
found_long change links number (Some link) = with_long links number (change link)

pub changed_long : (change : Link → Link) (links : List Link) (number : ℕ) → length (changed change links number) ≡ length links
changed_long change links number = found_long change links number (link_at links number)

pub each_long : (change : Link → Link) (links : List Link) (numbers : List ℕ) → length (fold (changed change) links numbers) ≡ length links
each_long change links [] = refl
each_long change links (number ∷ numbers) = each_long change (changed change links number) numbers ∙ changed_long change links number

-- EVENTS ------------------------------------------------------------------------------------------

-- as many connections as before, or one more, which is the last that was opened
pub data OpensOne (m n : Machine) : Type 0 where
  NoneMore : length n.links ≡ length m.links → IsAsOpened m.pool n.pool → OpensOne m n
  OneMore : length n.links ≡ length m.links + 1 → n.pool.opened ≡ length m.links + 1 → n.pool.drained ≡ m.pool.drained → OpensOne m n
  AllDrained : length n.links ≡ length m.links → n.pool.opened ≡ m.pool.opened → n.pool.drained ≡ m.pool.opened → OpensOne m n

module _ (setting : Setting) (m : Machine) where
  lost_none : (a : Machine) (number : ℕ) (ended : Option ℕ) (doing : Option Doing) → length a.links ≡ length m.links → IsAsOpened m.pool a.pool → OpensOne m (lost_at_once setting a number ended doing)
  lost_none a number ended None long same = NoneMore long same
  lost_none a number ended (Some doing) long same = NoneMore long same

  unless_none : (a : Machine) (number : ℕ) (ended : Option ℕ) (doing : Option Doing) (alive : Bool) → OpensOne m a → length a.links ≡ length m.links → IsAsOpened m.pool a.pool
      → OpensOne m (if alive then a else lost_at_once setting a number ended doing)
  unless_none a number ended doing true one long same = one
  unless_none a number ended doing false one long same = lost_none a number ended doing long same

  goes_opened : (number : ℕ) (n : Machine) → Goes setting m number n → OpensOne m n
  goes_opened number _ Rests = NoneMore refl (record { opened = refl; drained = refl })
  goes_opened number _ (Waits doing is answer) = NoneMore (changed_long _ m.links (connection_of doing)) (then_opened m.pool (after_take m.pool number) _ (take_opened m.pool number) (released_opened (after_take m.pool number) number (connection_of doing) false _))
  goes_opened number _ (Lends doing connection link ltxid is answer there held) =
      NoneMore (changed_long _ m.links connection) (then_opened m.pool (after_take m.pool number) _ (take_opened m.pool number) (released_opened (after_take m.pool number) number connection true _))
  goes_opened number _ (Opens doing wanted pool is tries runs) =
      OneMore (changed_long _ (m.links ++ new_link ∷ []) (next_number m) ∙ length-append m.links (new_link ∷ [])) refl (tries_opened m number wanted pool tries).drained
  goes_opened number _ (Fails doing wanted pool is tries down) =
      NoneMore (changed_long _ m.links (connection_of doing)) (then_opened m.pool pool _ (tries_opened m number wanted pool tries) (released_opened pool number (connection_of doing) true _))
  goes_opened number _ (Takes doing connection link reply left is on down) =
      let a : Machine = takes_one setting m number doing connection link reply left in
      let long : length a.links ≡ length m.links = changed_long _ (with_link m.links connection _) (connection_of doing) ∙ with_long m.links connection _ in
      let same : IsAsOpened m.pool a.pool = released_opened m.pool number (connection_of doing) true _ in
      unless_none a number link.ended (doing_at a.clients number) link.is_open (NoneMore long same) long same
  goes_opened number _ (Loses doing connection link is on none closed) = NoneMore refl (record { opened = refl; drained = refl })

  last_opened : (number after : ℕ) (failover : Bool) (items left : List Served) (a : Machine) → ServesLast m number after items left a → OpensOne m (falls failover a)
  last_opened number after failover items left _ (LastNone same) = NoneMore (length-map m.links (fallen_link m.event)) (gone_opened m.pool (open_from 1 m.links))
  last_opened number after failover items left _ (LastStopped front served is stopped same) =
      NoneMore (length-map (after_stopped m number front served).links (fallen_link m.event) ∙ with_long m.links number (after_front front served None)) (gone_opened m.pool (open_from 1 (after_stopped m number front served).links))
  last_opened number after failover items left _ (LastServed front served is over same) =
      NoneMore (length-map (after_served m number front served).links (fallen_link m.event) ∙ with_long m.links number (handled m.event front served))
      (then_opened m.pool (pool_after m.pool number served.item) _ (served_opened m.pool number served.item) (gone_opened (pool_after m.pool number served.item) (open_from 1 (after_served m number front served).links)))

  pub happens_opened : (items left : List Served) (happened : Noted) (n : Machine) → Happens setting m items left happened n → OpensOne m n
  happens_opened items left happened _ (Nothing kind other) = NoneMore refl (record { opened = refl; drained = refl })
  happens_opened items left happened _ (IsStep number did n moves) = goes_opened number n moves
  happens_opened items left happened _ (Serves number frame front served is ordinary same) = NoneMore (with_long m.links number _) (served_opened m.pool number served.item)
  happens_opened items left happened _ (Cuts number up down reached link is) = NoneMore (with_long m.links number _) (record { opened = refl; drained = refl })
  happens_opened items left happened _ (Reaps number reaped orphan) = NoneMore (changed_long _ m.links number) (record { opened = refl; drained = refl })
  happens_opened items left happened _ (Crashes number after failover down a runs last) = last_opened number after failover items left a last
  happens_opened items left happened _ (OpensUp incarnation down may) = NoneMore refl (record { opened = refl; drained = refl })
  happens_opened items left happened _ (StopsOpening made down) = NoneMore refl (record { opened = refl; drained = refl })
  happens_opened items left happened _ Ticks = NoneMore refl (record { opened = refl; drained = refl })
  happens_opened items left happened _ (RunsOutside ran runs) = NoneMore refl (record { opened = refl; drained = refl })
  happens_opened items left happened _ (Asks ltxid result runs) = NoneMore refl (record { opened = refl; drained = refl })
  happens_opened items left happened _ (Drains closed) = AllDrained (each_long _ m.links m.pool.idle) refl refl

abbrev opened_test : Slots → List Link → Bool
opened_test pool links = (pool.opened == length links) && nat_le pool.drained pool.opened

pub opened_kept : (m n : Machine) → OpensOne m n → opened_test m.pool m.links ≡ true → opened_test n.pool n.links ≡ true
opened_kept m n (NoneMore long same) old =
    let parts = and_parts (m.pool.opened == length m.links) (nat_le m.pool.drained m.pool.opened) old in
    let count : m.pool.opened ≡ length m.links = eq_from m.pool.opened (length m.links) parts.0 in
    let below : m.pool.drained ≤ m.pool.opened = le_from m.pool.drained m.pool.opened parts.1 in
    let opened : n.pool.opened ≡ m.pool.opened = same.opened in
    let drained : n.pool.drained ≡ m.pool.drained = same.drained in
    and_from (n.pool.opened == length n.links) (nat_le n.pool.drained n.pool.opened) (eq_to n.pool.opened (length n.links) (omega arith)) (le_to n.pool.drained n.pool.opened (omega arith))
opened_kept m n (OneMore long opened drained) old =
    let parts = and_parts (m.pool.opened == length m.links) (nat_le m.pool.drained m.pool.opened) old in
    let count : m.pool.opened ≡ length m.links = eq_from m.pool.opened (length m.links) parts.0 in
    let below : m.pool.drained ≤ m.pool.opened = le_from m.pool.drained m.pool.opened parts.1 in
    and_from (n.pool.opened == length n.links) (nat_le n.pool.drained n.pool.opened) (eq_to n.pool.opened (length n.links) (omega arith)) (le_to n.pool.drained n.pool.opened (omega arith))
opened_kept m n (AllDrained long opened drained) old =
    let parts = and_parts (m.pool.opened == length m.links) (nat_le m.pool.drained m.pool.opened) old in
    let count : m.pool.opened ≡ length m.links = eq_from m.pool.opened (length m.links) parts.0 in
    and_from (n.pool.opened == length n.links) (nat_le n.pool.drained n.pool.opened) (eq_to n.pool.opened (length n.links) (omega arith)) (le_to n.pool.drained n.pool.opened (omega arith))
