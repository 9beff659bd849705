-- A connection that is not open, and that no request has, stays as it is in each event: what was
-- sent and taken, what is held, and which event ended it.
use Rattle.std.proofs.Common.{◌≡◌, ◌≢◌, refl, sym, ap, subst, ◌∙◌, Bool, true, false, ℕ, suc, zero, List, [], ◌∷◌, map, count_by, Option, Some, None, ◌⊎◌, inl, inr, if◌then◌else◌}
use Rattle.std.specs.Prelude.{◌==◌, unwrap_or, option_map}
use Rattle.std.specs.List.{list_all}
use Rattle.std.specs.Option.{option_or, option_map_or}
use Rattle.std.proofs.lemmas.Bool.{and_parts}
use Rattle.outage_schedule.specs.declared.document.Request.{Request}
use Rattle.outage_schedule.specs.declared.item.Served.{Served}
use Rattle.client_model.specs.declared.input.Wants.{Wants}
use Rattle.client_model.specs.declared.input.Input.TheVariants.{Took}
use Rattle.world_model.specs.meaning.Settings.{Setting}
use Rattle.world_model.specs.meaning.Links.{Link, link_at, with_link, changed, sends, takes}
use Rattle.world_model.specs.meaning.Clients.{Client, Doing, client_at, begun, doing_at}
use Rattle.world_model.specs.meaning.Acting.{connection_of}
use Rattle.world_model.specs.meaning.Machines.{Machine}
use Rattle.world_model.specs.meaning.Matching.{Noted}
use Rattle.world_model.specs.meaning.Going.{lost_at_once}
use Rattle.world_model.specs.records.Hold.{is_idle}
use Rattle.world_model.specs.meaning.Serving.{Front, after_front, handled}
use Rattle.world_model.specs.meaning.Cutting.{cut_link, reaped_link}
use Rattle.world_model.specs.meaning.Crashing.{fallen_link, falls}
use Rattle.world_model.specs.meaning.Outside.{closed_by_drain}
use Rattle.world_model.proofs.Offered.{front_is, open_is, ends_case, handled_case, fallen_case, not_zero, get_mapped, with_others, with_own, changed_own, new_others, each_others, IsDoing, Goes, Rests, Waits, Lends, Opens, MovesFails as Fails, Takes, Loses, takes_one, ServesLast, LastNone, LastStopped, LastServed, Happens, Nothing, IsStep, Serves, Cuts, Reaps, Crashes, OpensUp, StopsOpening, Ticks, RunsOutside, MovesAsks as Asks, Drains, changed_others, lent_idle, not_both, either, some_same}

-- the same was sent, taken and is held, and it is not open, by the same event
pub record IsFrozen (a b : Link) : Type 0 where
  pub sent : b.sent ≡ a.sent
  pub taken : b.taken ≡ a.taken
  pub held : b.held ≡ a.held
  pub ended : b.ended ≡ a.ended
  pub shut : b.is_open ≡ false

-- the connection of this number is there, and stands so
pub record StaysShut (links : List Link) (number : ℕ) (link : Link) : Type 0 where
  pub now : Link
  pub there : link_at links number ≡ Some now
  pub same : IsFrozen link now

self_frozen : (link : Link) → link.is_open ≡ false → IsFrozen link link
self_frozen link shut = record { sent = refl; taken = refl; held = refl; ended = refl; shut = shut }

as_before : (links : List Link) (number : ℕ) (link : Link) → link_at links number ≡ Some link → link.is_open ≡ false → StaysShut links number link
as_before links number link there shut = record { now = link; there = there; same = self_frozen link shut }

-- LISTS -------------------------------------------------------------------------------------------

set_shut : (links : List Link) (at : ℕ) (old new : Link) → link_at links at ≡ Some old → (old.is_open ≡ false → IsFrozen old new) → (number : ℕ) (link : Link) → link_at links number ≡ Some link → link.is_open ≡ false
    → StaysShut (with_link links at new) number link
set_shut links at old new is frozen number link there shut = by (either number at)
  where
    by : (number ≡ at) ⊎ (number ≢ at) → StaysShut (with_link links at new) number link
    by (inr apart) = record { now = link; there = with_others links at number new apart ∙ there; same = self_frozen link shut }
    by (inl same) =
        let equal : old ≡ link = some_same (link_at links at) old link is (ap (link_at links) (sym same) ∙ there) in
        record {
          now = new;
          there = ap (link_at (with_link links at new)) same ∙ with_own links at old new is;
          same = subst (λ (one : Link). IsFrozen one new) equal (frozen (ap (λ (one : Link). one.is_open) equal ∙ shut));
        }

changed_shut : (change : Link → Link) (links : List Link) (at : ℕ) → ((link : Link) → link.is_open ≡ false → IsFrozen link (change link)) → (number : ℕ) (link : Link) → link_at links number ≡ Some link → link.is_open ≡ false
    → StaysShut (changed change links at) number link
changed_shut change links at frozen number link there shut = by (either number at)
  where
    by : (number ≡ at) ⊎ (number ≢ at) → StaysShut (changed change links at) number link
    by (inr apart) = record { now = link; there = changed_others change links at number apart ∙ there; same = self_frozen link shut }
    by (inl same) = record {
      now = change link;
      there = ap (link_at (changed change links at)) same ∙ changed_own change links at link (ap (link_at links) (sym same) ∙ there);
      same = frozen link shut;
    }

pub mapped_at : (change : Link → Link) (links : List Link) (number : ℕ) (link : Link) → link_at links number ≡ Some link → link_at (map change links) number ≡ Some (change link)
mapped_at change links zero link is = absurd (let none : ⊥ = cc in none)
mapped_at change links (suc index) link is = get_mapped change links index link is

-- then all are changed
mapped_shut : (change : Link → Link) (links : List Link) → ((link : Link) → link.is_open ≡ false → IsFrozen link (change link)) → (number : ℕ) (link : Link) → StaysShut links number link → StaysShut (map change links) number link
mapped_shut change links frozen number link stays =
    let next : IsFrozen stays.now (change stays.now) = frozen stays.now stays.same.shut in
    record {
      now = change stays.now;
      there = mapped_at change links number stays.now stays.there;
      same = record { sent = next.sent ∙ stays.same.sent; taken = next.taken ∙ stays.same.taken; held = next.held ∙ stays.same.held; ended = next.ended ∙ stays.same.ended; shut = next.shut };
    }

-- CHANGES -----------------------------------------------------------------------------------------

fallen_frozen : (event : ℕ) (link : Link) → link.is_open ≡ false → IsFrozen link (fallen_link event link)
fallen_frozen event link shut =
    fallen_case (IsFrozen link) event link (λ opens. absurd (not_both link.is_open opens shut)) (λ closed. record { sent = refl; taken = refl; held = refl; ended = refl; shut = shut })

handled_frozen : (event : ℕ) (front : Front) (served : Served) → front.link.is_open ≡ false → IsFrozen front.link (handled event front served)
handled_frozen event front served shut =
    handled_case (IsFrozen front.link) event front served
    (λ reply blocked. ends_case (IsFrozen front.link) event (after_front front served reply) (λ opens. absurd (not_both front.link.is_open opens shut))
    (λ closed. record { sent = refl; taken = refl; held = refl; ended = refl; shut = shut }))
    (λ reply blocked. record { sent = refl; taken = refl; held = refl; ended = refl; shut = shut })

-- EVENTS ------------------------------------------------------------------------------------------

module _ (setting : Setting) (m : Machine) (idle : list_all (λ number. option_map_or is_idle (link_at m.links number) false) m.pool.idle ≡ true) where
  -- no request has it
  abbrev pub IsFree : ℕ → Type 0
  IsFree number = (who : ℕ) (client : Client) (doing : Doing) → client_at m.clients who ≡ Some client → client.now ≡ Some doing → doing.connection ≡ Some number → ⊥

  on_other : (doing : Doing) (number : ℕ) (link : Link) → link_at m.links number ≡ Some link → (doing.connection ≡ Some number → ⊥) → number ≢ connection_of doing
  on_other doing number link there free = by doing.connection refl
    where
      by : (found : Option ℕ) → doing.connection ≡ found → number ≡ unwrap_or found 0 → ⊥
      by None is same = not_zero m.links number link there same
      by (Some other) is same = free (is ∙ ap Some (sym same))

  -- nor does the request that steps
  steps_other : (who : ℕ) (doing : Doing) (wanted : Wants) → IsDoing setting m who doing wanted → (number : ℕ) (link : Link) → link_at m.links number ≡ Some link → IsFree number → number ≢ connection_of doing
  steps_other who doing wanted is number link there free = on_other doing number link there (by is.client.now refl is.client.next is.does)
    where
      by : (now : Option Doing) → is.client.now ≡ now → (next : Option Request) → option_or now (option_map (begun setting.terms m.event m.tick) next) ≡ Some doing → doing.connection ≡ Some number → ⊥
      by (Some one) now next does has = let same : one ≡ doing = cc in free who is.client doing is.here (now ∙ ap Some same) has
      by None now (Some request) does has =
          let same : begun setting.terms m.event m.tick request ≡ doing = cc in
          let never : None ≡ Some number = ap (λ (one : Doing). one.connection) same ∙ has in
          let none : ⊥ = cc in none
      by None now None does has = let none : ⊥ = cc in none

  unless_same : (a : Machine) (who : ℕ) (ended : Option ℕ) (doing : Option Doing) (opens : Bool) → (if opens then a else lost_at_once setting a who ended doing).links ≡ a.links
  unless_same a who ended doing true = refl
  unless_same a who ended None false = refl
  unless_same a who ended (Some doing) false = refl

  goes_shut : (who : ℕ) (n : Machine) → Goes setting m who n → (number : ℕ) (link : Link) → link_at m.links number ≡ Some link → link.is_open ≡ false → IsFree number → StaysShut n.links number link
  goes_shut who _ Rests number link there shut free = as_before m.links number link there shut
  goes_shut who _ (Waits doing is answer) number link there shut free =
      record { now = link; there = changed_others _ m.links (connection_of doing) number (steps_other who doing _ is number link there free) ∙ there; same = self_frozen link shut }
  goes_shut who _ (Lends doing connection other ltxid is answer at held) number link there shut free =
      record {
        now = link;
        there = changed_others _ m.links connection number
            (λ same. let rests : is_idle link ≡ true = lent_idle m.pool who connection m.links link answer idle (ap (link_at m.links) (sym same) ∙ there) in
            not_both link.is_open (and_parts link.is_open _ rests).0 shut) ∙ there;
        same = self_frozen link shut;
      }
  goes_shut who _ (Opens doing wanted pool is tries runs) number link there shut free =
      record { now = link; there = new_others _ m.links number link there; same = self_frozen link shut }
  goes_shut who _ (Fails doing wanted pool is tries down) number link there shut free =
      record { now = link; there = changed_others _ m.links (connection_of doing) number (steps_other who doing wanted is number link there free) ∙ there; same = self_frozen link shut }
  goes_shut who _ (Takes doing connection other reply left is on down) number link there shut free =
      let a : Machine = takes_one setting m who doing connection other reply left in
      let apart : number ≢ connection_of doing = steps_other who doing _ is number link there free in
      let elsewhere : number ≢ connection = λ same. apart (same ∙ sym (ap (λ (one : Option ℕ). unwrap_or one 0) on.has)) in
      record {
        now = link;
        there = ap (λ (all : List Link). link_at all number) (unless_same a who other.ended (doing_at a.clients who) other.is_open)
            ∙ (changed_others _ (with_link m.links connection (takes (Took reply.frame other.is_open) reply left other)) (connection_of doing) number apart
            ∙ (with_others m.links connection number (takes (Took reply.frame other.is_open) reply left other) elsewhere ∙ there));
        same = self_frozen link shut;
      }
  goes_shut who _ (Loses doing connection other is on none closed) number link there shut free = as_before m.links number link there shut

  last_shut : (at after : ℕ) (failover : Bool) (items left : List Served) (a : Machine) → ServesLast m at after items left a → (number : ℕ) (link : Link) → link_at m.links number ≡ Some link → link.is_open ≡ false
      → StaysShut (falls failover a).links number link
  last_shut at after failover items left _ (LastNone same) number link there shut =
      mapped_shut (fallen_link m.event) m.links (fallen_frozen m.event) number link (as_before m.links number link there shut)
  last_shut at after failover items left _ (LastStopped front served is stopped same) number link there shut =
      let new : Link = after_front front served None in
      mapped_shut (fallen_link m.event) (with_link m.links at new) (fallen_frozen m.event) number link
      (set_shut m.links at front.link new (front_is m.links at front is).there (λ closed. record { sent = refl; taken = refl; held = refl; ended = refl; shut = closed }) number link there shut)
  last_shut at after failover items left _ (LastServed front served is over same) number link there shut =
      let new : Link = handled m.event front served in
      mapped_shut (fallen_link m.event) (with_link m.links at new) (fallen_frozen m.event) number link
      (set_shut m.links at front.link new (front_is m.links at front is).there (handled_frozen m.event front served) number link there shut)

  pub happens_shut : (items left : List Served) (happened : Noted) (n : Machine) → Happens setting m items left happened n → (number : ℕ) (link : Link) → link_at m.links number ≡ Some link → link.is_open ≡ false
      → count_by (λ one. one == number) m.pool.idle ≡ 0 → IsFree number → StaysShut n.links number link
  happens_shut items left happened _ (Nothing kind other) number link there shut idles free = as_before m.links number link there shut
  happens_shut items left happened n (IsStep who did _ moves) number link there shut idles free = goes_shut who n moves number link there shut free
  happens_shut items left happened _ (Serves at frame front served is ordinary same) number link there shut idles free =
      set_shut m.links at front.link (handled m.event front served) (front_is m.links at front is).there (handled_frozen m.event front served) number link there shut
  happens_shut items left happened _ (Cuts at up down reached other is) number link there shut idles free =
      let opens = open_is m.links at other is in
      set_shut m.links at other (cut_link m.event up down other) opens.there (λ closed. absurd (not_both other.is_open opens.open_now closed)) number link there shut
  happens_shut items left happened _ (Reaps at reaped orphan) number link there shut idles free =
      changed_shut reaped_link m.links at (λ one closed. record { sent = refl; taken = refl; held = refl; ended = refl; shut = closed }) number link there shut
  happens_shut items left happened _ (Crashes at after failover down a runs last) number link there shut idles free = last_shut at after failover items left a last number link there shut
  happens_shut items left happened _ (OpensUp incarnation down may) number link there shut idles free = as_before m.links number link there shut
  happens_shut items left happened _ (StopsOpening made down) number link there shut idles free = as_before m.links number link there shut
  happens_shut items left happened _ Ticks number link there shut idles free = as_before m.links number link there shut
  happens_shut items left happened _ (RunsOutside ran runs) number link there shut idles free = as_before m.links number link there shut
  happens_shut items left happened _ (Asks ltxid result runs) number link there shut idles free = as_before m.links number link there shut
  happens_shut items left happened n (Drains closed) number link there shut idles free =
      record { now = link; there = each_others (sends m.event (closed_by_drain ∷ [])) m.links m.pool.idle number idles ∙ there; same = self_frozen link shut }
