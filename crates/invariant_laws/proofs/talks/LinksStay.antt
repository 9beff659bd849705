-- What becomes of the connection of a number in an event: it is there still, and stands so to what
-- it was.
use Rattle.std.proofs.Common.{◌≡◌, ◌≢◌, refl, sym, ap, subst, ◌∙◌, Bool, true, false, ℕ, suc, zero, List, [], ◌∷◌, fold, map, Option, Some, None, ◌⊎◌, inl, inr, if◌then◌else◌}
use Rattle.std.proofs.lemmas.Bool.{and_parts}
use Rattle.outage_schedule.specs.declared.item.Served.{Served}
use Rattle.pool_core.specs.meaning.Slots.{Slots, after_take, after_opened}
use Rattle.client_model.specs.declared.input.Input.{Input}
use Rattle.client_model.specs.declared.input.Input.TheVariants.{Waiting, Lent, Opened, TryFailed, Took}
use Rattle.world_model.specs.meaning.Frames.{Sent, Reply}
use Rattle.world_model.specs.meaning.Links.{Link, link_at, with_link, changed, sends, takes}
use Rattle.world_model.specs.meaning.Clients.{Doing, heard, doing_at}
use Rattle.world_model.specs.meaning.Acting.{sent_by, owner_at, call_in, frames_of, act_at, connection_of}
use Rattle.world_model.specs.meaning.Machines.{Machine}
use Rattle.world_model.specs.meaning.Outside.{closed_by_drain}
use Rattle.world_model.specs.meaning.Matching.{Noted, Went}
use Rattle.world_model.specs.meaning.Settings.{Setting}
use Rattle.world_model.specs.meaning.Going.{lost_at_once}
use Rattle.world_model.specs.meaning.Serving.{Front, front_at, is_of_front, is_ordinary, after_front, handled}
use Rattle.world_model.specs.meaning.Cutting.{cut_link, reaped_link}
use Rattle.world_model.specs.meaning.Crashing.{is_stopped, is_over, fallen_link, falls}
use Rattle.world_model.proofs.Offered.{front_is, open_is, get_mapped, with_others, with_own, changed_own, new_others, changed_others, moves_next_number as next_number, takes_one, Goes, Rests, Waits, Lends, Opens, MovesFails as Fails, Takes, Loses, ServesLast, LastNone, LastStopped, LastServed, Happens, Nothing, IsStep, Serves, Cuts, Reaps, Crashes, OpensUp, StopsOpening, Ticks, RunsOutside, MovesAsks as Asks, Drains, some_same, either}

-- the connection of this number is there, and stands so to this one
pub record Becomes (R : Link → Link → Type 0) (links : List Link) (number : ℕ) (link : Link) : Type 0 where
  pub next : Link
  pub there : link_at links number ≡ Some next
  pub so : R link next

-- it is a step of a client
abbrev pub is_went : Noted → Bool
is_went (Went number did) = true
is_went _ = false

-- where a loss is heard at once every connection stays
pub unless_links : (setting : Setting) (a : Machine) (who : ℕ) (ended : Option ℕ) (doing : Option Doing) (is_open : Bool) → (if is_open then a else lost_at_once setting a who ended doing).links ≡ a.links
unless_links setting a who ended doing true = refl
unless_links setting a who ended None false = refl
unless_links setting a who ended (Some doing) false = refl

module _ (R : Link → Link → Type 0) (self : (link : Link) → R link link) (joined : (a b c : Link) → R a b → R b c → R a c) where
  abbrev pub Stays : List Link → List Link → Type 0
  Stays before after = (number : ℕ) (link : Link) → link_at before number ≡ Some link → Becomes R after number link

  pub stay_same : (links : List Link) → Stays links links
  stay_same links number link is = record { next = link; there = is; so = self link }

  pub stay_then : (a b c : List Link) → Stays a b → Stays b c → Stays a c
  stay_then a b c one other number link is =
      let first = one number link is in
      let second = other number first.next first.there in
      record { next = second.next; there = second.there; so = joined link first.next second.next first.so second.so }

  pub set_stay : (links : List Link) (at : ℕ) (old new : Link) → link_at links at ≡ Some old → R old new → Stays links (with_link links at new)
  set_stay links at old new there so number link is = by (either number at)
    where
      by : (number ≡ at) ⊎ (number ≢ at) → Becomes R (with_link links at new) number link
      by (inl same) =
          let here : link_at links at ≡ Some link = ap (link_at links) (sym same) ∙ is in
          record {
            next = new;
            there = ap (link_at (with_link links at new)) same ∙ with_own links at old new there;
            so = subst (λ (l : Link). R l new) (some_same (link_at links at) old link there here) so;
          }
      by (inr apart) = record { next = link; there = with_others links at number new apart ∙ is; so = self link }

  pub changed_stay : (change : Link → Link) (links : List Link) (at : ℕ) → ((link : Link) → R link (change link)) → Stays links (changed change links at)
  changed_stay change links at so number link is = by (either number at)
    where
      by : (number ≡ at) ⊎ (number ≢ at) → Becomes R (changed change links at) number link
      by (inl same) =
          record { next = change link; there = ap (link_at (changed change links at)) same ∙ changed_own change links at link (ap (link_at links) (sym same) ∙ is); so = so link }
      by (inr apart) = record { next = link; there = changed_others change links at number apart ∙ is; so = self link }

  pub each_stay : (change : Link → Link) (links : List Link) (numbers : List ℕ) → ((link : Link) → R link (change link)) → Stays links (fold (changed change) links numbers)
  each_stay change links [] so = stay_same links
  each_stay change links (at ∷ numbers) so =
      stay_then links (changed change links at) (fold (changed change) (changed change links at) numbers) (changed_stay change links at so) (each_stay change (changed change links at) numbers so)

  pub mapped_stay : (change : Link → Link) (links : List Link) → ((link : Link) → R link (change link)) → Stays links (map change links)
  mapped_stay change links so zero link is = absurd (let none : ⊥ = cc in none)
  mapped_stay change links so (suc index) link is = record { next = change link; there = get_mapped change links index link is; so = so link }

  -- EVENTS ----------------------------------------------------------------------------------------

  module _ (setting : Setting) (m : Machine) (served_so : (number : ℕ) (front : Front) (served : Served) → front_at m.links number ≡ Some front → is_of_front m front served ≡ true → R front.link (handled m.event front served))
      (stopped_so : (number : ℕ) (front : Front) (served : Served) → front_at m.links number ≡ Some front → is_of_front m front served ≡ true → R front.link (after_front front served None))
      (cut_so : (up down : ℕ) (link : Link) → link.is_open ≡ true → R link (cut_link m.event up down link)) (reaped_so : (link : Link) → R link (reaped_link link)) (fallen_so : (link : Link) → R link (fallen_link m.event link)) where
    falls_stay : (number after : ℕ) (failover : Bool) (items left : List Served) (a : Machine) → ServesLast m number after items left a → Stays m.links (falls failover a).links
    falls_stay number after failover items left _ (LastNone same) = mapped_stay (fallen_link m.event) m.links fallen_so
    falls_stay number after failover items left _ (LastStopped front served is stopped same) =
        let next : Link = after_front front served None in
        stay_then m.links (with_link m.links number next) (map (fallen_link m.event) (with_link m.links number next))
        (set_stay m.links number front.link next (front_is m.links number front is).there (stopped_so number front served is (of_stopped after front served stopped))) (mapped_stay (fallen_link m.event) (with_link m.links number next) fallen_so)
      where
        of_stopped : (after : ℕ) (front : Front) (served : Served) → is_stopped m after front served ≡ true → is_of_front m front served ≡ true
        of_stopped after front served stopped = (and_parts (is_of_front m front served) _ stopped).0
    falls_stay number after failover items left _ (LastServed front served is over same) =
        let next : Link = handled m.event front served in
        stay_then m.links (with_link m.links number next) (map (fallen_link m.event) (with_link m.links number next))
        (set_stay m.links number front.link next (front_is m.links number front is).there (served_so number front served is (of_over after front served over))) (mapped_stay (fallen_link m.event) (with_link m.links number next) fallen_so)
      where
        of_over : (after : ℕ) (front : Front) (served : Served) → is_over m after front served ≡ true → is_of_front m front served ≡ true
        of_over after front served over = (and_parts (is_of_front m front served) _ (and_parts (is_ordinary m front served) _ over).0).0

    -- by all that is no step of a client, where a drain keeps it
    pub others_stay : (items left : List Served) (kind : Noted) (n : Machine) → Stays m.links (fold (changed (sends m.event (closed_by_drain ∷ []))) m.links m.pool.idle) → is_went kind ≡ false → Happens setting m items left kind n → Stays m.links n.links
    others_stay items left kind _ drains other (Nothing _ quiet) = stay_same m.links
    others_stay items left kind n drains other (IsStep number did _ moves) = absurd (let none : ⊥ = cc in none)
    others_stay items left kind _ drains other (Serves number frame front served is ordinary same) =
        set_stay m.links number front.link (handled m.event front served) (front_is m.links number front is).there (served_so number front served is (and_parts (is_of_front m front served) _ ordinary).0)
    others_stay items left kind _ drains other (Cuts number up down reached link is) =
        let at = open_is m.links number link is in set_stay m.links number link (cut_link m.event up down link) at.there (cut_so up down link at.open_now)
    others_stay items left kind _ drains other (Reaps number reaped orphan) = changed_stay reaped_link m.links number reaped_so
    others_stay items left kind _ drains other (Crashes number after failover down a runs last) = falls_stay number after failover items left a last
    others_stay items left kind _ drains other (OpensUp incarnation down may) = stay_same m.links
    others_stay items left kind _ drains other (StopsOpening made down) = stay_same m.links
    others_stay items left kind _ drains other Ticks = stay_same m.links
    others_stay items left kind _ drains other (RunsOutside ran runs) = stay_same m.links
    others_stay items left kind _ drains other (Asks ltxid result runs) = stay_same m.links
    others_stay items left kind _ drains other (Drains closed) = drains

    -- and by those too, where what is sent and taken keeps it
    module _ (said_so : (frames : List Sent) (link : Link) → R link (sends m.event frames link)) (taken_so : (input : Input) (reply : Reply) (left : List Reply) (link : Link) → R link (takes input reply left link)) where
      said_stay : (frames : List Sent) (links : List Link) (at : ℕ) → Stays links (changed (sends m.event frames) links at)
      said_stay frames links at = changed_stay (sends m.event frames) links at (said_so frames)

      abbrev spoken : ℕ → Slots → Doing → Input → List Sent
      spoken who pool doing input =
          map (sent_by (owner_at m who) (call_in (heard setting.terms m.event m.tick doing input).talk.phase)) (frames_of pool (connection_of doing) (act_at setting m doing input))

      unless_stay : (a : Machine) (who : ℕ) (ended : Option ℕ) (doing : Option Doing) (is_open : Bool) → Stays m.links a.links → Stays m.links (if is_open then a else lost_at_once setting a who ended doing).links
      unless_stay a who ended doing is_open stays = subst (λ (links : List Link). Stays m.links links) (sym (unless_links setting a who ended doing is_open)) stays

      goes_stay : (who : ℕ) (a : Machine) → Goes setting m who a → Stays m.links a.links
      goes_stay who _ Rests = stay_same m.links
      goes_stay who _ (Waits doing is answer) = said_stay (spoken who (after_take m.pool who) doing Waiting) m.links (connection_of doing)
      goes_stay who _ (Lends doing connection link ltxid is answer there held) = said_stay (spoken who (after_take m.pool who) (record doing { connection = Some connection }) (Lent connection ltxid)) m.links connection
      goes_stay who _ (Opens doing wanted pool is tries runs) =
          λ number link there. record { next = link; there = new_others (sends m.event (spoken who (after_opened pool (next_number m)) (record doing { connection = Some (next_number m) }) (Opened (next_number m)))) m.links number link there; so = self link }
      goes_stay who _ (Fails doing wanted pool is tries down) = said_stay (spoken who pool doing TryFailed) m.links (connection_of doing)
      goes_stay who _ (Takes doing connection link reply left is on down) =
          let taken : Link = takes (Took reply.frame link.is_open) reply left link in
          let a : Machine = takes_one setting m who doing connection link reply left in
          unless_stay a who link.ended (doing_at a.clients who) link.is_open
          (stay_then m.links (with_link m.links connection taken) a.links (set_stay m.links connection link taken on.there (taken_so (Took reply.frame link.is_open) reply left link)) (said_stay (spoken who m.pool doing (Took reply.frame link.is_open)) (with_link m.links connection taken) (connection_of doing)))
      goes_stay who _ (Loses doing connection link is on none closed) = stay_same m.links

      pub all_stay : (items left : List Served) (kind : Noted) (n : Machine) → Happens setting m items left kind n → Stays m.links n.links
      all_stay items left kind n happens = by kind happens (is_went kind) refl
        where
          drains : Stays m.links (fold (changed (sends m.event (closed_by_drain ∷ []))) m.links m.pool.idle)
          drains = each_stay (sends m.event (closed_by_drain ∷ [])) m.links m.pool.idle (said_so (closed_by_drain ∷ []))

          went : (kind : Noted) (n : Machine) → Happens setting m items left kind n → is_went kind ≡ true → Stays m.links n.links
          went _ n (IsStep who did _ moves) is = goes_stay who n moves
          went (Went who did) _ (Nothing _ quiet) is = stay_same m.links
          went kind n happens is = absurd (let none : ⊥ = cc in none)

          by : (kind : Noted) → Happens setting m items left kind n → (went : Bool) → is_went kind ≡ went → Stays m.links n.links
          by kind happens true is = went kind n happens is
          by kind happens false is = others_stay items left kind n drains is happens
