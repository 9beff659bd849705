-- What one event adds to the work on the connections, and to the idle ones.
use Rattle.std.proofs.Common.{◌≡◌, refl, ap, Bool, true, false, ℕ, ◌+◌, ◌-◌, ◌≤◌, length, length-append, drop, map, fold, List, [], ◌∷◌, ◌++◌, Option, Some, None, if◌then◌else◌, arith}
use Rattle.std.specs.Prelude.{◌==◌, not, nat_le, filter, cond}
use Rattle.std.proofs.lemmas.List.{length-drop, length-map}
use Rattle.svc_values.specs.declared.frame.Up.{Up}
use Rattle.pool_core.specs.declared.answers.Back.{Back}
use Rattle.pool_core.specs.meaning.Slots.{Slots, has_to_wait, joined, without, drains, give_back_answer, after_take, after_gone}
use Rattle.client_model.specs.declared.act.Act.{Act}
use Rattle.client_model.specs.declared.act.Failed.TheVariants.{PoolWait, Retries}
use Rattle.client_model.specs.declared.act.Hold.{Hold}
use Rattle.client_model.specs.declared.act.Hold.TheVariants.{Keep, GiveBack, Drop}
use Rattle.client_model.specs.declared.input.Input.{Input}
use Rattle.client_model.specs.declared.input.Input.TheVariants.{Start, Waiting, Lent, Opened, TryFailed, Took, Gone}
use Rattle.client_model.specs.declared.input.Wants.{Wants}
use Rattle.client_model.specs.meaning.Released.{released}
use Rattle.client_model.specs.meaning.Terms.{Terms, Talk, Queued, Seeking, Greeting}
use Rattle.client_model.specs.meaning.Talk.{Step, stands, quiet, fails, on_hello, waits_from, with_tried, lost_of, talk_step, takes as taken_by}
use Rattle.outage_schedule.specs.declared.item.Item.{Item}
use Rattle.outage_schedule.specs.declared.item.Served.{Served}
use Rattle.world_model.specs.meaning.Settings.{Setting}
use Rattle.world_model.specs.meaning.Frames.{Sent, up_size, whole_front}
use Rattle.world_model.specs.meaning.Links.{Link, new_link, link_at, with_link, changed, sends, takes, is_orphan, open_from}
use Rattle.world_model.specs.meaning.Clients.{Doing, doing_at, heard}
use Rattle.world_model.specs.meaning.Acting.{closing, frames_of, sent_by, owner_at, connection_of, call_in, act_at, steps}
use Rattle.world_model.specs.meaning.Machines.{Machine}
use Rattle.world_model.specs.meaning.Matching.{Noted}
use Rattle.world_model.specs.meaning.Going.{lost_at_once}
use Rattle.world_model.specs.meaning.Serving.{is_blocked, pool_after, handled, after_served}
use Rattle.world_model.specs.meaning.Cutting.{cut_link, reaped_link}
use Rattle.world_model.specs.meaning.Crashing.{fallen_link, falls, after_stopped}
use Rattle.world_model.specs.meaning.Outside.{closed_by_drain}
use Rattle.world_model.specs.Remaining.{once_if, link_work, links_work}
use Rattle.world_model.proofs.Offered.{IsFront, front_is, open_is, once_most, few_frames, steps_work, takes_work, whole_begins, with_work, changed_work, sends_work, handled_work, new_work, moves_next_number as next_number, takes_one, Tries, FromQueue, Again, Goes, Rests, Waits, Lends, Opens, MovesFails as Fails, Takes, Loses, ServesLast, LastNone, LastStopped, LastServed, Happens, Nothing, IsStep, Serves, Cuts, Reaps, Crashes, OpensUp, StopsOpening, Ticks, RunsOutside, MovesAsks as Asks, Drains, has_next, is_hushed, said, said_lent}

-- FRAMES ------------------------------------------------------------------------------------------

-- a client sends two frames at most, whatever it hears
step_few : (terms : Terms) (talk : Talk) (input : Input) (now : ℕ) (how : Back) → length ((talk_step terms talk input now).1.send ++ closing (talk_step terms talk input now).1.hold how) ≤ 2
step_few terms talk Start now how = omega arith
step_few terms talk Waiting now how = by (nat_le terms.limits.wait (now - waits_from talk.phase now))
  where
    waiting : Bool → Step
    waiting long = if long then fails talk false None (PoolWait (waits_from talk.phase now) now) else (stands talk (Queued (Some (waits_from talk.phase now))), quiet)

    by : (long : Bool) → length ((waiting long).1.send ++ closing (waiting long).1.hold how) ≤ 2
    by true = omega arith
    by false = omega arith
step_few terms talk (Lent connection ltxid) now how =
    let step : Step = on_hello terms talk None ltxid true now in
    few_frames (Greeting None) (has_next talk) true false step.0.phase step.1.send step.1.hold how (said_lent terms talk ltxid now)
step_few terms talk (Opened connection) now how = omega arith
step_few terms talk TryFailed now how = by (nat_le terms.limits.retries (talk.tries + 1))
  where
    tried : Bool → Step
    tried many = if many then fails (with_tried talk now) false None (Retries (talk.tries + 1)) else (stands (with_tried talk now) (Seeking (lost_of talk.phase)), quiet)

    by : (many : Bool) → length ((tried many).1.send ++ closing (tried many).1.hold how) ≤ 2
    by true = omega arith
    by false = omega arith
step_few terms talk (Took frame alive) now how =
    let step : Step = taken_by terms talk talk.phase frame alive now in
    few_frames talk.phase (has_next talk) alive (is_hushed frame) step.0.phase step.1.send step.1.hold how (said terms talk talk.phase frame alive now refl)
step_few terms talk (Gone event) now how = omega arith

-- THE POOL ----------------------------------------------------------------------------------------

few_left : (test : ℕ → Bool) (xs : List ℕ) → length (filter test xs) ≤ length xs
few_left test [] = omega arith
few_left test (x ∷ xs) = by (test x) (few_left test xs)
  where
    by : (passes : Bool) → length (filter test xs) ≤ length xs → length (cond passes (x ∷ filter test xs) (filter test xs)) ≤ length (x ∷ xs)
    by true rest = omega (arith, rest)
    by false rest = omega (arith, rest)

abbrev idle_in : Slots → ℕ
idle_in pool = length pool.idle

take_idle : (pool : Slots) (client : ℕ) → idle_in (after_take pool client) ≤ idle_in pool
take_idle pool client = by (has_to_wait pool client)
  where
    by : (waits : Bool) → idle_in (if waits then record pool { queue = joined pool.queue client } else record pool { lent = pool.lent + 1; queue = without pool.queue client; idle = drop 1 pool.idle }) ≤ idle_in pool
    by true = omega arith
    by false = let long : length (drop 1 pool.idle) ≡ length pool.idle - 1 = length-drop 1 pool.idle in omega (arith, long)

tries_idle : (m : Machine) (number : ℕ) (wanted : Wants) (pool : Slots) → Tries m number wanted pool → idle_in pool ≤ idle_in m.pool
tries_idle m number _ _ (FromQueue answer) = take_idle m.pool number
tries_idle m number _ _ Again = omega arith

released_idle : (pool : Slots) (client connection : ℕ) (holds_slot : Bool) (held : Hold) → idle_in (released pool client connection holds_slot held) ≤ idle_in pool + 1
released_idle pool client connection holds_slot Keep = omega arith
released_idle pool client connection holds_slot GiveBack = by (drains pool connection)
  where
    by : (closes : Bool) → length (if closes then pool.idle else pool.idle ++ connection ∷ []) ≤ length pool.idle + 1
    by true = omega arith
    by false = let long : length (pool.idle ++ connection ∷ []) ≡ length pool.idle + length (connection ∷ []) = length-append pool.idle (connection ∷ []) in omega (arith, long)
released_idle pool client connection true Drop = omega arith
released_idle pool client connection false Drop = omega arith

gone_idle : (pool : Slots) (numbers : List ℕ) → idle_in (fold after_gone pool numbers) ≤ idle_in pool
gone_idle pool [] = omega arith
gone_idle pool (number ∷ numbers) =
    let first : idle_in (after_gone pool number) ≤ idle_in pool = few_left (λ other. not (other == number)) pool.idle in
    let rest : idle_in (fold after_gone (after_gone pool number) numbers) ≤ idle_in (after_gone pool number) = gone_idle (after_gone pool number) numbers in
    omega (arith, first, rest)

served_idle : (pool : Slots) (number : ℕ) (one : Item) → idle_in (pool_after pool number one) ≤ idle_in pool
served_idle pool number one = by (is_blocked one)
  where
    by : (blocks : Bool) → idle_in (if blocks then after_gone pool number else pool) ≤ idle_in pool
    by true = few_left (λ other. not (other == number)) pool.idle
    by false = omega arith

-- CONNECTIONS -------------------------------------------------------------------------------------

-- a cut makes an orphan at most
cut_work : (event up down : ℕ) (link : Link) → link_work (cut_link event up down link) ≤ link_work link + 1
cut_work event up down link =
    let front = whole_begins up_size up link.up in
    let long : length (whole_front up_size up link.up ++ front.rest) ≡ length (whole_front up_size up link.up) + length front.rest = length-append (whole_front up_size up link.up) front.rest in
    let whole : length (whole_front up_size up link.up ++ front.rest) ≡ length link.up = ap length front.whole in
    let one : link_work (cut_link event up down link) ≤ length (whole_front up_size up link.up) + 1 = few in
    omega (arith, long, whole, one)
  where
    few : link_work (cut_link event up down link) ≤ length (whole_front up_size up link.up) + 1
    few = let most : once_if (is_orphan (cut_link event up down link)) ≤ 1 = once_most (is_orphan (cut_link event up down link)) in omega (arith, most)

-- nothing is left behind a crash
fallen_work : (event : ℕ) (links : List Link) → links_work (map (fallen_link event) links) ≡ 0
fallen_work event [] = refl
fallen_work event (link ∷ links) = let rest : links_work (map (fallen_link event) links) ≡ 0 = fallen_work event links in omega (arith, rest)

each_work : (event : ℕ) (frame : Sent) (links : List Link) (numbers : List ℕ) → links_work (fold (changed (sends event (frame ∷ []))) links numbers) ≤ links_work links + length numbers
each_work event frame links [] = omega arith
each_work event frame links (number ∷ numbers) =
    let first : links_work (changed (sends event (frame ∷ [])) links number) ≤ links_work links + 1 = changed_work (sends event (frame ∷ [])) 1 links number (sends_work event (frame ∷ [])) in
    let rest : links_work (fold (changed (sends event (frame ∷ []))) (changed (sends event (frame ∷ [])) links number) numbers) ≤ links_work (changed (sends event (frame ∷ [])) links number) + length numbers =
    each_work event frame (changed (sends event (frame ∷ [])) links number) numbers in
    omega (arith, first, rest)

-- EVENTS ------------------------------------------------------------------------------------------

-- Two frames at most, or a Close on each idle connection; and one connection more is idle at most.
pub record AddsFew (m n : Machine) : Type 0 where
  pub work : links_work n.links ≤ links_work m.links + (length m.pool.idle + 2)
  pub idle : length n.pool.idle ≤ length m.pool.idle + 1

module _ (setting : Setting) (m : Machine) where
  step_adds : (a : Machine) (number : ℕ) (doing : Doing) (holds_slot : Bool) (input : Input) → links_work a.links ≤ links_work m.links → idle_in a.pool ≤ idle_in m.pool → AddsFew m (steps setting a number doing holds_slot input)
  step_adds a number doing holds_slot input no_more no_idle = record { work = work; idle = idle }
    where
      after : Doing
      after = heard setting.terms a.event a.tick doing input

      act : Act
      act = act_at setting a doing input

      frames : List Up
      frames = frames_of a.pool (connection_of after) act

      few : length frames ≤ 2
      few = step_few setting.terms doing.talk input a.tick (give_back_answer a.pool (connection_of doing))

      same : length (map (sent_by (owner_at a number) (call_in after.talk.phase)) frames) ≡ length frames
      same = length-map frames (sent_by (owner_at a number) (call_in after.talk.phase))

      sent : links_work (steps setting a number doing holds_slot input).links ≤ links_work a.links + 2
      sent = steps_work a.event (map (sent_by (owner_at a number) (call_in after.talk.phase)) frames) a.links (connection_of after) 2 (omega (arith, few, same))

      work : links_work (steps setting a number doing holds_slot input).links ≤ links_work m.links + (length m.pool.idle + 2)
      work = let grown = sent in omega (arith, grown, no_more)

      given : idle_in (released a.pool number (connection_of after) holds_slot act.hold) ≤ idle_in a.pool + 1
      given = released_idle a.pool number (connection_of after) holds_slot act.hold

      idle : idle_in (steps setting a number doing holds_slot input).pool ≤ idle_in m.pool + 1
      idle = let grown = given in omega (arith, grown, no_idle)

  lost_adds : (a : Machine) (number : ℕ) (ended : Option ℕ) (doing : Option Doing) → AddsFew m a → AddsFew m (lost_at_once setting a number ended doing)
  lost_adds a number ended None adds = adds
  lost_adds a number ended (Some doing) adds = record { work = adds.work; idle = adds.idle }

  unless_adds : (a : Machine) (number : ℕ) (ended : Option ℕ) (doing : Option Doing) (alive : Bool) → AddsFew m a → AddsFew m (if alive then a else lost_at_once setting a number ended doing)
  unless_adds a number ended doing true adds = adds
  unless_adds a number ended doing false adds = lost_adds a number ended doing adds

  rests_adds : AddsFew m m
  rests_adds = record { work = omega arith; idle = omega arith }

  goes_adds : (number : ℕ) (n : Machine) → Goes setting m number n → AddsFew m n
  goes_adds number _ Rests = rests_adds
  goes_adds number _ (Waits doing is answer) = step_adds _ number doing false Waiting (omega arith) (take_idle m.pool number)
  goes_adds number _ (Lends doing connection link ltxid is answer there held) =
      step_adds _ number (record doing { connection = Some connection }) true (Lent connection ltxid) (omega arith) (take_idle m.pool number)
  goes_adds number _ (Opens doing wanted pool is tries up) =
      let same : links_work (m.links ++ new_link ∷ []) ≡ links_work m.links = new_work m.links in
      step_adds _ number (record doing { connection = Some (next_number m) }) true (Opened (next_number m)) (omega (arith, same)) (tries_idle m number wanted pool tries)
  goes_adds number _ (Fails doing wanted pool is tries down) = step_adds _ number doing true TryFailed (omega arith) (tries_idle m number wanted pool tries)
  goes_adds number _ (Takes doing connection link reply left is on down) =
      let a : Machine = takes_one setting m number doing connection link reply left in
      unless_adds a number link.ended (doing_at a.clients number) link.is_open
      (step_adds _ number doing true (Took reply.frame link.is_open) (takes_work m.links connection link (takes (Took reply.frame link.is_open) reply left link) on.there refl) (omega arith))
  goes_adds number _ (Loses doing connection link is on none closed) = record { work = omega arith; idle = omega arith }

  serve_adds : (number : ℕ) (front : _) (served : Served) → IsFront m.links number front → AddsFew m (after_served m number front served)
  serve_adds number front served at =
      let sum : links_work (with_link m.links number (handled m.event front served)) + link_work front.link ≡ links_work m.links + link_work (handled m.event front served) = with_work m.links number front.link (handled m.event front served) at.there in
      let less : link_work (handled m.event front served) + 1 ≤ link_work front.link = handled_work m.event front served at.living at.up in
      let kept : idle_in (pool_after m.pool number served.item) ≤ idle_in m.pool = served_idle m.pool number served.item in
      record { work = omega (arith, sum, less); idle = omega (arith, kept) }

  falls_adds : (failover : Bool) (a : Machine) → idle_in a.pool ≤ idle_in m.pool → AddsFew m (falls failover a)
  falls_adds failover a no_idle =
      let none : links_work (map (fallen_link a.event) a.links) ≡ 0 = fallen_work a.event a.links in
      let gone : idle_in (fold after_gone a.pool (open_from 1 a.links)) ≤ idle_in a.pool = gone_idle a.pool (open_from 1 a.links) in
      record { work = omega (arith, none); idle = omega (arith, gone, no_idle) }

  last_adds : (number after : ℕ) (failover : Bool) (items left : List Served) (a : Machine) → ServesLast m number after items left a → AddsFew m (falls failover a)
  last_adds number after failover items left _ (LastNone same) = falls_adds failover m (omega arith)
  last_adds number after failover items left _ (LastStopped front served is stopped same) = falls_adds failover (after_stopped m number front served) (omega arith)
  last_adds number after failover items left _ (LastServed front served is over same) = falls_adds failover (after_served m number front served) (served_idle m.pool number served.item)

  pub happens_adds : (items left : List Served) (happened : Noted) (n : Machine) → Happens setting m items left happened n → AddsFew m n
  happens_adds items left happened _ (Nothing kind quiet) = rests_adds
  happens_adds items left happened _ (IsStep number did n moves) = goes_adds number n moves
  happens_adds items left happened _ (Serves number frame front served is ordinary same) = serve_adds number front served (front_is m.links number front is)
  happens_adds items left happened _ (Cuts number up down reached link is) =
      let there : link_at m.links number ≡ Some link = (open_is m.links number link is).there in
      let sum : links_work (with_link m.links number (cut_link m.event up down link)) + link_work link ≡ links_work m.links + link_work (cut_link m.event up down link) = with_work m.links number link (cut_link m.event up down link) there in
      let one : link_work (cut_link m.event up down link) ≤ link_work link + 1 = cut_work m.event up down link in
      let gone : idle_in (after_gone m.pool number) ≤ idle_in m.pool = few_left (λ other. not (other == number)) m.pool.idle in
      record { work = omega (arith, sum, one); idle = omega (arith, gone) }
  happens_adds items left happened _ (Reaps number reaped orphan) =
      let less : links_work (changed reaped_link m.links number) ≤ links_work m.links + 0 = changed_work reaped_link 0 m.links number (λ link. omega arith) in
      record { work = omega (arith, less); idle = omega arith }
  happens_adds items left happened _ (Crashes number after failover down a up last) = last_adds number after failover items left a last
  happens_adds items left happened _ (OpensUp incarnation down may) = record { work = omega arith; idle = omega arith }
  happens_adds items left happened _ (StopsOpening made down) = record { work = omega arith; idle = omega arith }
  happens_adds items left happened _ Ticks = record { work = omega arith; idle = omega arith }
  happens_adds items left happened _ (RunsOutside ran runs) = record { work = omega arith; idle = omega arith }
  happens_adds items left happened _ (Asks ltxid result runs) = record { work = omega arith; idle = omega arith }
  happens_adds items left happened _ (Drains closed) =
      let closes : links_work (fold (changed (sends m.event (closed_by_drain ∷ []))) m.links m.pool.idle) ≤ links_work m.links + length m.pool.idle = each_work m.event closed_by_drain m.links m.pool.idle in
      record { work = omega (arith, closes); idle = omega arith }
