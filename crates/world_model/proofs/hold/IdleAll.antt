-- Idle connections are idle, behind each event.
use Rattle.std.proofs.Common.{◌≡◌, ◌≢◌, refl, sym, ap, subst, ◌∙◌, Bool, true, false, ℕ, ◌+◌, ◌-◌, ◌≤◌, List, [], ◌∷◌, ◌++◌, map, count_by, Option, Some, None, if◌then◌else◌, arith}
use Rattle.std.specs.Prelude.{◌==◌, not, nat_le, is_some, unwrap_or}
use Rattle.std.specs.List.{list_all}
use Rattle.std.specs.Option.{option_map_or}
use Rattle.std.proofs.lemmas.Bool.{and_parts, and_from}
use Rattle.svc_values.specs.declared.frame.Up.{Up}
use Rattle.svc_values.specs.declared.frame.Up.TheVariants as up
use Rattle.pool_core.specs.declared.answers.Back.TheVariants as back
use Rattle.pool_core.specs.meaning.Slots.{Slots, after_take, after_opened, drains, give_back_answer}
use Rattle.client_model.specs.declared.act.Hold.{Hold}
use Rattle.client_model.specs.declared.act.Hold.TheVariants as hold
use Rattle.client_model.specs.declared.act.Failed.TheVariants.{Retries, PoolWait}
use Rattle.client_model.specs.declared.input.Input.TheVariants.{Took}
use Rattle.client_model.specs.declared.input.Wants.{Wants}
use Rattle.client_model.specs.declared.input.Wants.TheVariants as wants
use Rattle.client_model.specs.meaning.Released.{released}
use Rattle.client_model.specs.meaning.Terms.{Terms, Talk, Phase, Queued, Seeking, Greeting}
use Rattle.client_model.specs.meaning.Talk.{Step, stands, quiet, fails, with_tried, lost_of, on_hello, on_waiting, waits_from, on_try_failed, takes as taken_by}
use Rattle.outage_schedule.specs.declared.item.Served.{Served}
use Rattle.world_model.specs.meaning.Settings.{Setting}
use Rattle.world_model.specs.meaning.Frames.{Owner, Sent, Reply}
use Rattle.world_model.specs.meaning.Links.{Link, new_link, link_at, with_link, changed, sends, takes}
use Rattle.world_model.specs.meaning.Clients.{Doing, doing_at}
use Rattle.world_model.specs.meaning.Acting.{sent_by, owner_at, call_in, closing, connection_of}
use Rattle.world_model.specs.meaning.Machines.{Machine}
use Rattle.world_model.specs.meaning.Matching.{Noted}
use Rattle.world_model.specs.meaning.Going.{lost_at_once}
use Rattle.world_model.specs.meaning.Cutting.{cut_link, reaped_link}
use Rattle.world_model.specs.records.Hold.{is_idle}
use Rattle.world_model.specs.Parts.{is_out}
use Rattle.world_model.specs.meaning.Serving.{after_front}
use Rattle.world_model.specs.Sames.{all_with, each_pair}
use Rattle.world_model.specs.records.Wire.{is_fresh}
use Rattle.world_model.proofs.events.Tests.{eq_from, eq_to}
use Rattle.world_model.proofs.events.AllLists.{weaker_all}
use Rattle.world_model.proofs.events.AllLinks.{at_link, front_is}
use Rattle.world_model.proofs.events.Moves.{IsDoing, next_number, Tries, FromQueue, Again, Goes, Rests, Waits, Lends, Opens, Fails, Takes, Loses, takes_one, ServesLast, LastNone, LastStopped, LastServed, Happens, Nothing, IsStep, Serves, Cuts, Reaps, Crashes, OpensUp, StopsOpening, Ticks, RunsOutside, Asks, Drains}
use Rattle.world_model.proofs.events.Others.{changed_others}
use Rattle.world_model.proofs.wire.SentLinks.{sends_none, spoken_by, differ, differs_from, waiting_silent, failed_silent}
use Rattle.world_model.proofs.events.Lookups.{with_others, with_own, changed_own, new_others}
use Rattle.world_model.proofs.wire.LinkOut.{taken_none, taken_held}
use Rattle.world_model.proofs.basic.NamesKept.{is_wired}
use Rattle.world_model.proofs.wire.Saying.{Spoken, Quiet, Fails, Ends, Asks, Calls, Marks, has_next, is_hushed, said, said_lent}
use Rattle.world_model.proofs.hold.IdleKept.{is_rest, all_rest, none_idle}
use Rattle.world_model.proofs.hold.IdleEvents.{IsSameRest, rest_same, rest_links, waiting_rest, opening_rest, IsLent, lent_rest, released_rest, ended_by, ended_idle, given_rest, with_rest, gone_one, served_rest}

-- STEPS -------------------------------------------------------------------------------------------

then_rest : (a b c : Slots) → IsSameRest a b → IsSameRest b c → IsSameRest a c
then_rest a b c one other = record { idle = other.idle ∙ one.idle; drained = other.drained ∙ one.drained }

-- without frames each connection stays
silent_at : (event : ℕ) (frames : List Sent) (links : List Link) (number other : ℕ) → frames ≡ [] → link_at (changed (sends event frames) links number) other ≡ link_at links other
silent_at event frames links number other none = by (other == number) refl
  where
    found : (one : Option Link) → link_at links number ≡ one → link_at (changed (sends event frames) links number) number ≡ link_at links number
    found None is = ap (λ (f : Option Link). link_at (option_map_or (λ link. with_link links number (sends event frames link)) f links) number) is
    found (Some link) is = changed_own (sends event frames) links number link is ∙ (ap Some (ap (λ (sent : List Sent). sends event sent link) none ∙ sends_none event link) ∙ sym is)

    by : (same : Bool) → (other == number) ≡ same → link_at (changed (sends event frames) links number) other ≡ link_at links other
    by true same =
        let at : number ≡ other = sym (eq_from other number same) in
        subst (λ (n : ℕ). link_at (changed (sends event frames) links number) n ≡ link_at links n) at (found (link_at links number) refl)
    by false same = changed_others (sends event frames) links number other (λ e. let yes_is : (other == number) ≡ true = eq_to other number e in let never : ⊥ = cc in never)

-- those that are left where the first was lent
later_rest : (links : List Link) (pool after : Slots) (change : Link → Link) (connection : ℕ) (numbers : List ℕ) → after.drained ≡ pool.drained → list_all (is_rest links pool) numbers ≡ true
    → all_with (differ connection) numbers ≡ true → list_all (is_rest (changed change links connection) after) numbers ≡ true
later_rest links pool after change connection [] drained all apart = refl
later_rest links pool after change connection (number ∷ numbers) drained all apart =
    let one = and_parts (is_rest links pool number) (list_all (is_rest links pool) numbers) all in
    let two = and_parts (differ connection number) (all_with (differ connection) numbers) apart in
    let both = and_parts (option_map_or is_idle (link_at links number) false) (not (drains pool number)) one.0 in
    and_from (is_rest (changed change links connection) after number) (list_all (is_rest (changed change links connection) after) numbers)
    (and_from (option_map_or is_idle (link_at (changed change links connection) number) false) (not (drains after number))
    (ap (λ (found : Option Link). option_map_or is_idle found false) (changed_others change links connection number (differs_from connection number two.0)) ∙ both.0)
    (ap (λ (n : ℕ). not (nat_le number n)) drained ∙ both.1))
    (later_rest links pool after change connection numbers drained one.1 two.1)

pub waits_hold : (terms : Terms) (talk : Talk) (from now : ℕ) → (on_waiting terms talk from now).1.hold ≡ hold.GiveBack → ⊥
waits_hold terms talk from now is = by (nat_le terms.limits.wait (now - from)) is
  where
    by : (long : Bool) → (if long then fails talk false None (PoolWait from now) else (stands talk (Queued (Some from)), quiet)).1.hold ≡ hold.GiveBack → ⊥
    by true is = let none : ⊥ = cc in none
    by false is = let none : ⊥ = cc in none

pub fails_hold : (terms : Terms) (talk : Talk) (now : ℕ) → (on_try_failed terms talk now).1.hold ≡ hold.GiveBack → ⊥
fails_hold terms talk now is = by (nat_le terms.limits.retries (talk.tries + 1)) is
  where
    by : (many : Bool) → (if many then fails (with_tried talk now) false None (Retries (talk.tries + 1)) else (stands (with_tried talk now) (Seeking (lost_of talk.phase)), quiet)).1.hold ≡ hold.GiveBack → ⊥
    by true is = let none : ⊥ = cc in none
    by false is = let none : ⊥ = cc in none

-- where a call is left, the request goes on
pub lent_hold : (left alive hushed : Bool) (phase : Phase) (send : List Up) (held : Hold) → Spoken (Greeting None) left alive hushed phase send held → left ≡ true → held ≡ hold.GiveBack → ⊥
lent_hold left alive hushed phase _ _ (Quiet _ hush stays) calls is = let none : ⊥ = cc in none
lent_hold left alive hushed _ _ _ Fails calls is = let none : ⊥ = cc in none
lent_hold true alive hushed _ _ _ (Ends may) calls is = let none : ⊥ = cc in none
lent_hold false alive hushed _ _ _ (Ends may) calls is = let none : ⊥ = cc in none
lent_hold left alive hushed _ _ _ (Asks opens may asking) calls is = let none : ⊥ = cc in none
lent_hold left alive hushed _ _ _ (Calls opens settings one state) calls is = let none : ⊥ = cc in none
lent_hold left alive hushed _ _ _ (Marks opens may settings one state next plain) calls is = let none : ⊥ = cc in none

pub tried_rest : (m : Machine) (number : ℕ) (wanted : Wants) (pool : Slots) → Tries m number wanted pool → IsSameRest m.pool pool
tried_rest m number _ _ (FromQueue answer) = opening_rest m.pool number answer
tried_rest m number _ _ Again = record { idle = refl; drained = refl }

-- the frames that end a request on a connection that does not drain
end_alone : (owner : Owner) (call : ℕ) (pool : Slots) (number : ℕ) (send : List Up) (held : Hold) → send ≡ up.End ∷ [] → held ≡ hold.GiveBack → drains pool number ≡ false
    → map (sent_by owner call) (send ++ closing held (give_back_answer pool number)) ≡ sent_by owner call up.End ∷ []
end_alone owner call pool number send held ended gives rests =
    ap (λ (one : List Up). map (sent_by owner call) (one ++ closing held (give_back_answer pool number))) ended
    ∙ (ap (λ (one : Hold). map (sent_by owner call) ((up.End ∷ []) ++ closing one (give_back_answer pool number))) gives
    ∙ ap (λ (test : Bool). map (sent_by owner call) ((up.End ∷ []) ++ closing hold.GiveBack (if test then back.Closed else back.Idle))) rests)

module _ (setting : Setting) (m : Machine) (rest : all_rest m.links m.pool ≡ true) (apart : each_pair differ m.pool.idle ≡ true) (wired : list_all is_wired m.links ≡ true) (fresh : list_all is_fresh m.links ≡ true)
    (out : (number : ℕ) (doing : Doing) (connection : ℕ) (link : Link) → IsDoing setting m number doing wants.Frame → doing.connection ≡ Some connection → link_at m.links connection ≡ Some link → is_out link ≡ true)
    (busy : (number : ℕ) (doing : Doing) (connection : ℕ) (link : Link) → IsDoing setting m number doing wants.Frame → doing.connection ≡ Some connection → link_at m.links connection ≡ Some link
    → count_by (λ one. one == connection) m.pool.idle ≡ 0)
    (calls : (number : ℕ) (doing : Doing) → IsDoing setting m number doing wants.Slot → has_next doing.talk ≡ true) where
  silent_rest : (pool : Slots) (frames : List Sent) (number : ℕ) → frames ≡ [] → IsSameRest m.pool pool → all_rest (changed (sends m.event frames) m.links number) pool ≡ true
  silent_rest pool frames number none same =
      rest_same (changed (sends m.event frames) m.links number) m.pool pool same
      (rest_links m.links (changed (sends m.event frames) m.links number) m.pool (λ other some is. ap (λ (found : Option Link). option_map_or is_idle found false) (silent_at m.event frames m.links number other none) ∙ is) rest)

  lends_by : (number connection : ℕ) (change : Link → Link) (after : Slots) → IsLent m.pool after connection → all_rest (changed change m.links connection) after ≡ true
  lends_by number connection change after lent =
      let all : list_all (is_rest m.links m.pool) (connection ∷ lent.later) ≡ true = subst (λ (idle : List ℕ). list_all (is_rest m.links m.pool) idle ≡ true) lent.idle rest in
      let pairs : each_pair differ (connection ∷ lent.later) ≡ true = subst (λ (idle : List ℕ). each_pair differ idle ≡ true) lent.idle apart in
      subst (λ (idle : List ℕ). list_all (is_rest (changed change m.links connection) after) idle ≡ true) (sym lent.left)
      (later_rest m.links m.pool after change connection lent.later lent.drained (and_parts (is_rest m.links m.pool connection) (list_all (is_rest m.links m.pool) lent.later) all).1
      (and_parts (all_with (differ connection) lent.later) (each_pair differ lent.later) pairs).0)

  opens_by : (change : Link → Link) (pool : Slots) → IsSameRest m.pool pool → all_rest (changed change (m.links ++ new_link ∷ []) (next_number m)) pool ≡ true
  opens_by change pool same =
      let later : List Link = changed change (m.links ++ new_link ∷ []) (next_number m) in
      rest_same later m.pool pool same (rest_links m.links later m.pool (λ number some is. by number (link_at m.links number) refl is) rest)
    where
      by : (number : ℕ) (found : Option Link) → link_at m.links number ≡ found → option_map_or is_idle found false ≡ true → option_map_or is_idle (link_at (changed change (m.links ++ new_link ∷ []) (next_number m)) number) false ≡ true
      by number None at is = absurd (let none : ⊥ = cc in none)
      by number (Some link) at is = ap (λ (found : Option Link). option_map_or is_idle found false) (new_others change m.links number link at) ∙ is

  module _ (who connection : ℕ) (doing : Doing) (link : Link) (reply : Reply) (left : List Reply) (is : IsDoing setting m who doing wants.Frame) (has : doing.connection ≡ Some connection)
      (there : link_at m.links connection ≡ Some link) (down : link.down ≡ reply ∷ left) where
    abbrev step_now : Step
    step_now = taken_by setting.terms doing.talk doing.talk.phase reply.frame link.is_open m.tick

    abbrev taken : Link
    taken = takes (Took reply.frame link.is_open) reply left link

    abbrev frames_at : ℕ → List Sent
    frames_at number = spoken_by (owner_at m who) m.pool number step_now

    abbrev links_at : ℕ → List Link
    links_at number = changed (sends m.event (frames_at number)) (with_link m.links connection taken) number

    links_rest : all_rest (links_at connection) m.pool ≡ true
    links_rest =
        rest_links m.links (links_at connection) m.pool
        (λ number some is_idle_now.
        let apart_is : number ≢ connection = λ same.
        let none : count_by (λ (one : ℕ). one == connection) m.pool.idle ≡ 0 = busy who doing connection link is has there in
        let some_is : 1 ≤ count_by (λ (one : ℕ). one == connection) m.pool.idle = subst (λ (n : ℕ). 1 ≤ count_by (λ (one : ℕ). one == n) m.pool.idle) same some in
        let never : ⊥ = omega arith in never in
        ap (λ (found : Option Link). option_map_or is_idle found false)
        (changed_others (sends m.event (frames_at connection)) (with_link m.links connection taken) connection number apart_is ∙ with_others m.links connection number taken apart_is) ∙ is_idle_now) rest

    given_idle : step_now.1.hold ≡ hold.GiveBack → drains m.pool connection ≡ false → option_map_or is_idle (link_at (links_at connection) connection) false ≡ true
    given_idle gives rests =
        let ended = ended_by doing.talk.phase (has_next doing.talk) link.is_open (is_hushed reply.frame) step_now.0.phase step_now.1.send step_now.1.hold (said setting.terms doing.talk doing.talk.phase reply.frame link.is_open m.tick refl) gives in
        let alone = end_alone (owner_at m who) (call_in step_now.0.phase) m.pool connection step_now.1.send step_now.1.hold ended.1 gives rests in
        let is_out_now : is_out link ≡ true = out who doing connection link is has there in
        let held : is_some taken.held ≡ true = taken_held link reply left link.held refl (at_link is_wired m.links connection link wired there) (at_link is_fresh m.links connection link fresh there) is_out_now down in
        let idle_now : is_idle (sends m.event (frames_at connection) taken) ≡ true =
        ap (λ (frames : List Sent). is_idle (sends m.event frames taken)) alone ∙ ended_idle m.event (owner_at m who) (call_in step_now.0.phase) taken ended.0 held (taken_none link reply is_out_now) in
        ap (λ (found : Option Link). option_map_or is_idle found false) (changed_own (sends m.event (frames_at connection)) (with_link m.links connection taken) connection taken (with_own m.links connection link taken there)) ∙ idle_now

    takes_at : (held : Hold) → step_now.1.hold ≡ held → all_rest (links_at connection) (released m.pool who connection true held) ≡ true
    takes_at hold.Keep is_held = rest_same (links_at connection) m.pool m.pool (record { idle = refl; drained = refl }) links_rest
    takes_at hold.GiveBack is_held = given_rest (links_at connection) m.pool who connection true links_rest (given_idle is_held)
    takes_at hold.Drop is_held = rest_same (links_at connection) m.pool (released m.pool who connection true hold.Drop) (record { idle = refl; drained = refl }) links_rest

    takes_rest : (number : ℕ) → number ≡ connection → all_rest (links_at number) (released m.pool who number true step_now.1.hold) ≡ true
    takes_rest number same = subst (λ (n : ℕ). all_rest (links_at n) (released m.pool who n true step_now.1.hold) ≡ true) (sym same) (takes_at step_now.1.hold refl)

  unless_rest : (a : Machine) (who : ℕ) (ended : Option ℕ) (doing : Option Doing) (alive : Bool) → all_rest a.links a.pool ≡ true
      → all_rest (if alive then a else lost_at_once setting a who ended doing).links (if alive then a else lost_at_once setting a who ended doing).pool ≡ true
  unless_rest a who ended doing true kept = kept
  unless_rest a who ended None false kept = kept
  unless_rest a who ended (Some doing) false kept = kept

  goes_rest : (number : ℕ) (n : Machine) → Goes setting m number n → all_rest n.links n.pool ≡ true
  goes_rest number _ Rests = rest
  goes_rest number _ (Waits doing is answer) =
      let step : Step = on_waiting setting.terms doing.talk (waits_from doing.talk.phase m.tick) m.tick in
      silent_rest (released (after_take m.pool number) number (connection_of doing) false step.1.hold) (spoken_by (owner_at m number) (after_take m.pool number) (connection_of doing) step) (connection_of doing)
      (ap (map (sent_by (owner_at m number) (call_in step.0.phase))) (waiting_silent setting.terms doing.talk (waits_from doing.talk.phase m.tick) m.tick (after_take m.pool number) (connection_of doing)))
      (then_rest m.pool (after_take m.pool number) (released (after_take m.pool number) number (connection_of doing) false step.1.hold) (waiting_rest m.pool number answer)
      (released_rest (after_take m.pool number) number (connection_of doing) false step.1.hold (waits_hold setting.terms doing.talk (waits_from doing.talk.phase m.tick) m.tick)))
  goes_rest number _ (Lends doing connection link ltxid is answer there held) =
      let step : Step = on_hello setting.terms doing.talk None ltxid true m.tick in
      let change : Link → Link = sends m.event (spoken_by (owner_at m number) (after_take m.pool number) connection step) in
      rest_same (changed change m.links connection) (after_take m.pool number) (released (after_take m.pool number) number connection true step.1.hold)
      (released_rest (after_take m.pool number) number connection true step.1.hold
      (lent_hold (has_next doing.talk) true false step.0.phase step.1.send step.1.hold (said_lent setting.terms doing.talk ltxid m.tick) (calls number doing is)))
      (lends_by number connection change (after_take m.pool number) (lent_rest m.pool number connection answer))
  goes_rest number _ (Opens doing wanted pool is tries runs) =
      let same = tried_rest m number wanted pool tries in
      opens_by (sends m.event (sent_by (owner_at m number) 0 up.Connect ∷ [])) (after_opened pool (next_number m)) (record { idle = same.idle; drained = same.drained })
  goes_rest number _ (Fails doing wanted pool is tries down) =
      let step : Step = on_try_failed setting.terms doing.talk m.tick in
      silent_rest (released pool number (connection_of doing) true step.1.hold) (spoken_by (owner_at m number) pool (connection_of doing) step) (connection_of doing)
      (ap (map (sent_by (owner_at m number) (call_in step.0.phase))) (failed_silent setting.terms doing.talk m.tick pool (connection_of doing)))
      (then_rest m.pool pool (released pool number (connection_of doing) true step.1.hold) (tried_rest m number wanted pool tries)
      (released_rest pool number (connection_of doing) true step.1.hold (fails_hold setting.terms doing.talk m.tick)))
  goes_rest number _ (Takes doing connection link reply left is on down) =
      let a : Machine = takes_one setting m number doing connection link reply left in
      unless_rest a number link.ended (doing_at a.clients number) link.is_open
      (takes_rest number connection doing link reply left is on.has on.there down (connection_of doing) (ap (λ (one : Option ℕ). unwrap_or one 0) on.has))
  goes_rest number _ (Loses doing connection link is on none closed) = rest

  -- EVENTS ----------------------------------------------------------------------------------------

  open_all : (links : List Link) (pool : Slots) → all_rest links pool ≡ true → list_all (λ number. option_map_or (λ link. link.is_open) (link_at links number) false) pool.idle ≡ true
  open_all links pool all =
      weaker_all (is_rest links pool) (λ number. option_map_or (λ link. link.is_open) (link_at links number) false) pool.idle
      (λ number is. by (link_at links number) (and_parts (option_map_or is_idle (link_at links number) false) (not (drains pool number)) is).0) all
    where
      by : (found : Option Link) → option_map_or is_idle found false ≡ true → option_map_or (λ link. link.is_open) found false ≡ true
      by None is = is
      by (Some link) is = (and_parts link.is_open _ is).0

  last_rest : (number after : ℕ) (items left : List Served) (a : Machine) → ServesLast m number after items left a → all_rest a.links a.pool ≡ true
  last_rest number after items left _ (LastNone same) = rest
  last_rest number after items left _ (LastStopped front served is stopped same) = with_rest m.links number front.link (after_front front served None) m.pool (front_is m.links number front is).there refl rest
  last_rest number after items left _ (LastServed front served is over same) = served_rest m.event m.links number front served m.pool (front_is m.links number front is).there rest

  reaps_rest : (number : ℕ) (found : Option Link) → link_at m.links number ≡ found → all_rest (option_map_or (λ link. with_link m.links number (reaped_link link)) found m.links) m.pool ≡ true
  reaps_rest number None at = rest
  reaps_rest number (Some link) at = with_rest m.links number link (reaped_link link) m.pool at refl rest

  pub happens_rest : (items left : List Served) (happened : Noted) (n : Machine) → Happens setting m items left happened n → all_rest n.links n.pool ≡ true
  happens_rest items left happened _ (Nothing kind other) = rest
  happens_rest items left happened n (IsStep number did _ moves) = goes_rest number n moves
  happens_rest items left happened _ (Serves number frame front served is ordinary same) = served_rest m.event m.links number front served m.pool (front_is m.links number front is).there rest
  happens_rest items left happened _ (Cuts number up down reached link is) = gone_one m.links number (cut_link m.event up down link) m.pool rest
  happens_rest items left happened _ (Reaps number reaped orphan) = reaps_rest number (link_at m.links number) refl
  happens_rest items left happened n (Crashes number after failover down a runs last) =
      none_idle a.links a.pool (is_rest n.links n.pool) (open_all a.links a.pool (last_rest number after items left a last))
  happens_rest items left happened _ (OpensUp incarnation down may) = rest
  happens_rest items left happened _ (StopsOpening made down) = rest
  happens_rest items left happened _ Ticks = rest
  happens_rest items left happened _ (RunsOutside ran runs) = rest
  happens_rest items left happened _ (Asks ltxid result runs) = rest
  happens_rest items left happened _ (Drains closed) = refl
