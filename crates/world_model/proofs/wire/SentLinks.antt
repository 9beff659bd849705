-- A test over all connections is kept in an event if it is kept by what a client says on its
-- connection, by a drain, and by all that may happen otherwise.
use Rattle.std.proofs.Common.{◌≡◌, ◌≢◌, refl, sym, ap, subst, ◌∙◌, Bool, true, false, ℕ, suc, zero, ◌+◌, ◌-◌, ◌&&◌, length, List, [], ◌∷◌, ◌++◌, map, fold, append-nil, Option, Some, None, if◌then◌else◌, add-one}
use Rattle.std.specs.Prelude.{◌==◌, not, nat_le, unwrap_or, option_map, slice_get, slice_set}
use Rattle.std.specs.List.{list_all, last_or}
use Rattle.std.specs.Option.{option_or, option_map_or}
use Rattle.std.proofs.lemmas.Bool.{and_parts, and_from}
use Rattle.svc_values.specs.declared.entry.Ltxid.{Ltxid}
use Rattle.svc_values.specs.declared.frame.Up.TheVariants as up
use Rattle.pool_core.specs.declared.answers.Take.TheVariants as take
use Rattle.pool_core.specs.meaning.Slots.{Slots, has_to_wait, lends, take_answer, after_take}
use Rattle.client_model.specs.declared.input.Input.TheVariants.{Took}
use Rattle.client_model.specs.declared.input.Wants.{Wants}
use Rattle.client_model.specs.declared.input.Wants.TheVariants as wants
use Rattle.client_model.specs.declared.act.Failed.TheVariants.{Retries, PoolWait}
use Rattle.client_model.specs.meaning.Terms.{Terms, Talk, Phase, Idle, Unbegun, Queued, Seeking}
use Rattle.request_bounds.specs.meaning.Limits.{has_waited}
use Rattle.client_model.specs.meaning.Talk.{Step, quiet, fails, stands, on_hello, on_waiting, waits_from, with_tried, lost_of, on_try_failed, wants_in, wants_of, takes as taken_by}
use Rattle.outage_schedule.specs.declared.document.Request.{Request}
use Rattle.outage_schedule.specs.declared.item.Served.{Served}
use Rattle.world_model.specs.meaning.Settings.{Setting}
use Rattle.world_model.specs.meaning.Frames.{Owner, Sent, Reply}
use Rattle.world_model.specs.meaning.Links.{Link, new_link, link_at, with_link, changed, sends, takes}
use Rattle.world_model.specs.meaning.Clients.{Client, Doing, client_at, doing_at, begun}
use Rattle.world_model.specs.meaning.Acting.{sent_by, owner_at, call_in, frames_of, connection_of}
use Rattle.world_model.specs.meaning.Machines.{Machine}
use Rattle.world_model.specs.meaning.Matching.{Noted}
use Rattle.world_model.specs.meaning.Going.{lost_at_once}
use Rattle.world_model.specs.meaning.Outside.{closed_by_drain, drained}
use Rattle.world_model.specs.records.Hold.{is_idle, is_awaited}
use Rattle.world_model.specs.records.Ready.{is_waiting, is_ready}
use Rattle.world_model.specs.Parts.{is_out, is_answered}
use Rattle.world_model.specs.Sames.{owned_by, all_with, each_pair}
use Rattle.world_model.proofs.script.Recalling.{get_last}
use Rattle.world_model.proofs.events.Tests.{eq_to}
use Rattle.world_model.proofs.events.AllLists.{append_all, one_all}
use Rattle.world_model.proofs.events.AllLinks.{at_link, with_link_all, changed_all, KeepsServed, happens_keep}
use Rattle.world_model.proofs.events.Others.{changed_others}
use Rattle.world_model.proofs.events.Moves.{IsDoing, Goes, Rests, Waits, Lends, Opens, Fails, Takes, Loses, takes_one, Happens}

-- WHAT IS SAID ------------------------------------------------------------------------------------

-- the frames of a step, as they are sent
abbrev pub spoken_by : Owner → Slots → ℕ → Step → List Sent
spoken_by owner pool connection step = map (sent_by owner (call_in step.0.phase)) (frames_of pool connection step.1)

-- what the request waits for on its connection is out, and was sent last
abbrev pub awaits : Owner → Phase → Link → Bool
awaits owner phase link = is_out link && option_map_or (λ sent. is_answered sent.frame && (owned_by owner sent && is_awaited phase sent)) (last_or None link.sent) false

-- the request sent nothing on it
abbrev pub is_strange : Owner → Link → Bool
is_strange owner link = list_all (λ sent. not (owned_by owner sent)) link.sent

-- All that may happen to a connection keeps the test. `before` holds of all connections when the
-- event begins.
pub record KeepsSent (setting : Setting) (m : Machine) (before test : Link → Bool) : Type 0 where
  pub at_opens : (owner : Owner) → m.server.is_up ≡ true → test (sends m.event (sent_by owner 0 up.Connect ∷ []) new_link) ≡ true
  pub at_lends : (owner : Owner) (doing : Doing) (ltxid : Ltxid) (pool : Slots) (number : ℕ) (link : Link) → is_ready setting.terms doing ≡ true → is_waiting doing.talk.phase ≡ true → is_strange owner link ≡ true → is_idle link ≡ true
      → before link ≡ true → test link ≡ true → test (sends m.event (spoken_by owner pool number (on_hello setting.terms doing.talk None ltxid true m.tick)) link) ≡ true
  pub at_takes : (owner : Owner) (doing : Doing) (pool : Slots) (number : ℕ) (link : Link) (reply : Reply) (left : List Reply) → is_ready setting.terms doing ≡ true → awaits owner doing.talk.phase link ≡ true → link.down ≡ reply ∷ left
      → before link ≡ true → test link ≡ true
      → test (sends m.event (spoken_by owner pool number (taken_by setting.terms doing.talk doing.talk.phase reply.frame link.is_open m.tick)) (takes (Took reply.frame link.is_open) reply left link)) ≡ true
  pub at_drains : (link : Link) → is_idle link ≡ true → before link ≡ true → test link ≡ true → test (sends m.event (closed_by_drain ∷ []) link) ≡ true
  pub served : KeepsServed m before test

-- WHAT IS KNOWN -----------------------------------------------------------------------------------

abbrev pub differ : ℕ → ℕ → Bool
differ a b = not (a == b)

-- Idle connections are idle, each once, and on that of a request is out what it waits for. Each
-- request is ready, and one without a slot sent nothing.
pub record IsHeld (setting : Setting) (m : Machine) : Type 0 where
  pub idle : list_all (λ number. option_map_or is_idle (link_at m.links number) false) m.pool.idle ≡ true
  pub apart : each_pair differ m.pool.idle ≡ true
  pub out : (number : ℕ) (client : Client) (doing : Doing) (connection : ℕ) (link : Link) → client_at m.clients number ≡ Some client → client.now ≡ Some doing → doing.connection ≡ Some connection
      → link_at m.links connection ≡ Some link → awaits (record { client = number; place = length client.past }) doing.talk.phase link ≡ true
  pub ready : (number : ℕ) (doing : Doing) (wanted : Wants) → IsDoing setting m number doing wanted → is_ready setting.terms doing ≡ true
  pub strange : (number : ℕ) (doing : Doing) (connection : ℕ) (link : Link) → IsDoing setting m number doing wants.Slot → link_at m.links connection ≡ Some link → is_strange (owner_at m number) link ≡ true

-- LISTS -------------------------------------------------------------------------------------------

-- without frames nothing is changed
pub sends_none : (event : ℕ) (link : Link) → sends event [] link ≡ link
sends_none event link = λ i. record link { sent = append-nil link.sent i; up = append-nil link.up i }

pub silent_all : (test : Link → Bool) (event : ℕ) (frames : List Sent) (links : List Link) (number : ℕ) → frames ≡ [] → list_all test links ≡ true → list_all test (changed (sends event frames) links number) ≡ true
silent_all test event frames links number none all =
    changed_all test (sends event frames) links number all
    (λ link is here. subst (λ (one : Link). test one ≡ true) (sym (ap (λ (sent : List Sent). sends event sent link) none ∙ sends_none event link)) here)

last_set : {A : Type 0} (xs : List A) (x y : A) → slice_set (xs ++ x ∷ []) (length xs) y ≡ xs ++ y ∷ []
last_set [] x y = refl
last_set (z ∷ xs) x y = ap (λ rest. z ∷ rest) (last_set xs x y)

-- the connection that was opened last is changed
new_all : (test : Link → Bool) (change : Link → Link) (links : List Link) (link : Link) → list_all test links ≡ true → test (change link) ≡ true
    → list_all test (changed change (links ++ link ∷ []) (length links + 1)) ≡ true
new_all test change links link all here =
    subst (λ (number : ℕ). list_all test (changed change (links ++ link ∷ []) number) ≡ true) (sym (add-one (length links)))
    (subst (λ (found : Option Link). list_all test (option_map_or (λ one. with_link (links ++ link ∷ []) (suc (length links)) (change one)) found (links ++ link ∷ [])) ≡ true) (sym (get_last links link))
    (subst (λ (now : List Link). list_all test now ≡ true) (sym (last_set links link (change link))) (append_all test links (change link ∷ []) all (one_all test (change link) here))))

pub set_at : {A : Type 0} (links : List A) (index : ℕ) (old new : A) → slice_get links index ≡ Some old → slice_get (slice_set links index new) index ≡ Some new
set_at [] index old new is = absurd (let none : ⊥ = cc in none)
set_at (first ∷ links) zero old new is = refl
set_at (first ∷ links) (suc index) old new is = set_at links index old new is

pub set_twice : {A : Type 0} (links : List A) (index : ℕ) (one other : A) → slice_set (slice_set links index one) index other ≡ slice_set links index other
set_twice [] index one other = refl
set_twice (first ∷ links) zero one other = refl
set_twice (first ∷ links) (suc index) one other = ap (λ rest. first ∷ rest) (set_twice links index one other)

-- a connection is set, and changed then
set_all_changed : (test : Link → Bool) (change : Link → Link) (links : List Link) (number : ℕ) (old new : Link) → link_at links number ≡ Some old → list_all test links ≡ true → test (change new) ≡ true
    → list_all test (changed change (with_link links number new) number) ≡ true
set_all_changed test change links zero old new is all here = absurd (let none : ⊥ = cc in none)
set_all_changed test change links (suc index) old new is all here =
    subst (λ (found : Option Link). list_all test (option_map_or (λ one. with_link (slice_set links index new) (suc index) (change one)) found (slice_set links index new)) ≡ true) (sym (set_at links index old new is))
    (subst (λ (now : List Link). list_all test now ≡ true) (sym (set_twice links index new (change new))) (with_link_all test links (suc index) (change new) all here))

-- IDLE CONNECTIONS --------------------------------------------------------------------------------

-- the connection of this number is there, and passes
abbrev pub passes_at : (Link → Bool) → List Link → ℕ → Bool
passes_at test links number = option_map_or test (link_at links number) false

found_passes : (test : Link → Bool) (found : Option Link) (link : Link) → option_map_or test found false ≡ true → found ≡ Some link → test link ≡ true
found_passes test None link passes is = absurd (let none : ⊥ = cc in none)
found_passes test (Some one) link passes is = let same : one ≡ link = cc in subst (λ (l : Link). test l ≡ true) same passes

-- what holds of all connections holds of these
both_found : (test other : Link → Bool) (links : List Link) (number : ℕ) (found : Option Link) → link_at links number ≡ found → option_map_or test found false ≡ true → list_all other links ≡ true
    → option_map_or (λ link. test link && other link) found false ≡ true
both_found test other links number None is passes all = absurd (let none : ⊥ = cc in none)
both_found test other links number (Some link) is passes all = and_from (test link) (other link) passes (at_link other links number link all is)

both_at : (test other : Link → Bool) (links : List Link) (numbers : List ℕ) → list_all (passes_at test links) numbers ≡ true → list_all other links ≡ true
    → list_all (passes_at (λ link. test link && other link) links) numbers ≡ true
both_at test other links [] passes all = refl
both_at test other links (number ∷ numbers) passes all =
    let parts = and_parts (passes_at test links number) (list_all (passes_at test links) numbers) passes in
    and_from (passes_at (λ link. test link && other link) links number) (list_all (passes_at (λ link. test link && other link) links) numbers)
    (both_found test other links number (link_at links number) refl parts.0 all) (both_at test other links numbers parts.1 all)

pub differs_from : (a b : ℕ) → differ a b ≡ true → b ≢ a
differs_from a b is same = by (a == b) is (eq_to a b (sym same))
  where
    by : (test : Bool) → not test ≡ true → test ≡ true → ⊥
    by true is here = let none : ⊥ = cc in none
    by false is here = let none : ⊥ = cc in none

-- those of other numbers pass still where one is changed
pub still_pass : (test : Link → Bool) (change : Link → Link) (links : List Link) (number : ℕ) (numbers : List ℕ) → all_with (differ number) numbers ≡ true → list_all (passes_at test links) numbers ≡ true
    → list_all (passes_at test (changed change links number)) numbers ≡ true
still_pass test change links number [] apart all = refl
still_pass test change links number (other ∷ numbers) apart all =
    let one = and_parts (differ number other) (all_with (differ number) numbers) apart in
    let two = and_parts (passes_at test links other) (list_all (passes_at test links) numbers) all in
    let same : link_at (changed change links number) other ≡ link_at links other = changed_others change links number other (differs_from number other one.0) in
    and_from (passes_at test (changed change links number) other) (list_all (passes_at test (changed change links number)) numbers)
    (subst (λ (found : Option Link). option_map_or test found false ≡ true) (sym same) two.0) (still_pass test change links number numbers one.1 two.1)

-- where each of these is changed once
pub once_all : (known test : Link → Bool) (change : Link → Link) (links : List Link) (numbers : List ℕ) → each_pair differ numbers ≡ true → list_all (passes_at known links) numbers ≡ true
    → ((link : Link) → known link ≡ true → test link ≡ true → test (change link) ≡ true) → list_all test links ≡ true → list_all test (fold (changed change) links numbers) ≡ true
once_all known test change links [] apart are keeps all = all
once_all known test change links (number ∷ numbers) apart are keeps all =
    let one = and_parts (all_with (differ number) numbers) (each_pair differ numbers) apart in
    let two = and_parts (passes_at known links number) (list_all (passes_at known links) numbers) are in
    once_all known test change (changed change links number) numbers one.1 (still_pass known change links number numbers one.0 two.1) keeps
    (changed_all test change links number all (λ link is here. keeps link (found_passes known (link_at links number) link two.0 is) here))

-- the connection that is lent is the first that is idle
first_lent : (test : Link → Bool) (idle : List ℕ) (connection : ℕ) (links : List Link) → lends idle ≡ take.Lent connection → list_all (passes_at test links) idle ≡ true → passes_at test links connection ≡ true
first_lent test [] connection links answer all = absurd (let none : ⊥ = cc in none)
first_lent test (first ∷ later) connection links answer all =
    let same : first ≡ connection = cc in subst (λ (number : ℕ). passes_at test links number ≡ true) same (and_parts (passes_at test links first) (list_all (passes_at test links) later) all).0

lent_by : (test : Link → Bool) (waits : Bool) (idle : List ℕ) (connection : ℕ) (links : List Link) → (if waits then take.Waiting else lends idle) ≡ take.Lent connection → list_all (passes_at test links) idle ≡ true
    → passes_at test links connection ≡ true
lent_by test true idle connection links answer all = absurd (let none : ⊥ = cc in none)
lent_by test false idle connection links answer all = first_lent test idle connection links answer all

pub lent_idle : (pool : Slots) (number connection : ℕ) (links : List Link) (link : Link) → take_answer pool number ≡ take.Lent connection → list_all (passes_at is_idle links) pool.idle ≡ true
    → link_at links connection ≡ Some link → is_idle link ≡ true
lent_idle pool number connection links link answer all is =
    found_passes is_idle (link_at links connection) link (lent_by is_idle (has_to_wait pool number) pool.idle connection links answer all) is

-- STEPS -------------------------------------------------------------------------------------------

-- a request that waits, or whose try failed, sends nothing
pub waiting_silent : (terms : Terms) (talk : Talk) (from now : ℕ) (pool : Slots) (connection : ℕ) → frames_of pool connection (on_waiting terms talk from now).1 ≡ []
waiting_silent terms talk from now pool connection = by (nat_le terms.limits.wait (now - from))
  where
    by : (long : Bool) → frames_of pool connection (if long then fails talk false None (PoolWait from now) else (stands talk (Queued (Some from)), quiet)).1 ≡ []
    by true = refl
    by false = refl

pub failed_silent : (terms : Terms) (talk : Talk) (now : ℕ) (pool : Slots) (connection : ℕ) → frames_of pool connection (on_try_failed terms talk now).1 ≡ []
failed_silent terms talk now pool connection = by (nat_le terms.limits.retries (talk.tries + 1))
  where
    by : (many : Bool) → frames_of pool connection (if many then fails (with_tried talk now) false None (Retries (talk.tries + 1)) else (stands (with_tried talk now) (Seeking (lost_of talk.phase)), quiet)).1 ≡ []
    by true = refl
    by false = refl

-- one that wants a slot waits for it
pub slot_waits : (terms : Terms) (talk : Talk) (phase : Phase) (now : ℕ) → wants_in terms talk phase now ≡ wants.Slot → is_waiting phase ≡ true
slot_waits terms talk (Queued from) now is = refl
slot_waits terms talk (Seeking lost) now is = by (has_waited talk.last_try now terms.limits.delay) is
  where
    by : (waited : Bool) → (if waited then wants.Try else wants.Early) ≡ wants.Slot → false ≡ true
    by true is = absurd (let none : ⊥ = cc in none)
    by false is = absurd (let none : ⊥ = cc in none)
slot_waits terms talk Idle now is = absurd (let none : ⊥ = cc in none)
slot_waits terms talk Unbegun now is = refl
slot_waits terms talk phase now is = absurd (let none : ⊥ = cc in none)

module _ (setting : Setting) (m : Machine) (before test : Link → Bool) (keeps : KeepsSent setting m before test) (known : IsHeld setting m) (old : list_all before m.links ≡ true) (all : list_all test m.links ≡ true) where
  unless_kept : (a : Machine) (number : ℕ) (ended : Option ℕ) (doing : Option Doing) (is_open : Bool) → list_all test a.links ≡ true → list_all test (if is_open then a else lost_at_once setting a number ended doing).links ≡ true
  unless_kept a number ended doing true kept = kept
  unless_kept a number ended None false kept = kept
  unless_kept a number ended (Some doing) false kept = kept

  lends_keep : (number connection : ℕ) (doing : Doing) (link : Link) (ltxid : Ltxid) (pool : Slots) → IsDoing setting m number doing wants.Slot → take_answer m.pool number ≡ take.Lent connection → link_at m.links connection ≡ Some link
      → list_all test (changed (sends m.event (spoken_by (owner_at m number) pool connection (on_hello setting.terms doing.talk None ltxid true m.tick))) m.links connection) ≡ true
  lends_keep number connection doing link ltxid pool is_doing answer there =
      let said : List Sent = spoken_by (owner_at m number) pool connection (on_hello setting.terms doing.talk None ltxid true m.tick) in
      changed_all test (sends m.event said) m.links connection all
      (λ one is here. keeps.at_lends (owner_at m number) doing ltxid pool connection one (known.ready number doing wants.Slot is_doing) (slot_waits setting.terms doing.talk doing.talk.phase m.tick is_doing.wants)
      (known.strange number doing connection one is_doing is) (lent_idle m.pool number connection m.links one answer known.idle is) (at_link before m.links connection one old is) here)

  takes_keep : (number connection at : ℕ) (doing : Doing) (link : Link) (reply : Reply) (left : List Reply) → is_ready setting.terms doing ≡ true → at ≡ connection → link_at m.links connection ≡ Some link → awaits (owner_at m number) doing.talk.phase link ≡ true
      → link.down ≡ reply ∷ left
      → list_all test (changed (sends m.event (spoken_by (owner_at m number) m.pool at (taken_by setting.terms doing.talk doing.talk.phase reply.frame link.is_open m.tick)))
      (with_link m.links connection (takes (Took reply.frame link.is_open) reply left link)) at) ≡ true
  takes_keep number connection at doing link reply left ready same there out down =
      subst (λ (one : ℕ). list_all test (changed (sends m.event (spoken_by (owner_at m number) m.pool one (taken_by setting.terms doing.talk doing.talk.phase reply.frame link.is_open m.tick)))
      (with_link m.links connection (takes (Took reply.frame link.is_open) reply left link)) one) ≡ true) (sym same)
      (set_all_changed test (sends m.event (spoken_by (owner_at m number) m.pool connection (taken_by setting.terms doing.talk doing.talk.phase reply.frame link.is_open m.tick))) m.links connection link
      (takes (Took reply.frame link.is_open) reply left link) there all
      (keeps.at_takes (owner_at m number) doing m.pool connection link reply left ready out down (at_link before m.links connection link old there) (at_link test m.links connection link all there)))

  -- a request that awaits a frame is in course already
  out_by : (number connection : ℕ) (client : Client) (doing : Doing) (link : Link) (now : Option Doing) (next : Option Request) → client_at m.clients number ≡ Some client → client.now ≡ now
      → option_or now (option_map (begun setting.terms m.event m.tick) next) ≡ Some doing → wants_of setting.terms doing.talk m.tick ≡ wants.Frame → doing.connection ≡ Some connection → link_at m.links connection ≡ Some link
      → awaits (record { client = number; place = length client.past }) doing.talk.phase link ≡ true
  out_by number connection client doing link (Some one) next here now does wanted has there =
      let same : one ≡ doing = cc in known.out number client doing connection link here (now ∙ ap Some same) has there
  out_by number connection client doing link None (Some request) here now does wanted has there =
      let same : begun setting.terms m.event m.tick request ≡ doing = cc in
      absurd (let wants : wants.Slot ≡ wants.Frame = ap (λ (one : Doing). wants_of setting.terms one.talk m.tick) same ∙ wanted in let none : ⊥ = cc in none)
  out_by number connection client doing link None None here now does wanted has there = absurd (let none : ⊥ = cc in none)

  owner_is : (number : ℕ) (client : Client) → client_at m.clients number ≡ Some client → owner_at m number ≡ record { client = number; place = length client.past }
  owner_is number client here = ap (λ (found : Option Client). record { client = number; place = option_map_or (λ (one : Client). length one.past) found 0 }) here

  out_is : (number connection : ℕ) (doing : Doing) (link : Link) → IsDoing setting m number doing wants.Frame → doing.connection ≡ Some connection → link_at m.links connection ≡ Some link
      → awaits (owner_at m number) doing.talk.phase link ≡ true
  out_is number connection doing link is has there =
      subst (λ (owner : Owner). awaits owner doing.talk.phase link ≡ true) (sym (owner_is number is.client is.here))
      (out_by number connection is.client doing link is.client.now is.client.next is.here refl is.does is.wants has there)

  said_keeps : (number : ℕ) (a : Machine) → Goes setting m number a → list_all test a.links ≡ true
  said_keeps number _ Rests = all
  said_keeps number _ (Waits doing is_doing answer) =
      silent_all test m.event _ m.links (connection_of doing) (ap (map (sent_by (owner_at m number) _)) (waiting_silent setting.terms doing.talk (waits_from doing.talk.phase m.tick) m.tick (after_take m.pool number) (connection_of doing))) all
  said_keeps number _ (Lends doing connection link ltxid is_doing answer there held) = lends_keep number connection doing link ltxid (after_take m.pool number) is_doing answer there
  said_keeps number _ (Opens doing wanted pool is_doing tries runs) =
      new_all test (sends m.event (sent_by (owner_at m number) 0 up.Connect ∷ [])) m.links new_link all (keeps.at_opens (owner_at m number) runs)
  said_keeps number _ (Fails doing wanted pool is_doing tries down) =
      silent_all test m.event _ m.links (connection_of doing) (ap (map (sent_by (owner_at m number) _)) (failed_silent setting.terms doing.talk m.tick pool (connection_of doing))) all
  said_keeps number _ (Takes doing connection link reply left is_doing on down) =
      let a : Machine = takes_one setting m number doing connection link reply left in
      unless_kept a number link.ended (doing_at a.clients number) link.is_open
      (takes_keep number connection (connection_of doing) doing link reply left (known.ready number doing wants.Frame is_doing) (ap (λ (one : Option ℕ). unwrap_or one 0) on.has) on.there (out_is number connection doing link is_doing on.has on.there) down)
  said_keeps number _ (Loses doing connection link is_doing on none closed) = all

  drains_keep : list_all test (drained m).links ≡ true
  drains_keep =
      once_all (λ link. is_idle link && before link) test (sends m.event (closed_by_drain ∷ [])) m.links m.pool.idle known.apart (both_at is_idle before m.links m.pool.idle known.idle old)
      (λ link idle here. let parts = and_parts (is_idle link) (before link) idle in keeps.at_drains link parts.0 parts.1 here) all

  -- the test holds of all connections after the event
  pub sent_keep : (items left : List Served) (happened : Noted) (n : Machine) → Happens setting m items left happened n → list_all test n.links ≡ true
  sent_keep items left happened n happens = happens_keep setting m before test keeps.served items left happened n happens said_keeps drains_keep old all
