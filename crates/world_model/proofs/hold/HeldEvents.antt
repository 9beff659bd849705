-- On the connection of each request is out what it waits for, event by event.
use Rattle.std.proofs.Common.{◌≡◌, ◌≢◌, refl, sym, ap, subst, ◌∙◌, Bool, true, false, ℕ, ◌+◌, ◌≤◌, ◌&&◌, cond, length, List, [], ◌∷◌, ◌++◌, count_by, Option, Some, None, if◌then◌else◌, arith, add-one}
use Rattle.std.specs.Prelude.{◌==◌, option_map, option_and_then, unwrap_or, is_some}
use Rattle.std.specs.List.{list_all, last_or}
use Rattle.std.specs.Option.{option_or, option_map_or}
use Rattle.std.proofs.lemmas.Bool.{and_parts}
use Rattle.std.proofs.lemmas.List.Sums.{sum_by-cons}
use Rattle.svc_values.specs.declared.entry.Ltxid.{Ltxid}
use Rattle.svc_values.specs.declared.frame.Up.TheVariants as up
use Rattle.svc_values.specs.meaning.Same.{same_bool}
use Rattle.svc_values.specs.SameLaws.{same_ltxid_decides}
use Rattle.pool_core.specs.declared.answers.Take.TheVariants as take
use Rattle.pool_core.specs.meaning.Slots.{Slots, has_to_wait, lends, take_answer}
use Rattle.client_model.specs.declared.act.Hold.{Hold}
use Rattle.client_model.specs.declared.act.Hold.TheVariants as hold
use Rattle.client_model.specs.declared.input.Input.TheVariants.{Waiting, Lent, Opened, TryFailed, Took, Gone}
use Rattle.client_model.specs.declared.input.Wants.{Wants}
use Rattle.client_model.specs.declared.input.Wants.TheVariants as wants
use Rattle.client_model.specs.meaning.States.{Repeating}
use Rattle.client_model.specs.meaning.Terms.{Phase, Replaying}
use Rattle.client_model.specs.meaning.Talk.{Step, lost_of, on_hello, on_waiting, waits_from, on_try_failed, takes as taken_by}
use Rattle.outage_schedule.specs.declared.document.Request.{Request}
use Rattle.world_model.specs.meaning.Settings.{Setting}
use Rattle.world_model.specs.meaning.Frames.{Owner, Sent, Reply}
use Rattle.world_model.specs.meaning.Links.{Link, new_link, link_at, with_link, changed, sends, takes, told_by}
use Rattle.world_model.specs.meaning.Clients.{Doing, Client, client_at, with_client, doing_at, begun, heard, after_hold, after_step}
use Rattle.world_model.specs.meaning.Acting.{sent_by, owner_at, connection_of}
use Rattle.world_model.specs.meaning.Machines.{Machine}
use Rattle.world_model.specs.meaning.Going.{lost_at_once}
use Rattle.world_model.specs.records.Hold.{holds_connection, is_idle, is_awaited, goes_by, same_held}
use Rattle.world_model.specs.Parts.{is_answered, count_reps}
use Rattle.world_model.specs.Sames.{owned_by}
use Rattle.world_model.proofs.hold.HadEvents.{not_zero}
use Rattle.world_model.proofs.script.Recalling.{get_last}
use Rattle.world_model.proofs.events.Tests.{eq_to}
use Rattle.world_model.proofs.events.AllClients.{stepped_client, client_set, client_twice}
use Rattle.world_model.proofs.events.AllLinks.{at_link}
use Rattle.world_model.proofs.basic.LinkEnds.{ends_at}
use Rattle.world_model.proofs.wire.LinkOrder.{is_orderly}
use Rattle.world_model.proofs.wire.LinkSent.{open_living}
use Rattle.world_model.proofs.events.Moves.{IsDoing, next_number}
use Rattle.world_model.proofs.events.Others.{changed_others}
use Rattle.world_model.proofs.script.Strangers.{frame_now}
use Rattle.world_model.proofs.wire.SentLinks.{awaits, spoken_by, lent_idle}
use Rattle.world_model.proofs.events.Lookups.{IsSaid, with_others, with_own, changed_own, new_others}
use Rattle.world_model.proofs.wire.Saying.{is_hushed}
use Rattle.world_model.proofs.basic.Ends.{sends_alike}
use Rattle.world_model.proofs.number.GoesBy.{by_hello, by_taken, goes_rightly, by_none, by_one, by_its}
use Rattle.world_model.proofs.hold.HeldSaid.{taken_loud}
use Rattle.world_model.proofs.hold.HeldKept.{holds_rightly, without_one, with_one, HasIt, HasNone, HasOne, has_it, slot_holds_none, same_none, gone_none, waits_none, fails_none, lent_out, taken_out, opened_out}

-- ALIKE -------------------------------------------------------------------------------------------

pub awaits_same : (owner : Owner) (phase : Phase) (a b : Link) → IsSaid a b → awaits owner phase a ≡ true → awaits owner phase b ≡ true
awaits_same owner phase a b said out = ap (λ (sent : List Sent). test sent b.taken) said.sent ∙ (ap (λ (taken : List Reply). test a.sent taken) said.taken ∙ out)
  where
    test : List Sent → List Reply → Bool
    test sent taken = (count_reps sent == length taken + 1) && option_map_or (λ one. is_answered one.frame && (owned_by owner one && is_awaited phase one)) (last_or None sent) false

-- the connection that is lent is among those that are idle
first_count : (idle : List ℕ) (connection : ℕ) → lends idle ≡ take.Lent connection → 1 ≤ count_by (λ one. one == connection) idle
first_count [] connection answer = absurd (let none : ⊥ = cc in none)
first_count (first ∷ later) connection answer =
    let same : first ≡ connection = cc in
    let split : count_by (λ (one : ℕ). one == connection) (first ∷ later) ≡ cond (first == connection) 1 0 + count_by (λ (one : ℕ). one == connection) later = sum_by-cons (λ (one : ℕ). cond (one == connection) 1 0) first later in
    by (first == connection) (eq_to first connection same) split
  where
    by : (test : Bool) → test ≡ true → count_by (λ (one : ℕ). one == connection) (first ∷ later) ≡ cond test 1 0 + count_by (λ (one : ℕ). one == connection) later → 1 ≤ count_by (λ (one : ℕ). one == connection) (first ∷ later)
    by true is split = omega arith
    by false is split = absurd (let none : ⊥ = cc in none)

lent_count : (pool : Slots) (number connection : ℕ) → take_answer pool number ≡ take.Lent connection → 1 ≤ count_by (λ one. one == connection) pool.idle
lent_count pool number connection answer = by (has_to_wait pool number) answer
  where
    by : (waits : Bool) → (if waits then take.Waiting else lends pool.idle) ≡ take.Lent connection → 1 ≤ count_by (λ one. one == connection) pool.idle
    by true answer = absurd (let none : ⊥ = cc in none)
    by false answer = first_count pool.idle connection answer

-- A STEP OF A CLIENT ------------------------------------------------------------------------------

-- the request has its connection rightly, and goes by what is held there
abbrev pub Stands : List Link → Owner → Doing → Type 0
Stands links owner doing = (holds_rightly links owner doing ≡ true) × (goes_rightly links doing ≡ true)

-- the client stands so afterwards, holds its connection rightly, and the connections of others are
-- as before
pub record Stepped (m : Machine) (who : ℕ) (client : Client) (n : Machine) : Type 0 where
  pub next : Client
  pub clients : n.clients ≡ with_client m.clients who next
  pub own : (doing : Doing) → next.now ≡ Some doing → Stands n.links (record { client = who; place = length next.past }) doing
  pub others : (number : ℕ) (link : Link) → link_at m.links number ≡ Some link → count_by (λ one. one == number) m.pool.idle ≡ 0
      → ((doing : Doing) → client.now ≡ Some doing → doing.connection ≡ Some number → ⊥) → link_at n.links number ≡ Some link

own_of : (setting : Setting) (links : List Link) (who : ℕ) (client : Client) (next : Doing) (held : Hold) → (held ≡ hold.Keep → Stands links (record { client = who; place = length client.past }) next)
    → (doing : Doing) → (after_hold setting who client next held).now ≡ Some doing → Stands links (record { client = who; place = length (after_hold setting who client next held).past }) doing
own_of setting links who client next hold.Keep keeps doing is =
    let same : next ≡ doing = cc in subst (Stands links (record { client = who; place = length client.past })) same (keeps refl)
own_of setting links who client next hold.GiveBack keeps doing is = absurd (let none : ⊥ = cc in none)
own_of setting links who client next hold.Drop keeps doing is = absurd (let none : ⊥ = cc in none)

-- the identifier of a connection that is lent
by_lent : (phase : Phase) {x : Ltxid} {held : Option Ltxid} → goes_by phase ≡ Some x → held ≡ Some x → same_held (goes_by phase) held ≡ true
by_lent phase {x} {held} is has = ap (λ (one : Option Ltxid). same_held one held) is ∙ (ap (same_held (Some x)) has ∙ (same_ltxid_decides x x).1 refl)

-- what is held stays where frames are sent
pub sends_held : (event : ℕ) (frames : List Sent) (link : Link) → (sends event frames link).held ≡ link.held
sends_held event frames link = sends_alike (λ one. one.held ≡ link.held) event frames link refl refl

module _ (setting : Setting) (m : Machine)
    (held : (number : ℕ) (client : Client) (doing : Doing) → client_at m.clients number ≡ Some client → client.now ≡ Some doing → holds_rightly m.links (record { client = number; place = length client.past }) doing ≡ true)
    (idle : list_all (λ number. option_map_or is_idle (link_at m.links number) false) m.pool.idle ≡ true) (orderly : list_all is_orderly m.links ≡ true) (last : ℕ) (ended : list_all (ends_at last) m.links ≡ true) where
  -- a request without a connection
  free_by : (who : ℕ) (client : Client) (doing : Doing) (now : Option Doing) (next : Option Request) → client_at m.clients who ≡ Some client → client.now ≡ now
      → option_or now (option_map (begun setting.terms m.event m.tick) next) ≡ Some doing → holds_connection doing.talk.phase ≡ false → doing.connection ≡ None
  free_by who client doing (Some one) next here now does phase =
      let same : one ≡ doing = cc in
      same_none doing.connection (holds_connection doing.talk.phase)
      (and_parts (same_bool (is_some doing.connection) (holds_connection doing.talk.phase)) _ (held who client doing here (now ∙ ap Some same))).0 phase
  free_by who client doing None (Some request) here now does phase =
      let same : begun setting.terms m.event m.tick request ≡ doing = cc in ap (λ (d : Doing). d.connection) (sym same)
  free_by who client doing None None here now does phase = absurd (let none : ⊥ = cc in none)

  pub free : (who : ℕ) (doing : Doing) (wanted : Wants) → IsDoing setting m who doing wanted → (wanted ≡ wants.Frame → ⊥) → doing.connection ≡ None
  free who doing wanted is other =
      free_by who is.client doing is.client.now is.client.next is.here refl is.does (slot_holds_none setting.terms doing.talk doing.talk.phase m.tick wanted is.wants other)

  owner_same : (who : ℕ) (client : Client) → client_at m.clients who ≡ Some client → owner_at m who ≡ record { client = who; place = length client.past }
  owner_same who client here = ap (λ (found : Option Client). record { client = who; place = option_map_or (λ (one : Client). length one.past) found 0 }) here

  by_owner : (who : ℕ) (client : Client) (links : List Link) (doing : Doing) → client_at m.clients who ≡ Some client → holds_rightly links (owner_at m who) doing ≡ true
      → holds_rightly links (record { client = who; place = length client.past }) doing ≡ true
  by_owner who client links doing here is = subst (λ (owner : Owner). holds_rightly links owner doing ≡ true) (owner_same who client here) is

  -- without a connection nothing of others is changed
  free_others : (doing : Doing) (frames : List Sent) → doing.connection ≡ None → (number : ℕ) (link : Link) → link_at m.links number ≡ Some link
      → link_at (changed (sends m.event frames) m.links (connection_of doing)) number ≡ Some link
  free_others doing frames none number link there =
      let zero_is : connection_of doing ≡ 0 = ap (λ (one : Option ℕ). unwrap_or one 0) none in
      changed_others (sends m.event frames) m.links (connection_of doing) number (λ same. not_zero m.links number link there (same ∙ zero_is)) ∙ there

  pub waits_step : (who : ℕ) (doing : Doing) (a : Machine) (is : IsDoing setting m who doing wants.Slot)
      → a.clients ≡ after_step setting m.clients who (heard setting.terms m.event m.tick doing Waiting) (on_waiting setting.terms doing.talk (waits_from doing.talk.phase m.tick) m.tick).1.hold
      → (frames : List Sent) → a.links ≡ changed (sends m.event frames) m.links (connection_of doing) → Stepped m who is.client a
  waits_step who doing a is clients frames links =
      let next : Doing = heard setting.terms m.event m.tick doing Waiting in
      let keep : Hold = (on_waiting setting.terms doing.talk (waits_from doing.talk.phase m.tick) m.tick).1.hold in
      let none : doing.connection ≡ None = free who doing wants.Slot is (λ e. let never : ⊥ = cc in never) in
      record {
        next = after_hold setting who is.client next keep;
        clients = clients ∙ stepped_client setting m.clients who is.client next keep is.here;
        own = own_of setting a.links who is.client next keep (λ kept. (without_one a.links (record { client = who; place = length is.client.past }) next none (waits_none setting m doing.talk (waits_from doing.talk.phase m.tick) m.tick kept), by_none a.links next none));
        others = λ number link there count other. ap (λ (all : List Link). link_at all number) links ∙ free_others doing frames none number link there;
      }

  pub fails_step : (who : ℕ) (doing : Doing) (wanted : Wants) (a : Machine) (is : IsDoing setting m who doing wanted) → (wanted ≡ wants.Frame → ⊥)
      → a.clients ≡ after_step setting m.clients who (heard setting.terms m.event m.tick doing TryFailed) (on_try_failed setting.terms doing.talk m.tick).1.hold
      → (frames : List Sent) → a.links ≡ changed (sends m.event frames) m.links (connection_of doing) → Stepped m who is.client a
  fails_step who doing wanted a is other clients frames links =
      let next : Doing = heard setting.terms m.event m.tick doing TryFailed in
      let keep : Hold = (on_try_failed setting.terms doing.talk m.tick).1.hold in
      let none : doing.connection ≡ None = free who doing wanted is other in
      record {
        next = after_hold setting who is.client next keep;
        clients = clients ∙ stepped_client setting m.clients who is.client next keep is.here;
        own = own_of setting a.links who is.client next keep (λ kept. (without_one a.links (record { client = who; place = length is.client.past }) next none (fails_none setting m doing.talk m.tick), by_none a.links next none));
        others = λ number link there count differ. ap (λ (all : List Link). link_at all number) links ∙ free_others doing frames none number link there;
      }

  pub lends_step : (who connection : ℕ) (doing : Doing) (link : Link) (ltxid : Ltxid) (pool : Slots) (a : Machine) (is : IsDoing setting m who doing wants.Slot) → take_answer m.pool who ≡ take.Lent connection
      → link_at m.links connection ≡ Some link → link.held ≡ Some ltxid
      → a.clients ≡ after_step setting m.clients who (heard setting.terms m.event m.tick (record doing { connection = Some connection }) (Lent connection ltxid)) (on_hello setting.terms doing.talk None ltxid true m.tick).1.hold
      → a.links ≡ changed (sends m.event (spoken_by (owner_at m who) pool connection (on_hello setting.terms doing.talk None ltxid true m.tick))) m.links connection → Stepped m who is.client a
  lends_step who connection doing link ltxid pool a is answer there holds clients links =
      let next : Doing = heard setting.terms m.event m.tick (record doing { connection = Some connection }) (Lent connection ltxid) in
      let step : Step = on_hello setting.terms doing.talk None ltxid true m.tick in
      let change : Link → Link = sends m.event (spoken_by (owner_at m who) pool connection step) in
      let rests : is_idle link ≡ true = lent_idle m.pool who connection m.links link answer idle there in
      record {
        next = after_hold setting who is.client next step.1.hold;
        clients = clients ∙ stepped_client setting m.clients who is.client next step.1.hold is.here;
        own = own_of setting a.links who is.client next step.1.hold
            (λ kept. let both = lent_out setting m (owner_at m who) doing.talk ltxid pool connection link rests kept in
            let found : link_at a.links connection ≡ Some (change link) = ap (λ (all : List Link). link_at all connection) links ∙ changed_own change m.links connection link there in (
              by_owner who is.client a.links next is.here (with_one a.links (owner_at m who) next connection (change link) refl both.0 found both.1),
              by_one a.links next connection (change link) refl found (by_lent step.0.phase (by_hello setting.terms doing.talk None ltxid m.tick kept) (sends_held m.event (spoken_by (owner_at m who) pool connection step) link ∙ holds)),
            ));
        others = λ number other at count differ.
            ap (λ (all : List Link). link_at all number) links
            ∙ (changed_others change m.links connection number
            (λ same. let some : 1 ≤ count_by (λ (one : ℕ). one == connection) m.pool.idle = lent_count m.pool who connection answer in
            let none : count_by (λ (one : ℕ). one == connection) m.pool.idle ≡ 0 = subst (λ (n : ℕ). count_by (λ (one : ℕ). one == n) m.pool.idle ≡ 0) same count in
            let never : ⊥ = omega arith in never) ∙ at);
      }

  pub opens_step : (who : ℕ) (doing : Doing) (wanted : Wants) (a : Machine) (is : IsDoing setting m who doing wanted)
      → a.clients ≡ after_step setting m.clients who (heard setting.terms m.event m.tick (record doing { connection = Some (next_number m) }) (Opened (next_number m))) hold.Keep
      → a.links ≡ changed (sends m.event (sent_by (owner_at m who) 0 up.Connect ∷ [])) (m.links ++ new_link ∷ []) (next_number m) → Stepped m who is.client a
  opens_step who doing wanted a is clients links =
      let next : Doing = heard setting.terms m.event m.tick (record doing { connection = Some (next_number m) }) (Opened (next_number m)) in
      let change : Link → Link = sends m.event (sent_by (owner_at m who) 0 up.Connect ∷ []) in
      let new : link_at (m.links ++ new_link ∷ []) (next_number m) ≡ Some new_link = ap (λ (n : ℕ). link_at (m.links ++ new_link ∷ []) n) (add-one (length m.links)) ∙ get_last m.links new_link in
      record {
        next = after_hold setting who is.client next hold.Keep;
        clients = clients ∙ stepped_client setting m.clients who is.client next hold.Keep is.here;
        own = own_of setting a.links who is.client next hold.Keep
            (λ kept. let found : link_at a.links (next_number m) ≡ Some (change new_link) = ap (λ (all : List Link). link_at all (next_number m)) links ∙ changed_own change (m.links ++ new_link ∷ []) (next_number m) new_link new in (
              by_owner who is.client a.links next is.here (with_one a.links (owner_at m who) next (next_number m) (change new_link) refl refl found (opened_out setting m (owner_at m who) (lost_of doing.talk.phase))),
              by_one a.links next (next_number m) (change new_link) refl found (ap (same_held None) (sends_held m.event (sent_by (owner_at m who) 0 up.Connect ∷ []) new_link)),
            ));
        others = λ number other at count differ. ap (λ (all : List Link). link_at all number) links ∙ new_others change m.links number other at;
      }

  pub loses_step : (who : ℕ) (doing : Doing) (ends : ℕ) (a : Machine) (is : IsDoing setting m who doing wants.Frame)
      → a.clients ≡ after_step setting m.clients who (heard setting.terms m.event m.tick (record doing { connection = None }) (Gone ends)) hold.Keep → a.links ≡ m.links → Stepped m who is.client a
  loses_step who doing ends a is clients links =
      let next : Doing = heard setting.terms m.event m.tick (record doing { connection = None }) (Gone ends) in
      record {
        next = after_hold setting who is.client next hold.Keep;
        clients = clients ∙ stepped_client setting m.clients who is.client next hold.Keep is.here;
        own = own_of setting a.links who is.client next hold.Keep (λ kept. (without_one a.links (record { client = who; place = length is.client.past }) next refl (gone_none doing.talk.phase ends), by_none a.links next refl));
        others = λ number other at count differ. ap (λ (all : List Link). link_at all number) links ∙ at;
      }

  -- A FRAME THAT IS TAKEN -------------------------------------------------------------------------

  module _ (who connection : ℕ) (doing : Doing) (link : Link) (reply : Reply) (left : List Reply) (is : IsDoing setting m who doing wants.Frame) (has : doing.connection ≡ Some connection)
      (there : link_at m.links connection ≡ Some link) (down : link.down ≡ reply ∷ left) (goes : goes_rightly m.links doing ≡ true)
      (again : (state : Repeating) → doing.talk.phase ≡ Replaying state → (x : Ltxid) → told_by (Took reply.frame true) ≡ Some x → same_held (Some state.ltxid) (Some x) ≡ true) where
    abbrev step_now : Step
    step_now = taken_by setting.terms doing.talk doing.talk.phase reply.frame link.is_open m.tick

    abbrev taken : Link
    taken = takes (Took reply.frame link.is_open) reply left link

    abbrev change_now : Link → Link
    change_now = sends m.event (spoken_by (owner_at m who) m.pool (connection_of doing) step_now)

    abbrev next_now : Doing
    next_now = heard setting.terms m.event m.tick doing (Took reply.frame link.is_open)

    abbrev links_now : List Link
    links_now = changed change_now (with_link m.links connection taken) (connection_of doing)

    number_is : connection_of doing ≡ connection
    number_is = ap (λ (one : Option ℕ). unwrap_or one 0) has

    now_is : is.client.now ≡ Some doing
    now_is = frame_now setting m who doing is

    found_now : link_at links_now connection ≡ Some (change_now taken)
    found_now =
        ap (λ (n : ℕ). link_at (changed change_now (with_link m.links connection taken) n) connection) number_is
        ∙ changed_own change_now (with_link m.links connection taken) connection taken (with_own m.links connection link taken there)

    out_now : awaits (owner_at m who) doing.talk.phase link ≡ true
    out_now = by (has_it m.links (record { client = who; place = length is.client.past }) doing (held who is.client doing is.here now_is))
      where
        by : HasIt m.links (record { client = who; place = length is.client.past }) doing → awaits (owner_at m who) doing.talk.phase link ≡ true
        by (HasNone none) = absurd (let some : Some connection ≡ None = sym has ∙ none in let never : ⊥ = cc in never)
        by (HasOne number one at is_there out) =
            let number_same : Some number ≡ Some connection = sym at ∙ has in
            let same : number ≡ connection = cc in
            let found : Some one ≡ Some link = sym is_there ∙ (ap (λ (n : ℕ). link_at m.links n) same ∙ there) in
            let one_is : one ≡ link = cc in
            subst (λ (owner : Owner). awaits owner doing.talk.phase link ≡ true) (sym (owner_same who is.client is.here)) (subst (λ (l : Link). awaits (record { client = who; place = length is.client.past }) doing.talk.phase l ≡ true) one_is out)

    alive_own : link.is_open ≡ true → step_now.1.hold ≡ hold.Keep → Stands links_now (record { client = who; place = length is.client.past }) next_now
    alive_own opens kept =
        let living = open_living last link (at_link (ends_at last) m.links connection link ended there) opens in
        let loud : is_hushed reply.frame ≡ false = taken_loud link reply left (at_link is_orderly m.links connection link orderly there) living down in
        let both = taken_out setting m (owner_at m who) doing.talk m.pool (connection_of doing) link reply left out_now opens loud kept in
        let here : same_held (goes_by doing.talk.phase) link.held ≡ true = by_its m.links doing connection link has there goes in
        let held : (change_now taken).held ≡ taken.held = sends_held m.event (spoken_by (owner_at m who) m.pool (connection_of doing) step_now) taken in (
          by_owner who is.client links_now next_now is.here (with_one links_now (owner_at m who) next_now connection (change_now taken) has both.0 found_now both.1),
          by_one links_now next_now connection (change_now taken) has found_now
              (ap (same_held (goes_by next_now.talk.phase)) held ∙ by_taken setting.terms doing.talk doing.talk.phase reply.frame link.is_open m.tick link.held refl opens loud here again kept),
        )

    others_now : (number : ℕ) (other : Link) → link_at m.links number ≡ Some other → ((one : Doing) → is.client.now ≡ Some one → one.connection ≡ Some number → ⊥) → link_at links_now number ≡ Some other
    others_now number other at differ =
        let apart : number ≢ connection = λ same. differ doing now_is (has ∙ ap Some (sym same)) in
        changed_others change_now (with_link m.links connection taken) (connection_of doing) number (λ same. apart (same ∙ number_is)) ∙ (with_others m.links connection number taken apart ∙ at)

    pub takes_step : (a : Machine) (ends : Option ℕ) (alive : Bool) → link.is_open ≡ alive → a.clients ≡ after_step setting m.clients who next_now step_now.1.hold → a.links ≡ links_now → a.event ≡ m.event → a.tick ≡ m.tick
        → Stepped m who is.client (if alive then a else lost_at_once setting a who ends (doing_at a.clients who))
    takes_step a ends true opens clients links event tick = record {
      next = after_hold setting who is.client next_now step_now.1.hold;
      clients = clients ∙ stepped_client setting m.clients who is.client next_now step_now.1.hold is.here;
      own = subst (λ (all : List Link). (one : Doing) → (after_hold setting who is.client next_now step_now.1.hold).now ≡ Some one → Stands all (record { client = who; place = length (after_hold setting who is.client next_now step_now.1.hold).past }) one)
          (sym links) (own_of setting links_now who is.client next_now step_now.1.hold (alive_own opens));
      others = λ number other at count differ. ap (λ (all : List Link). link_at all number) links ∙ others_now number other at differ;
    }
    takes_step a ends false opens clients links event tick = by step_now.1.hold clients
      where
        set : (keep : Hold) → a.clients ≡ after_step setting m.clients who next_now keep → a.clients ≡ with_client m.clients who (after_hold setting who is.client next_now keep)
        set keep clients = clients ∙ stepped_client setting m.clients who is.client next_now keep is.here

        found : (keep : Hold) → a.clients ≡ after_step setting m.clients who next_now keep → client_at a.clients who ≡ Some (after_hold setting who is.client next_now keep)
        found keep clients = ap (λ (all : List Client). client_at all who) (set keep clients) ∙ client_set m.clients who is.client (after_hold setting who is.client next_now keep) is.here

        doing_now : (keep : Hold) → a.clients ≡ after_step setting m.clients who next_now keep → doing_at a.clients who ≡ (after_hold setting who is.client next_now keep).now
        doing_now keep clients = ap (λ (one : Option Client). option_and_then (λ (c : Client). c.now) one) (found keep clients)

        over : (keep : Hold) → a.clients ≡ after_step setting m.clients who next_now keep → (keep ≡ hold.Keep → ⊥) → (after_hold setting who is.client next_now keep).now ≡ None
            → Stepped m who is.client (lost_at_once setting a who ends (doing_at a.clients who))
        over keep clients other none =
            subst (λ (lost : Option Doing). Stepped m who is.client (lost_at_once setting a who ends lost)) (sym (doing_now keep clients ∙ none))
            (record {
              next = after_hold setting who is.client next_now keep;
              clients = set keep clients;
              own = own_of setting a.links who is.client next_now keep (λ kept. absurd (other kept));
              others = λ number link at count differ. ap (λ (all : List Link). link_at all number) links ∙ others_now number link at differ;
            })

        gone : Doing
        gone = heard setting.terms a.event a.tick (record next_now { connection = None }) (Gone (unwrap_or ends 0))

        kept_client : Client
        kept_client = record is.client { now = Some next_now }

        kept : a.clients ≡ after_step setting m.clients who next_now hold.Keep → Stepped m who is.client (lost_at_once setting a who ends (doing_at a.clients who))
        kept clients =
            subst (λ (lost : Option Doing). Stepped m who is.client (lost_at_once setting a who ends lost)) (sym (doing_now hold.Keep clients))
            (record {
              next = after_hold setting who is.client gone hold.Keep;
              clients = stepped_client setting a.clients who kept_client gone hold.Keep (found hold.Keep clients)
                  ∙ (ap (λ (all : List Client). with_client all who (after_hold setting who is.client gone hold.Keep)) (set hold.Keep clients) ∙ client_twice m.clients who kept_client (after_hold setting who is.client gone hold.Keep));
              own = own_of setting a.links who is.client gone hold.Keep (λ kept. (without_one a.links (record { client = who; place = length is.client.past }) gone refl (gone_none next_now.talk.phase (unwrap_or ends 0)), by_none a.links gone refl));
              others = λ number link at count differ. ap (λ (all : List Link). link_at all number) links ∙ others_now number link at differ;
            })

        by : (keep : Hold) → a.clients ≡ after_step setting m.clients who next_now keep → Stepped m who is.client (lost_at_once setting a who ends (doing_at a.clients who))
        by hold.Keep clients = kept clients
        by hold.GiveBack clients = over hold.GiveBack clients (λ e. let never : ⊥ = cc in never) refl
        by hold.Drop clients = over hold.Drop clients (λ e. let never : ⊥ = cc in never) refl
