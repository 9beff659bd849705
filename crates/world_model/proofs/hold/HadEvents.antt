-- An open connection is one request's or idle, where a client has none, opens one or is lent one.
use Rattle.std.proofs.Common.{◌≡◌, ◌≢◌, refl, sym, ap, subst, ◌∙◌, Bool, true, false, ℕ, suc, zero, ◌+◌, cond, length, List, [], ◌∷◌, ◌++◌, count_by, Option, Some, None, arith}
use Rattle.std.specs.Prelude.{◌==◌, option_map, unwrap_or}
use Rattle.std.specs.List.{list_all}
use Rattle.std.specs.Option.{option_or, option_map_or}
use Rattle.std.proofs.lemmas.Option.{slice_get_within}
use Rattle.svc_values.specs.declared.entry.Ltxid.{Ltxid}
use Rattle.pool_core.specs.declared.answers.Take.TheVariants as take
use Rattle.pool_core.specs.meaning.Slots.{Slots, take_answer, after_take, give_back_answer}
use Rattle.client_model.specs.declared.act.Hold.{Hold}
use Rattle.client_model.specs.declared.act.Hold.TheVariants as hold
use Rattle.client_model.specs.declared.input.Input.TheVariants.{Waiting, Lent, Opened, TryFailed}
use Rattle.client_model.specs.declared.input.Wants.{Wants}
use Rattle.client_model.specs.declared.input.Wants.TheVariants as wants
use Rattle.client_model.specs.meaning.Released.{released}
use Rattle.client_model.specs.meaning.Terms.{Greeting}
use Rattle.client_model.specs.meaning.Talk.{Step, on_hello, on_waiting, waits_from, on_try_failed}
use Rattle.outage_schedule.specs.declared.document.Request.{Request}
use Rattle.world_model.specs.meaning.Settings.{Setting}
use Rattle.world_model.specs.meaning.Frames.{Sent}
use Rattle.world_model.specs.meaning.Links.{Link, new_link, link_at, changed, sends}
use Rattle.world_model.specs.meaning.Clients.{Doing, with_client, begun, heard, after_hold, after_step}
use Rattle.world_model.specs.meaning.Acting.{owner_at, call_in, connection_of}
use Rattle.world_model.specs.meaning.Machines.{Machine}
use Rattle.world_model.specs.records.Hold.{is_idle}
use Rattle.world_model.proofs.events.Tests.{eq_from, eq_to}
use Rattle.world_model.proofs.events.AllClients.{stepped_client}
use Rattle.world_model.proofs.finish.Counts.{going_passes, goes_so}
use Rattle.world_model.proofs.events.Moves.{IsDoing, next_number, Tries}
use Rattle.world_model.proofs.events.Others.{changed_others}
use Rattle.world_model.proofs.wire.SentLinks.{spoken_by, lent_idle}
use Rattle.world_model.proofs.events.Lookups.{changed_own, new_others}
use Rattle.world_model.proofs.wire.Saying.{Spoken, has_next, said_lent}
use Rattle.world_model.proofs.hold.IdleEvents.{IsSameRest, waiting_rest, IsLent, lent_rest, released_rest}
use Rattle.world_model.proofs.hold.IdleAll.{waits_hold, fails_hold, lent_hold, tried_rest}
use Rattle.world_model.proofs.wire.LinkSent.{idle_open}
use Rattle.world_model.proofs.hold.HadKept.{has_connection, idle_in, HadMove, Stays, Closes, IsLent as LentOne, Moved, HadStep}
use Rattle.world_model.proofs.hold.HadSaid.{says_open, says_shut, after_none, after_other, after_own, after_over, not_same, first_idle}

-- STEPS -------------------------------------------------------------------------------------------

pub not_zero : (links : List Link) (number : ℕ) (link : Link) → link_at links number ≡ Some link → number ≢ 0
not_zero links number link is same =
    let none : link_at links 0 ≡ Some link = ap (link_at links) (sym same) ∙ is in
    let never : ⊥ = cc in never

-- a new number is none of these
newer : (links : List Link) (number : ℕ) (link : Link) → link_at links number ≡ Some link → (length links + 1 == number) ≡ false
newer links zero link is = absurd (let none : ⊥ = cc in none)
newer links (suc index) link is = not_same (length links + 1) (suc index) (λ same. let within = slice_get_within links index link is in let never : ⊥ = omega arith in never)

module _ (setting : Setting) (m : Machine) where
  -- a request without a connection
  pub not_had : (number who : ℕ) (doing : Doing) (wanted : Wants) (is : IsDoing setting m who doing wanted) → doing.connection ≡ None → goes_so (has_connection number) is.client ≡ false
  not_had number who doing wanted is none = by is.client.now is.client.next is.does
    where
      by : (now : Option Doing) (next : Option Request) → option_or now (option_map (begun setting.terms m.event m.tick) next) ≡ Some doing → going_passes (has_connection number) now ≡ false
      by None next does = refl
      by (Some one) next does =
          let same : one ≡ doing = cc in
          ap (has_connection number) same ∙ ap (λ (c : Option ℕ). option_map_or (λ other. other == number) c false) none

  -- it goes on without one
  without_step : (who : ℕ) (doing next : Doing) (wanted : Wants) (held : Hold) (frames : List Sent) (pool : Slots) (is : IsDoing setting m who doing wanted) → doing.connection ≡ None → next.connection ≡ None → IsSameRest m.pool pool
      → (n : Machine) → n.clients ≡ with_client m.clients who (after_hold setting who is.client next held) → n.links ≡ changed (sends m.event frames) m.links (connection_of doing) → n.pool ≡ pool → HadStep m who is.client n
  without_step who doing next wanted held frames pool is none none_then same n clients links pool_is = record {
    next = after_hold setting who is.client next held;
    clients = clients;
    moves = λ number link there. record {
      now = link;
      there = ap (λ (all : List Link). link_at all number) links
          ∙ (changed_others (sends m.event frames) m.links (connection_of doing) number (λ e. not_zero m.links number link there (e ∙ ap (λ (one : Option ℕ). unwrap_or one 0) none)) ∙ there);
      move = Stays (after_none setting number who is.client next held none_then ∙ sym (not_had number who doing wanted is none)) refl
          (ap (λ (p : Slots). idle_in p number) pool_is ∙ ap (count_by (λ other. other == number)) same.idle);
    };
  }

  pub waits_had : (who : ℕ) (doing : Doing) (is : IsDoing setting m who doing wants.Slot) → doing.connection ≡ None → take_answer m.pool who ≡ take.Waiting → (n : Machine)
      → n.clients ≡ after_step setting m.clients who (heard setting.terms m.event m.tick doing Waiting) (on_waiting setting.terms doing.talk (waits_from doing.talk.phase m.tick) m.tick).1.hold
      → (frames : List Sent) → n.links ≡ changed (sends m.event frames) m.links (connection_of doing)
      → n.pool ≡ released (after_take m.pool who) who (connection_of doing) false (on_waiting setting.terms doing.talk (waits_from doing.talk.phase m.tick) m.tick).1.hold → HadStep m who is.client n
  waits_had who doing is none answer n clients frames links pool =
      let held : Hold = (on_waiting setting.terms doing.talk (waits_from doing.talk.phase m.tick) m.tick).1.hold in
      let next : Doing = heard setting.terms m.event m.tick doing Waiting in
      let one = waiting_rest m.pool who answer in
      let other = released_rest (after_take m.pool who) who (connection_of doing) false held (waits_hold setting.terms doing.talk (waits_from doing.talk.phase m.tick) m.tick) in
      without_step who doing next wants.Slot held frames (released (after_take m.pool who) who (connection_of doing) false held) is none none (record { idle = other.idle ∙ one.idle; drained = other.drained ∙ one.drained }) n
      (clients ∙ stepped_client setting m.clients who is.client next held is.here) links pool

  pub fails_had : (who : ℕ) (doing : Doing) (wanted : Wants) (base : Slots) (is : IsDoing setting m who doing wanted) → doing.connection ≡ None → Tries m who wanted base → (n : Machine)
      → n.clients ≡ after_step setting m.clients who (heard setting.terms m.event m.tick doing TryFailed) (on_try_failed setting.terms doing.talk m.tick).1.hold
      → (frames : List Sent) → n.links ≡ changed (sends m.event frames) m.links (connection_of doing)
      → n.pool ≡ released base who (connection_of doing) true (on_try_failed setting.terms doing.talk m.tick).1.hold → HadStep m who is.client n
  fails_had who doing wanted base is none tries n clients frames links pool =
      let held : Hold = (on_try_failed setting.terms doing.talk m.tick).1.hold in
      let next : Doing = heard setting.terms m.event m.tick doing TryFailed in
      let one = tried_rest m who wanted base tries in
      let other = released_rest base who (connection_of doing) true held (fails_hold setting.terms doing.talk m.tick) in
      without_step who doing next wanted held frames (released base who (connection_of doing) true held) is none none (record { idle = other.idle ∙ one.idle; drained = other.drained ∙ one.drained }) n
      (clients ∙ stepped_client setting m.clients who is.client next held is.here) links pool

  pub opens_had : (who : ℕ) (doing : Doing) (wanted : Wants) (base : Slots) (is : IsDoing setting m who doing wanted) → doing.connection ≡ None → Tries m who wanted base → (frames : List Sent) → (n : Machine)
      → n.clients ≡ after_step setting m.clients who (heard setting.terms m.event m.tick (record doing { connection = Some (next_number m) }) (Opened (next_number m))) hold.Keep
      → n.links ≡ changed (sends m.event frames) (m.links ++ new_link ∷ []) (next_number m) → n.pool.idle ≡ base.idle
      → (step : HadStep m who is.client n) × (goes_so (has_connection (next_number m)) step.next ≡ true)
  opens_had who doing wanted base is none tries frames n clients links idle =
      let next : Doing = heard setting.terms m.event m.tick (record doing { connection = Some (next_number m) }) (Opened (next_number m)) in (
        record {
          next = after_hold setting who is.client next hold.Keep;
          clients = clients ∙ stepped_client setting m.clients who is.client next hold.Keep is.here;
          moves = λ number link there. record {
            now = link;
            there = ap (λ (all : List Link). link_at all number) links ∙ new_others (sends m.event frames) m.links number link there;
            move = Stays (after_other setting number who is.client next hold.Keep (next_number m) refl (newer m.links number link there) ∙ sym (not_had number who doing wanted is none)) refl
                (ap (count_by (λ other. other == number)) (idle ∙ (tried_rest m who wanted base tries).idle));
          };
        },
        eq_to (next_number m) (next_number m) refl,
      )

  -- LENT ------------------------------------------------------------------------------------------

  module _ (who connection : ℕ) (doing : Doing) (ltxid : Ltxid) (is : IsDoing setting m who doing wants.Slot) (none : doing.connection ≡ None) (answer : take_answer m.pool who ≡ take.Lent connection)
      (idle : list_all (λ number. option_map_or is_idle (link_at m.links number) false) m.pool.idle ≡ true) (calls : has_next doing.talk ≡ true) where
    abbrev lent_now : Step
    lent_now = on_hello setting.terms doing.talk None ltxid true m.tick

    abbrev base_now : Slots
    base_now = after_take m.pool who

    abbrev next_lent : Doing
    next_lent = heard setting.terms m.event m.tick (record doing { connection = Some connection }) (Lent connection ltxid)

    abbrev change_lent : Link → Link
    change_lent = sends m.event (spoken_by (owner_at m who) base_now connection lent_now)

    spoken_lent : Spoken (Greeting None) (has_next doing.talk) true false lent_now.0.phase lent_now.1.send lent_now.1.hold
    spoken_lent = said_lent setting.terms doing.talk ltxid m.tick

    lent_is : IsLent m.pool base_now connection
    lent_is = lent_rest m.pool who connection answer

    -- the others are idle as before, and this one is no longer
    lent_count : (number : ℕ) → idle_in m.pool number ≡ cond (connection == number) 1 0 + idle_in (released base_now who connection true lent_now.1.hold) number
    lent_count number =
        let same = released_rest base_now who connection true lent_now.1.hold (lent_hold (has_next doing.talk) true false lent_now.0.phase lent_now.1.send lent_now.1.hold spoken_lent calls) in
        first_idle connection number m.pool.idle lent_is.later lent_is.idle ∙ ap (λ (all : List ℕ). cond (connection == number) 1 0 + count_by (λ other. other == number) all) (sym (same.idle ∙ lent_is.left))

    own_lent : (link : Link) → link_at m.links connection ≡ Some link
        → HadMove link.is_open (idle_in m.pool connection) (goes_so (has_connection connection) is.client) (goes_so (has_connection connection) (after_hold setting who is.client next_lent lent_now.1.hold)) (change_lent link).is_open
        (idle_in (released base_now who connection true lent_now.1.hold) connection)
    own_lent link there = by lent_now.1.hold refl
      where
        opens : link.is_open ≡ true
        opens = idle_open link (lent_idle m.pool who connection m.links link answer idle there)

        one_less : idle_in m.pool connection ≡ idle_in (released base_now who connection true lent_now.1.hold) connection + 1
        one_less =
            let all = lent_count connection in
            let one : ◌≡◌ {A = ℕ} (cond (connection == connection) 1 0) 1 = ap (λ (b : Bool). cond b 1 0) (eq_to connection connection refl) in
            omega arith

        by : (held : Hold) → lent_now.1.hold ≡ held
            → HadMove link.is_open (idle_in m.pool connection) (goes_so (has_connection connection) is.client) (goes_so (has_connection connection) (after_hold setting who is.client next_lent lent_now.1.hold)) (change_lent link).is_open
            (idle_in (released base_now who connection true lent_now.1.hold) connection)
        by hold.Keep held =
            LentOne (not_had connection who doing wants.Slot is none) (after_own setting connection who is.client next_lent lent_now.1.hold held refl) opens
            (says_open m.event (owner_at m who) (call_in lent_now.0.phase) (Greeting None) (has_next doing.talk) true false lent_now.0.phase lent_now.1.send lent_now.1.hold (give_back_answer base_now connection) link spoken_lent opens held ∙ opens) one_less
        by hold.Drop held =
            Closes (says_shut m.event (owner_at m who) (call_in lent_now.0.phase) (Greeting None) (has_next doing.talk) true false lent_now.0.phase lent_now.1.send lent_now.1.hold (give_back_answer base_now connection) link spoken_lent opens held)
            (λ has_is. let over : goes_so (has_connection connection) (after_hold setting who is.client next_lent lent_now.1.hold) ≡ false = after_over setting connection who is.client next_lent lent_now.1.hold (λ keep. let never : ⊥ = cc in never) in
            absurd (let never : ⊥ = cc in never))
        by hold.GiveBack held = absurd (lent_hold (has_next doing.talk) true false lent_now.0.phase lent_now.1.send lent_now.1.hold spoken_lent calls held)

    pub lends_had : (n : Machine) → n.clients ≡ after_step setting m.clients who next_lent lent_now.1.hold → n.links ≡ changed change_lent m.links connection → n.pool ≡ released base_now who connection true lent_now.1.hold
        → HadStep m who is.client n
    lends_had n clients links pool = record {
      next = after_hold setting who is.client next_lent lent_now.1.hold;
      clients = clients ∙ stepped_client setting m.clients who is.client next_lent lent_now.1.hold is.here;
      moves = λ number link there. by number link there (connection == number) refl;
    }
      where
        own : (link : Link) → link_at m.links connection ≡ Some link → Moved m n connection link (goes_so (has_connection connection) is.client) (goes_so (has_connection connection) (after_hold setting who is.client next_lent lent_now.1.hold))
        own link there = record {
          now = change_lent link;
          there = ap (λ (all : List Link). link_at all connection) links ∙ changed_own change_lent m.links connection link there;
          move = subst (λ (p : Slots). HadMove link.is_open (idle_in m.pool connection) (goes_so (has_connection connection) is.client) (goes_so (has_connection connection) (after_hold setting who is.client next_lent lent_now.1.hold))
              (change_lent link).is_open (idle_in p connection)) (sym pool) (own_lent link there);
        }

        by : (number : ℕ) (link : Link) → link_at m.links number ≡ Some link → (same : Bool) → (connection == number) ≡ same
            → Moved m n number link (goes_so (has_connection number) is.client) (goes_so (has_connection number) (after_hold setting who is.client next_lent lent_now.1.hold))
        by number link there true same =
            let number_is : connection ≡ number = eq_from connection number same in
            subst (λ (k : ℕ). (one : Link) → link_at m.links k ≡ Some one → Moved m n k one (goes_so (has_connection k) is.client) (goes_so (has_connection k) (after_hold setting who is.client next_lent lent_now.1.hold))) number_is own link there
        by number link there false same =
            let zero_is : ◌≡◌ {A = ℕ} (cond (connection == number) 1 0) 0 = ap (λ (b : Bool). cond b 1 0) same in
            let all = lent_count number in
            let count : idle_in (released base_now who connection true lent_now.1.hold) number ≡ idle_in m.pool number = omega arith in
            record {
              now = link;
              there = ap (λ (all : List Link). link_at all number) links
                  ∙ (changed_others change_lent m.links connection number (λ e. let yes_is : (connection == number) ≡ true = eq_to connection number (sym e) in let never : ⊥ = cc in never) ∙ there);
              move = Stays (after_other setting number who is.client next_lent lent_now.1.hold connection refl same ∙ sym (not_had number who doing wants.Slot is none)) refl (ap (λ (p : Slots). idle_in p number) pool ∙ count);
            }
