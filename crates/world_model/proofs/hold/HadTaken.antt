-- An open connection is one request's or idle, where a client takes a frame or loses its
-- connection.
use Rattle.std.proofs.Common.{◌≡◌, ◌≢◌, refl, sym, ap, subst, ◌∙◌, Bool, true, false, ℕ, ◌+◌, cond, List, [], ◌∷◌, ◌++◌, count_by, Option, Some, None, if◌then◌else◌, arith}
use Rattle.std.specs.Prelude.{◌==◌, option_and_then, unwrap_or}
use Rattle.std.specs.Option.{option_map_or}
use Rattle.pool_core.specs.declared.answers.Back.TheVariants as back
use Rattle.pool_core.specs.meaning.Slots.{drains, give_back_answer}
use Rattle.client_model.specs.declared.act.Hold.{Hold}
use Rattle.client_model.specs.declared.act.Hold.TheVariants as hold
use Rattle.client_model.specs.declared.input.Input.TheVariants.{Took, Gone}
use Rattle.client_model.specs.declared.input.Wants.TheVariants as wants
use Rattle.client_model.specs.meaning.Released.{released}
use Rattle.client_model.specs.meaning.Talk.{Step, takes as taken_by}
use Rattle.world_model.specs.meaning.Settings.{Setting}
use Rattle.world_model.specs.meaning.Frames.{Reply}
use Rattle.world_model.specs.meaning.Links.{Link, link_at, with_link, changed, ends, sends, takes}
use Rattle.world_model.specs.meaning.Clients.{Doing, Client, client_at, with_client, doing_at, heard, after_hold, after_step}
use Rattle.world_model.specs.meaning.Acting.{owner_at, call_in, connection_of, loses}
use Rattle.world_model.specs.meaning.Machines.{Machine}
use Rattle.world_model.specs.meaning.Going.{lost_at_once}
use Rattle.world_model.proofs.events.Tests.{eq_from, eq_to}
use Rattle.world_model.proofs.events.AllClients.{stepped_client, client_set, client_twice}
use Rattle.world_model.proofs.finish.Counts.{going_passes, goes_so}
use Rattle.world_model.proofs.events.Moves.{IsDoing}
use Rattle.world_model.proofs.events.Others.{changed_others}
use Rattle.world_model.proofs.script.Strangers.{frame_now}
use Rattle.world_model.proofs.wire.SentLinks.{spoken_by}
use Rattle.world_model.proofs.events.Lookups.{with_others, with_own, changed_own}
use Rattle.world_model.proofs.wire.Saying.{Spoken, has_next, is_hushed, said}
use Rattle.world_model.proofs.hold.IdleEvents.{ended_by}
use Rattle.world_model.proofs.hold.HadKept.{has_connection, idle_in, HadMove, Stays, Closes, GivesBack, Moved, HadStep}
use Rattle.world_model.proofs.hold.HadSaid.{says_open, says_shut, gives_open, gives_shut, after_other, after_own, pushed_idle}

module _ (setting : Setting) (m : Machine) where
  -- who has the connection
  mine : (number who connection : ℕ) (doing : Doing) (is : IsDoing setting m who doing wants.Frame) → doing.connection ≡ Some connection → goes_so (has_connection number) is.client ≡ (connection == number)
  mine number who connection doing is has =
      ap (going_passes (has_connection number)) (frame_now setting m who doing is) ∙ ap (λ (c : Option ℕ). option_map_or (λ other. other == number) c false) has

  pub loses_had : (who connection : ℕ) (doing : Doing) (link : Link) (is : IsDoing setting m who doing wants.Frame) → doing.connection ≡ Some connection → link_at m.links connection ≡ Some link → link.is_open ≡ false → (ends : Option ℕ)
      → HadStep m who is.client (loses setting m who doing ends)
  loses_had who connection doing link is has there closed ends = record {
    next = after_hold setting who is.client gone hold.Keep;
    clients = stepped_client setting m.clients who is.client gone hold.Keep is.here;
    moves = λ number other at. record { now = other; there = at; move = by number other at (connection == number) refl };
  }
    where
      gone : Doing
      gone = heard setting.terms m.event m.tick (record doing { connection = None }) (Gone (unwrap_or ends 0))

      by : (number : ℕ) (other : Link) → link_at m.links number ≡ Some other → (same : Bool) → (connection == number) ≡ same
          → HadMove other.is_open (idle_in m.pool number) (goes_so (has_connection number) is.client) false other.is_open (idle_in m.pool number)
      by number other at true same =
          let found : Some other ≡ Some link = sym at ∙ (ap (link_at m.links) (sym (eq_from connection number same)) ∙ there) in
          let other_is : other ≡ link = cc in
          Closes (ap (λ (l : Link). l.is_open) other_is ∙ closed) (λ has_is. absurd (let never : ⊥ = cc in never))
      by number other at false same = Stays (sym (mine number who connection doing is has ∙ same)) refl refl

  module _ (who connection : ℕ) (doing : Doing) (link : Link) (reply : Reply) (left : List Reply) (is : IsDoing setting m who doing wants.Frame) (has : doing.connection ≡ Some connection)
      (there : link_at m.links connection ≡ Some link) where
    abbrev step_now : Step
    step_now = taken_by setting.terms doing.talk doing.talk.phase reply.frame link.is_open m.tick

    abbrev taken : Link
    taken = takes (Took reply.frame link.is_open) reply left link

    abbrev next_now : Doing
    next_now = heard setting.terms m.event m.tick doing (Took reply.frame link.is_open)

    abbrev change_at : ℕ → Link → Link
    change_at number = sends m.event (spoken_by (owner_at m who) m.pool number step_now)

    abbrev machine_at : ℕ → Machine
    machine_at number = record m {
      links = changed (change_at number) (with_link m.links connection taken) number;
      clients = after_step setting m.clients who next_now step_now.1.hold;
      pool = released m.pool who number true step_now.1.hold;
    }

    spoken_now : Spoken doing.talk.phase (has_next doing.talk) link.is_open (is_hushed reply.frame) step_now.0.phase step_now.1.send step_now.1.hold
    spoken_now = said setting.terms doing.talk doing.talk.phase reply.frame link.is_open m.tick refl

    own_open : step_now.1.hold ≡ hold.Keep → (change_at connection taken).is_open ≡ link.is_open
    own_open held =
        says_open m.event (owner_at m who) (call_in step_now.0.phase) doing.talk.phase (has_next doing.talk) link.is_open (is_hushed reply.frame) step_now.0.phase step_now.1.send step_now.1.hold (give_back_answer m.pool connection) taken spoken_now refl held

    own_move : HadMove link.is_open (idle_in m.pool connection) true (goes_so (has_connection connection) (after_hold setting who is.client next_now step_now.1.hold)) (change_at connection taken).is_open
        (idle_in (released m.pool who connection true step_now.1.hold) connection)
    own_move = by step_now.1.hold refl
      where
        how : (drain : Bool) → drains m.pool connection ≡ drain → give_back_answer m.pool connection ≡ (if drain then back.Closed else back.Idle)
        how drain is_drain = ap (λ (test : Bool). if test then back.Closed else back.Idle) is_drain

        given : step_now.1.hold ≡ hold.GiveBack → (drain : Bool) → drains m.pool connection ≡ drain
            → HadMove link.is_open (idle_in m.pool connection) true false (change_at connection taken).is_open (count_by (λ other. other == connection) (if drain then m.pool.idle else m.pool.idle ++ connection ∷ []))
        given held true is_drain =
            let lives = (ended_by doing.talk.phase (has_next doing.talk) link.is_open (is_hushed reply.frame) step_now.0.phase step_now.1.send step_now.1.hold spoken_now held).0 in
            Closes (gives_shut m.event (owner_at m who) (call_in step_now.0.phase) doing.talk.phase (has_next doing.talk) link.is_open (is_hushed reply.frame) step_now.0.phase step_now.1.send step_now.1.hold (give_back_answer m.pool connection) taken spoken_now
            refl lives held (how true is_drain)) (λ has_is. refl)
        given held false is_drain =
            let lives = (ended_by doing.talk.phase (has_next doing.talk) link.is_open (is_hushed reply.frame) step_now.0.phase step_now.1.send step_now.1.hold spoken_now held).0 in
            let one : ◌≡◌ {A = ℕ} (cond (connection == connection) 1 0) 1 = ap (λ (b : Bool). cond b 1 0) (eq_to connection connection refl) in
            GivesBack refl refl lives
            (gives_open m.event (owner_at m who) (call_in step_now.0.phase) doing.talk.phase (has_next doing.talk) link.is_open (is_hushed reply.frame) step_now.0.phase step_now.1.send step_now.1.hold (give_back_answer m.pool connection) taken spoken_now
            refl held (how false is_drain) ∙ lives)
            (pushed_idle m.pool.idle connection connection ∙ ap (λ (n : ℕ). idle_in m.pool connection + n) one)

        by : (held : Hold) → step_now.1.hold ≡ held
            → HadMove link.is_open (idle_in m.pool connection) true (goes_so (has_connection connection) (after_hold setting who is.client next_now held)) (change_at connection taken).is_open
            (idle_in (released m.pool who connection true held) connection)
        by hold.Keep held = Stays (after_own setting connection who is.client next_now hold.Keep refl has) (own_open held) refl
        by hold.Drop held =
            Closes (says_shut m.event (owner_at m who) (call_in step_now.0.phase) doing.talk.phase (has_next doing.talk) link.is_open (is_hushed reply.frame) step_now.0.phase step_now.1.send step_now.1.hold (give_back_answer m.pool connection) taken spoken_now
            refl held) (λ has_is. refl)
        by hold.GiveBack held = given held (drains m.pool connection) refl

    -- the others are idle as before
    other_idle : (number : ℕ) → (connection == number) ≡ false → (held : Hold) → idle_in (released m.pool who connection true held) number ≡ idle_in m.pool number
    other_idle number differs hold.Keep = refl
    other_idle number differs hold.Drop = refl
    other_idle number differs hold.GiveBack = by (drains m.pool connection)
      where
        by : (drain : Bool) → count_by (λ other. other == number) (if drain then m.pool.idle else m.pool.idle ++ connection ∷ []) ≡ idle_in m.pool number
        by true = refl
        by false =
            let pushed = pushed_idle m.pool.idle connection number in
            let zero_is : ◌≡◌ {A = ℕ} (cond (connection == number) 1 0) 0 = ap (λ (b : Bool). cond b 1 0) differs in
            omega arith

    own_there : link_at (machine_at connection).links connection ≡ Some (change_at connection taken)
    own_there = changed_own (change_at connection) (with_link m.links connection taken) connection taken (with_own m.links connection link taken there)

    other_there : (number : ℕ) (other : Link) → link_at m.links number ≡ Some other → (connection == number) ≡ false → link_at (machine_at connection).links number ≡ Some other
    other_there number other at differs =
        let apart : number ≢ connection = λ e. let yes_is : (connection == number) ≡ true = eq_to connection number (sym e) in let never : ⊥ = cc in never in
        changed_others (change_at connection) (with_link m.links connection taken) connection number apart ∙ (with_others m.links connection number taken apart ∙ at)

    taken_step : HadStep m who is.client (machine_at connection)
    taken_step = record {
      next = after_hold setting who is.client next_now step_now.1.hold;
      clients = stepped_client setting m.clients who is.client next_now step_now.1.hold is.here;
      moves = λ number other at. by number other at (connection == number) refl;
    }
      where
        own : (one : Link) → link_at m.links connection ≡ Some one
            → Moved m (machine_at connection) connection one (goes_so (has_connection connection) is.client) (goes_so (has_connection connection) (after_hold setting who is.client next_now step_now.1.hold))
        own one at =
            let found : Some link ≡ Some one = sym there ∙ at in
            let one_is : link ≡ one = cc in
            record {
              now = change_at connection taken;
              there = own_there;
              move = subst (λ (had : Bool). HadMove one.is_open (idle_in m.pool connection) had (goes_so (has_connection connection) (after_hold setting who is.client next_now step_now.1.hold)) (change_at connection taken).is_open
                  (idle_in (machine_at connection).pool connection)) (sym (mine connection who connection doing is has ∙ eq_to connection connection refl))
                  (subst (λ (l : Link). HadMove l.is_open (idle_in m.pool connection) true (goes_so (has_connection connection) (after_hold setting who is.client next_now step_now.1.hold)) (change_at connection taken).is_open
                  (idle_in (machine_at connection).pool connection)) one_is own_move);
            }

        by : (number : ℕ) (other : Link) → link_at m.links number ≡ Some other → (same : Bool) → (connection == number) ≡ same
            → Moved m (machine_at connection) number other (goes_so (has_connection number) is.client) (goes_so (has_connection number) (after_hold setting who is.client next_now step_now.1.hold))
        by number other at true same =
            let number_is : connection ≡ number = eq_from connection number same in
            subst (λ (k : ℕ). (one : Link) → link_at m.links k ≡ Some one → Moved m (machine_at connection) k one (goes_so (has_connection k) is.client) (goes_so (has_connection k) (after_hold setting who is.client next_now step_now.1.hold)))
            number_is own other at
        by number other at false same = record {
          now = other;
          there = other_there number other at same;
          move = Stays (after_other setting number who is.client next_now step_now.1.hold connection has same ∙ sym (mine number who connection doing is has ∙ same)) refl (other_idle number same step_now.1.hold);
        }

    -- the connection had ended, and is lost at once
    lost_step : (ends : Option ℕ) → link.is_open ≡ false → step_now.1.hold ≡ hold.Keep → HadStep m who is.client (loses setting (machine_at connection) who next_now ends)
    lost_step ends closed kept = record {
      next = after_hold setting who is.client gone hold.Keep;
      clients = stepped_client setting (machine_at connection).clients who kept_client gone hold.Keep found
          ∙ (ap (λ (all : List Client). with_client all who (after_hold setting who is.client gone hold.Keep)) set ∙ client_twice m.clients who kept_client (after_hold setting who is.client gone hold.Keep));
      moves = λ number other at. by number other at (connection == number) refl;
    }
      where
        gone : Doing
        gone = heard setting.terms m.event m.tick (record next_now { connection = None }) (Gone (unwrap_or ends 0))

        kept_client : Client
        kept_client = record is.client { now = Some next_now }

        set : (machine_at connection).clients ≡ with_client m.clients who kept_client
        set = ap (after_step setting m.clients who next_now) kept ∙ stepped_client setting m.clients who is.client next_now hold.Keep is.here

        found : client_at (machine_at connection).clients who ≡ Some kept_client
        found = ap (λ (all : List Client). client_at all who) set ∙ client_set m.clients who is.client kept_client is.here

        by : (number : ℕ) (other : Link) → link_at m.links number ≡ Some other → (same : Bool) → (connection == number) ≡ same
            → Moved m (loses setting (machine_at connection) who next_now ends) number other (goes_so (has_connection number) is.client) false
        by number other at true same =
            let number_is : connection ≡ number = eq_from connection number same in
            record {
              now = change_at connection taken;
              there = ap (link_at (machine_at connection).links) (sym number_is) ∙ own_there;
              move = Closes (own_open kept ∙ closed) (λ has_is. absurd (let never : ⊥ = cc in never));
            }
        by number other at false same = record {
          now = other;
          there = other_there number other at same;
          move = Stays (sym (mine number who connection doing is has ∙ same)) refl (other_idle number same step_now.1.hold);
        }

    abbrev lost_or : Option ℕ → Bool → ℕ → Machine
    lost_or ends alive number = if alive then machine_at number else lost_at_once setting (machine_at number) who ends (doing_at (machine_at number).clients who)

    takes_at : (ends : Option ℕ) (alive : Bool) → link.is_open ≡ alive → HadStep m who is.client (lost_or ends alive connection)
    takes_at ends true opens = taken_step
    takes_at ends false opens = by step_now.1.hold refl
      where
        doing_now : (held : Hold) → step_now.1.hold ≡ held → doing_at (machine_at connection).clients who ≡ (after_hold setting who is.client next_now held).now
        doing_now held is_held =
            ap (λ (one : Option Client). option_and_then (λ (c : Client). c.now) one)
            (ap (λ (all : List Client). client_at all who) (stepped_client setting m.clients who is.client next_now step_now.1.hold is.here)
            ∙ client_set m.clients who is.client (after_hold setting who is.client next_now step_now.1.hold) is.here) ∙ ap (λ (h : Hold). (after_hold setting who is.client next_now h).now) is_held

        by : (held : Hold) → step_now.1.hold ≡ held → HadStep m who is.client (lost_at_once setting (machine_at connection) who ends (doing_at (machine_at connection).clients who))
        by hold.Keep is_held =
            subst (λ (lost : Option Doing). HadStep m who is.client (lost_at_once setting (machine_at connection) who ends lost)) (sym (doing_now hold.Keep is_held)) (lost_step ends opens is_held)
        by hold.GiveBack is_held = subst (λ (lost : Option Doing). HadStep m who is.client (lost_at_once setting (machine_at connection) who ends lost)) (sym (doing_now hold.GiveBack is_held)) taken_step
        by hold.Drop is_held = subst (λ (lost : Option Doing). HadStep m who is.client (lost_at_once setting (machine_at connection) who ends lost)) (sym (doing_now hold.Drop is_held)) taken_step

    pub takes_had : (ends : Option ℕ) (alive : Bool) → link.is_open ≡ alive → HadStep m who is.client (lost_or ends alive (connection_of doing))
    takes_had ends alive opens = subst (λ (number : ℕ). HadStep m who is.client (lost_or ends alive number)) (sym (ap (λ (one : Option ℕ). unwrap_or one 0) has)) (takes_at ends alive opens)
