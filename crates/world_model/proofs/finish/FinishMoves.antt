-- Each step of a client leaves it no more rounds, those that it began with included.
use Rattle.std.proofs.Common.{◌≡◌, refl, sym, ap, subst, ◌∙◌, Bool, true, false, ℕ, ◌+◌, ◌-◌, ◌≤◌, length, map, List, [], ◌∷◌, ◌++◌, Option, Some, None, if◌then◌else◌, arith, add-one, inl}
use Rattle.std.specs.Prelude.{nat_le, unwrap_or}
use Rattle.std.specs.List.{list_all}
use Rattle.std.specs.Option.{option_map_or}
use Rattle.svc_values.specs.declared.entry.Ltxid.{Ltxid}
use Rattle.svc_values.specs.declared.frame.Up.TheVariants as up
use Rattle.svc_values.specs.declared.call.Call.{Call}
use Rattle.pool_core.specs.declared.answers.Back.{Back}
use Rattle.pool_core.specs.declared.answers.Take.TheVariants as take
use Rattle.pool_core.specs.meaning.Slots.{Slots, take_answer, after_take, give_back_answer}
use Rattle.client_model.specs.declared.act.Hold.TheVariants as hold
use Rattle.client_model.specs.declared.act.Failed.TheVariants.{PoolWait}
use Rattle.client_model.specs.declared.input.Input.TheVariants.{Waiting, Lent, Opened}
use Rattle.client_model.specs.declared.input.Wants.{Wants}
use Rattle.client_model.specs.declared.input.Wants.TheVariants as wants
use Rattle.client_model.specs.meaning.Terms.{Terms, Talk, Phase, Idle, Queued, Greeting}
use Rattle.client_model.specs.meaning.Talk.{Step, stands, quiet, fails, on_waiting, waits_from, on_hello, lost_of, next_call, wants_in}
use Rattle.world_model.specs.meaning.Links.{Link, new_link, link_at, sends}
use Rattle.world_model.specs.meaning.Clients.{Doing, Client, client_at, heard}
use Rattle.world_model.specs.meaning.Acting.{closing, sent_by, owner_at, connection_of, call_in}
use Rattle.world_model.specs.meaning.Machines.{Machine}
use Rattle.world_model.specs.Orderly.{Orderly}
use Rattle.world_model.specs.RoundsLeft.{rounds_by, talk_rounds}
use Rattle.world_model.specs.Remaining.{on_open, doing_rounds, links_work}
use Rattle.world_model.specs.Traced.{Traced}
use Rattle.world_model.proofs.finish.FinishGoes.{doing_most, slot_phase, seeking_phase, opened_seeking, opened_queued}
use Rattle.world_model.proofs.events.Happened.{at_event}
use Rattle.world_model.proofs.hold.Held.{held_now, doing_course}
use Rattle.world_model.proofs.wire.KeptWire.{all_orderly}
use Rattle.world_model.proofs.finish.LinksWork.{new_work}
use Rattle.world_model.proofs.events.Moves.{IsDoing, with_pool, Tries, FromQueue, Again, next_number, opens_one}
use Rattle.world_model.proofs.wire.Saying.{has_next, said_lent}
use Rattle.world_model.proofs.wire.SentLinks.{awaits}
use Rattle.world_model.proofs.number.LinkSettled.{awaits_no_call}
use Rattle.world_model.proofs.finish.ClientRounds.{ends_same}
use Rattle.world_model.proofs.finish.TalkRounds.{hello_rounds}
use Rattle.client_model.specs.meaning.Talk.{sends_or_ends, begin_of}
use Rattle.client_model.specs.meaning.Terms.{unsubmitted}
use Rattle.client_model.specs.meaning.States.{Living}
use Rattle.world_model.specs.meaning.Acting.{steps}
use Rattle.world_model.proofs.finish.FinishSteps.{few_frames, steps_work, Went, went_step, waits_rounds}
use Rattle.world_model.proofs.hold.HeldEvents.{waits_step, lends_step, opens_step}
use Rattle.world_model.proofs.hold.HeldKept.{holds_rightly}
use Rattle.world_model.proofs.wire.LinkOrder.{is_orderly}
use Rattle.world_model.proofs.events.Lookups.{changed_own}
use Rattle.world_model.proofs.wire.SentLinks.{spoken_by}
use Rattle.world_model.proofs.script.Recalling.{get_last}
use Rattle.world_model.specs.records.Hold.{is_held}

pub long_map : {A B : Type 0} (f : A → B) (xs : List A) → length (map f xs) ≡ length xs
long_map f [] = refl
long_map f (x ∷ xs) = let rest : length (map f xs) ≡ length xs = long_map f xs in omega arith

pub mapped_few : {A B : Type 0} (f : A → B) (xs : List A) (most : ℕ) → length xs ≤ most → length (map f xs) ≤ most
mapped_few f xs most few = let same : length (map f xs) ≡ length xs = long_map f xs in omega arith

-- it is no request that is over
pub not_idle : (terms : Terms) (talk : Talk) (now : ℕ) (wanted : Wants) → wants_in terms talk talk.phase now ≡ wanted → (wanted ≡ wants.Idle → ⊥) → talk.phase ≡ Idle → ⊥
not_idle terms talk now wanted is other idle = other (sym is ∙ ap (λ (p : Phase). wants_in terms talk p now) idle)

-- SLOTS -------------------------------------------------------------------------------------------

waiting_few : (terms : Terms) (talk : Talk) (from now : ℕ) (how : Back) → length ((on_waiting terms talk from now).1.send ++ closing (on_waiting terms talk from now).1.hold how) ≤ 2
waiting_few terms talk from now how = by (nat_le terms.limits.wait (now - from))
  where
    by : (long : Bool) → length ((if long then fails talk false None (PoolWait from now) else (stands talk (Queued (Some from)), quiet)).1.send ++ closing (if long then fails talk false None (PoolWait from now) else (stands talk (Queued (Some from)), quiet)).1.hold how) ≤ 2
    by true = omega arith
    by false = omega arith

waiting_on : (terms : Terms) (talk : Talk) (from now : ℕ) → (on_waiting terms talk from now).1.hold ≡ hold.Keep → (nat_le terms.limits.wait (now - from) ≡ false) × ((on_waiting terms talk from now).0 ≡ stands talk (Queued (Some from)))
waiting_on terms talk from now keep = by (nat_le terms.limits.wait (now - from)) refl keep
  where
    by : (long : Bool) → nat_le terms.limits.wait (now - from) ≡ long → (if long then fails talk false None (PoolWait from now) else (stands talk (Queued (Some from)), quiet)).1.hold ≡ hold.Keep
        → (nat_le terms.limits.wait (now - from) ≡ false) × ((if long then fails talk false None (PoolWait from now) else (stands talk (Queued (Some from)), quiet)).0 ≡ stands talk (Queued (Some from)))
    by true is keep = absurd (let none : ⊥ = cc in none)
    by false is keep = (is, refl)

-- a request that begins on a connection awaits a reply to its call
hello_plain : (terms : Terms) (talk : Talk) (ltxid : Ltxid) (now : ℕ) → (on_hello terms talk None ltxid true now).1.hold ≡ hold.Keep → awaits_no_call (on_hello terms talk None ltxid true now).0.phase ≡ true → ⊥
hello_plain terms talk ltxid now keep awaits = by (next_call talk) keep awaits
  where
    state : Living
    state = record { track = unsubmitted terms; ltxid = ltxid }

    by : (next : Option Call) → (sends_or_ends terms talk state true (begin_of talk ∷ []) None now next).1.hold ≡ hold.Keep → awaits_no_call (sends_or_ends terms talk state true (begin_of talk ∷ []) None now next).0.phase ≡ true → ⊥
    by None keep awaits = let none : ⊥ = cc in none
    by (Some call) keep awaits = let none : ⊥ = cc in none

opened_rounds : (terms : Terms) (talk : Talk) (now : ℕ) (a : Bool) (m : Machine) (who : ℕ) (wanted : Wants) (pool : Slots) → wants_in terms talk talk.phase now ≡ wanted → Tries m who wanted pool
    → rounds_by terms now true talk.last_try (length talk.left) (Greeting (lost_of talk.phase)) + 1 ≤ rounds_by terms now a talk.last_try (length talk.left) talk.phase
opened_rounds terms talk now a m who _ _ wants (FromQueue answer) =
    let is = slot_phase terms talk talk.phase now wants in
    subst (λ (p : Phase). rounds_by terms now true talk.last_try (length talk.left) (Greeting (lost_of p)) + 1 ≤ rounds_by terms now a talk.last_try (length talk.left) p) (sym is.1) (opened_queued terms now a talk.last_try (length talk.left) is.0)
opened_rounds terms talk now a m who _ _ wants Again =
    let is = seeking_phase terms talk talk.phase now (inl wants) in
    subst (λ (p : Phase). rounds_by terms now true talk.last_try (length talk.left) (Greeting (lost_of p)) + 1 ≤ rounds_by terms now a talk.last_try (length talk.left) p) (sym is.1) (opened_seeking terms now a talk.last_try (length talk.left) is.0)

module _ (t : Traced) (inv : Orderly t) (who : ℕ) where
  abbrev m : Machine
  m = t.machine

  abbrev now : Machine
  now = at_event t.machine

  held_before : (number : ℕ) (client : Client) (doing : Doing) → client_at t.machine.clients number ≡ Some client → client.now ≡ Some doing → holds_rightly t.machine.links (record { client = number; place = length client.past }) doing ≡ true
  held_before number client doing here is = doing_course (is_held t) t number client doing inv.hold.held here is

  orderly : list_all is_orderly t.machine.links ≡ true
  orderly = all_orderly t.machine.links inv.wire.sent inv.wire.replies inv.wire.handled inv.basic.life

  pub waits : (doing : Doing) → IsDoing t.setting now who doing wants.Slot → Went t who (steps t.setting (with_pool now (after_take t.machine.pool who)) who doing false Waiting)
  waits doing is =
      went_step t inv who n doing wants.Slot is after (on_waiting t.setting.terms doing.talk (waits_from doing.talk.phase t.machine.tick) t.machine.tick).1.hold refl refl refl
      (steps_work now.event _ t.machine.links (connection_of doing) 2 (mapped_few (sent_by (owner_at now who) (call_in after.talk.phase)) _ 2 (waiting_few t.setting.terms doing.talk (waits_from doing.talk.phase t.machine.tick) t.machine.tick (give_back_answer (after_take t.machine.pool who) (connection_of doing)))))
      (waits_step t.setting now held_before (held_now t inv).idle orderly t.machine.event inv.basic.ended who doing n is refl
      (spoken_by (owner_at now who) (after_take t.machine.pool who) (connection_of doing) (on_waiting t.setting.terms doing.talk (waits_from doing.talk.phase t.machine.tick) t.machine.tick)) refl).others
      (not_idle t.setting.terms doing.talk t.machine.tick wants.Slot is.wants (λ e. let none : ⊥ = cc in none)) keeps
    where
      n : Machine
      n = steps t.setting (with_pool now (after_take t.machine.pool who)) who doing false Waiting

      after : Doing
      after = heard t.setting.terms now.event now.tick doing Waiting

      keeps : (on_waiting t.setting.terms doing.talk (waits_from doing.talk.phase t.machine.tick) t.machine.tick).1.hold ≡ hold.Keep
          → doing_rounds t.setting n true after ≤ talk_rounds t.setting.terms t.machine.tick (on_open t.machine.links doing.connection) doing.talk
      keeps keep =
          let phase = slot_phase t.setting.terms doing.talk doing.talk.phase t.machine.tick is.wants in
          let from : waits_from doing.talk.phase t.machine.tick ≡ unwrap_or phase.0 t.machine.tick = ap (λ (p : Phase). waits_from p t.machine.tick) phase.1 in
          let on = waiting_on t.setting.terms doing.talk (waits_from doing.talk.phase t.machine.tick) t.machine.tick keep in
          subst (λ (p : Phase). doing_rounds t.setting n true after ≤ rounds_by t.setting.terms t.machine.tick (on_open t.machine.links doing.connection) doing.talk.last_try (length doing.talk.left) p) (sym phase.1)
          (waits_rounds t.setting n after doing.talk phase.0 t.machine.tick (on_open t.machine.links doing.connection) refl
          (subst (λ (k : ℕ). nat_le t.setting.terms.limits.wait (t.machine.tick - k) ≡ false) from on.0)
          (subst (λ (k : ℕ). after.talk ≡ stands doing.talk (Queued (Some k))) from on.1))

  pub lends : (doing : Doing) (connection : ℕ) (link : Link) (ltxid : Ltxid) → IsDoing t.setting now who doing wants.Slot → take_answer t.machine.pool who ≡ take.Lent connection → link_at t.machine.links connection ≡ Some link → link.held ≡ Some ltxid
      → Went t who (steps t.setting (with_pool now (after_take t.machine.pool who)) who (record doing { connection = Some connection }) true (Lent connection ltxid))
  lends doing connection link ltxid is answer there holds =
      went_step t inv who n doing wants.Slot is after step.1.hold refl refl refl
      (steps_work now.event _ t.machine.links connection 2 (mapped_few (sent_by (owner_at now who) (call_in after.talk.phase)) _ 2
      (few_frames (Greeting None) (has_next doing.talk) true false step.0.phase step.1.send step.1.hold (give_back_answer (after_take t.machine.pool who) connection) (said_lent t.setting.terms doing.talk ltxid t.machine.tick))))
      (lends_step t.setting now held_before (held_now t inv).idle orderly t.machine.event inv.basic.ended who connection doing link ltxid (after_take t.machine.pool who) n is answer there holds refl refl).others
      (not_idle t.setting.terms doing.talk t.machine.tick wants.Slot is.wants (λ e. let none : ⊥ = cc in none)) keeps
    where
      step : Step
      step = on_hello t.setting.terms doing.talk None ltxid true t.machine.tick

      n : Machine
      n = steps t.setting (with_pool now (after_take t.machine.pool who)) who (record doing { connection = Some connection }) true (Lent connection ltxid)

      after : Doing
      after = heard t.setting.terms now.event now.tick (record doing { connection = Some connection }) (Lent connection ltxid)

      keeps : step.1.hold ≡ hold.Keep → doing_rounds t.setting n true after ≤ talk_rounds t.setting.terms t.machine.tick (on_open t.machine.links doing.connection) doing.talk
      keeps keep =
          let phase = slot_phase t.setting.terms doing.talk doing.talk.phase t.machine.tick is.wants in
          let same : talk_rounds t.setting.terms t.machine.tick (on_open n.links after.connection) step.0 ≤ talk_rounds t.setting.terms t.machine.tick true step.0 =
          ends_same t.setting.terms t.machine.tick (on_open n.links after.connection) true step.0 (λ awaits. absurd (hello_plain t.setting.terms doing.talk ltxid t.machine.tick keep awaits)) in
          let less : talk_rounds t.setting.terms t.machine.tick true step.0 + 1 ≤ rounds_by t.setting.terms t.machine.tick true doing.talk.last_try (length doing.talk.left) (Greeting None) =
          hello_rounds t.setting.terms t.machine.tick doing.talk None ltxid true t.machine.tick 0 keep in
          let more : rounds_by t.setting.terms t.machine.tick true doing.talk.last_try (length doing.talk.left) (Greeting None) + 1 ≤ rounds_by t.setting.terms t.machine.tick (on_open t.machine.links doing.connection) doing.talk.last_try (length doing.talk.left) doing.talk.phase =
          subst (λ (p : Phase). rounds_by t.setting.terms t.machine.tick true doing.talk.last_try (length doing.talk.left) (Greeting None) + 1 ≤ rounds_by t.setting.terms t.machine.tick (on_open t.machine.links doing.connection) doing.talk.last_try (length doing.talk.left) p) (sym phase.1)
          (opened_queued t.setting.terms t.machine.tick (on_open t.machine.links doing.connection) doing.talk.last_try (length doing.talk.left) phase.0) in
          doing_most t.setting n after (talk_rounds t.setting.terms t.machine.tick (on_open t.machine.links doing.connection) doing.talk) (omega (arith, same, less, more))

  pub opens : (doing : Doing) (wanted : Wants) (pool : Slots) → IsDoing t.setting now who doing wanted → Tries now who wanted pool → Went t who (opens_one t.setting now who doing pool)
  opens doing wanted pool is tries =
      went_step t inv who n doing wanted is after hold.Keep refl refl refl
      (let grown : links_work n.links ≤ links_work (t.machine.links ++ new_link ∷ []) + 2 = steps_work now.event (sent_by (owner_at now who) 0 up.Connect ∷ []) (t.machine.links ++ new_link ∷ []) (next_number now) 2 (omega arith) in
      let same : links_work (t.machine.links ++ new_link ∷ []) ≡ links_work t.machine.links = new_work t.machine.links in omega (arith, grown, same))
      (opens_step t.setting now held_before (held_now t inv).idle orderly t.machine.event inv.basic.ended who doing wanted n is refl refl).others
      (not_idle t.setting.terms doing.talk t.machine.tick wanted is.wants (by_tries wanted pool tries)) (λ keep. keeps)
    where
      n : Machine
      n = opens_one t.setting now who doing pool

      after : Doing
      after = heard t.setting.terms now.event now.tick (record doing { connection = Some (next_number now) }) (Opened (next_number now))

      by_tries : (w : Wants) (p : Slots) → Tries now who w p → w ≡ wants.Idle → ⊥
      by_tries _ _ (FromQueue answer) e = let none : ⊥ = cc in none
      by_tries _ _ Again e = let none : ⊥ = cc in none

      change : Link → Link
      change = sends now.event (sent_by (owner_at now who) 0 up.Connect ∷ [])

      found : link_at n.links (next_number now) ≡ Some (change new_link)
      found = changed_own change (t.machine.links ++ new_link ∷ []) (next_number now) new_link
          (ap (λ (k : ℕ). link_at (t.machine.links ++ new_link ∷ []) k) (add-one (length t.machine.links)) ∙ get_last t.machine.links new_link)

      opens_now : on_open n.links after.connection ≡ true
      opens_now = ap (λ (one : Option Link). option_map_or (λ l. l.is_open) one true) found

      keeps : doing_rounds t.setting n true after ≤ talk_rounds t.setting.terms t.machine.tick (on_open t.machine.links doing.connection) doing.talk
      keeps =
          let less : rounds_by t.setting.terms t.machine.tick true doing.talk.last_try (length doing.talk.left) (Greeting (lost_of doing.talk.phase)) + 1
          ≤ rounds_by t.setting.terms t.machine.tick (on_open t.machine.links doing.connection) doing.talk.last_try (length doing.talk.left) doing.talk.phase =
          opened_rounds t.setting.terms doing.talk t.machine.tick (on_open t.machine.links doing.connection) now who wanted pool is.wants tries in
          doing_most t.setting n after (talk_rounds t.setting.terms t.machine.tick (on_open t.machine.links doing.connection) doing.talk)
          (subst (λ (o : Bool). talk_rounds t.setting.terms t.machine.tick o after.talk + 1 ≤ talk_rounds t.setting.terms t.machine.tick (on_open t.machine.links doing.connection) doing.talk) (sym opens_now) less)
