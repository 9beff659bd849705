-- A step on a connection leaves its client no more rounds.
use Rattle.client_model.specs.meaning.Talk.{Step, takes as taken_by, loses as lost_to}
use Rattle.client_model.specs.meaning.Terms.{Talk, Phase, Idle}
use Rattle.client_model.specs.declared.act.Hold.TheVariants as hold
use Rattle.client_model.specs.declared.act.Hold.{Hold}
use Rattle.client_model.specs.declared.input.Input.TheVariants.{Took, Gone}
use Rattle.client_model.specs.declared.input.Wants.TheVariants as wants
use Rattle.pool_core.specs.meaning.Slots.{give_back_answer}
use Rattle.pool_core.specs.declared.answers.Back.{Back}
use Rattle.std.proofs.Common.{◌≡◌, refl, sym, ap, subst, ◌∙◌, Bool, true, false, ℕ, ◌+◌, ◌≤◌, length, map, List, ◌∷◌, ◌++◌, Option, Some, None, if◌then◌else◌, arith}
use Rattle.std.specs.List.{list_any, list_all}
use Rattle.std.specs.Option.{option_map_or}
use Rattle.std.specs.Prelude.{unwrap_or, option_and_then}
use Rattle.svc_values.specs.declared.frame.Up.{Up}
use Rattle.world_model.proofs.events.AllClients.{stepped_client, client_set, client_twice}
use Rattle.world_model.proofs.events.AllLinks.{at_link}
use Rattle.world_model.proofs.finish.ClientRounds.{ends_same}
use Rattle.world_model.proofs.finish.FinishGoes.{doing_most}
use Rattle.world_model.proofs.finish.FinishSteps.{few_frames, steps_work, takes_work, Went, went_step}
use Rattle.world_model.proofs.events.Happened.{at_event}
use Rattle.world_model.proofs.hold.Held.{held_now, doing_course}
use Rattle.world_model.proofs.hold.HeldAgain.{again_now}
use Rattle.world_model.proofs.hold.HeldEvents.{Stepped, loses_step, takes_step}
use Rattle.world_model.proofs.hold.HeldKept.{holds_rightly}
use Rattle.world_model.proofs.hold.HeldSaid.{taken_loud}
use Rattle.world_model.proofs.wire.KeptWire.{all_orderly}
use Rattle.world_model.proofs.wire.LinkOrder.{is_orderly}
use Rattle.world_model.proofs.basic.LinkEnds.{ends_at}
use Rattle.world_model.proofs.wire.LinkSent.{open_living}
use Rattle.world_model.proofs.number.LinkSettled.{awaits_no_call}
use Rattle.world_model.proofs.events.Lookups.{with_own, changed_own}
use Rattle.world_model.proofs.events.Moves.{IsDoing, takes_one}
use Rattle.world_model.proofs.wire.Saying.{Spoken, Quiet, Fails, Ends, Asks, Calls, Marks, has_next, is_hushed, said}
use Rattle.world_model.proofs.wire.SentLinks.{awaits}
use Rattle.world_model.proofs.script.Strangers.{frame_now}
use Rattle.world_model.proofs.script.TalkRests.{frame_holds}
use Rattle.world_model.proofs.finish.TalkRounds.{behind, loss_rounds, takes_rounds, records_few}
use Rattle.world_model.proofs.script.TalkRecorded.{talk_few}
use Rattle.world_model.specs.meaning.Acting.{closing, sent_by, owner_at, connection_of, call_in}
use Rattle.world_model.specs.meaning.Acting.{loses}
use Rattle.world_model.specs.meaning.Clients.{Doing, Client, client_at, with_client, doing_at, heard, after_hold, after_step}
use Rattle.world_model.specs.meaning.Frames.{Owner, Sent, Reply}
use Rattle.world_model.specs.meaning.Going.{lost_at_once}
use Rattle.world_model.specs.meaning.Going.{unless_open}
use Rattle.world_model.specs.records.Hold.{is_held, is_by_held}
use Rattle.world_model.specs.Orderly.{Orderly}
use Rattle.world_model.specs.meaning.Links.{Link, link_at, with_link, changed, sends, takes, is_close}
use Rattle.world_model.specs.meaning.Machines.{Machine}
use Rattle.world_model.specs.Remaining.{on_open, doing_rounds, links_work}
use Rattle.world_model.specs.RoundsLeft.{rounds_by, talk_rounds}
use Rattle.world_model.specs.Traced.{Traced}
use Rattle.world_model.specs.records.Conversing.{Talks, IsTalking, inputs_of, first_talk}
use Rattle.world_model.specs.meaning.Links.{ends}
use Rattle.world_model.proofs.finish.FinishMoves.{mapped_few, not_idle}
use Rattle.world_model.proofs.script.TalksKept.{talks_at}

-- nothing closes a connection while its request goes on
none_close : (owner : Owner) (call : ℕ) (before : Phase) (left hushed : Bool) (phase : Phase) (send : List Up) (held : Hold) (how : Back) → Spoken before left true hushed phase send held → held ≡ hold.Keep → hushed ≡ false → awaits_no_call phase ≡ true
    → list_any (λ sent. is_close sent.frame) (map (sent_by owner call) (send ++ closing held how)) ≡ false
none_close owner call before left true phase _ _ how (Quiet _ hush stays) keep loud awaits = absurd (let none : ⊥ = cc in none)
none_close owner call before left false phase _ _ how (Quiet _ hush stays) keep loud awaits = absurd (let none : ⊥ = cc in none)
none_close owner call before left hushed _ _ _ how Fails keep loud awaits = absurd (let none : ⊥ = cc in none)
none_close owner call before left hushed _ _ _ how (Ends may) keep loud awaits = absurd (let none : ⊥ = cc in none)
none_close owner call before left hushed _ _ _ how (Asks opens may asking) keep loud awaits = refl
none_close owner call before left hushed _ _ _ how (Calls opens settings one state) keep loud awaits = absurd (let none : ⊥ = cc in none)
none_close owner call before left hushed _ _ _ how (Marks opens may settings one state is plain) keep loud awaits = absurd (let none : ⊥ = cc in none)

still_open : (event : ℕ) (frames : List Sent) (link : Link) → list_any (λ sent. is_close sent.frame) frames ≡ false → (sends event frames link).is_open ≡ link.is_open
still_open event frames link none = by (list_any (λ sent. is_close sent.frame) frames) none
  where
    sending : Link
    sending = record link { sent = link.sent ++ frames; up = link.up ++ frames }

    open_of : Link → Bool
    open_of one = one.is_open

    by : (closes : Bool) → closes ≡ false → open_of (if closes then ends event sending else sending) ≡ link.is_open
    by true is = absurd (let never : ⊥ = cc in never)
    by false is = refl

module _ (t : Traced) (inv : Orderly t) (who : ℕ) where
  abbrev m : Machine
  m = t.machine

  abbrev now : Machine
  now = at_event t.machine

  held_before : (number : ℕ) (client : Client) (doing : Doing) → client_at t.machine.clients number ≡ Some client → client.now ≡ Some doing → holds_rightly t.machine.links (record { client = number; place = length client.past }) doing ≡ true
  held_before number client doing here is = doing_course (is_held t) t number client doing inv.hold.held here is

  orderly : list_all is_orderly t.machine.links ≡ true
  orderly = all_orderly t.machine.links inv.wire.sent inv.wire.replies inv.wire.handled inv.basic.life

  -- no more calls are recorded than may be
  few_now : (client : Client) (doing : Doing) → client_at t.machine.clients who ≡ Some client → client.now ≡ Some doing → records_few t.setting.terms doing.talk.phase ≡ true
  few_now client doing here is =
      let talking : Talks t.setting.terms false doing = by client.now is (talks_at t.setting.terms t.machine.clients who client inv.script.talks here).1 in
      subst (λ (talk : Talk). records_few t.setting.terms talk.phase ≡ true) talking.stands (talk_few t.setting.terms (first_talk doing.request) (inputs_of doing.steps) refl)
    where
      by : (found : Option Doing) → found ≡ Some doing → IsTalking t.setting.terms found → Talks t.setting.terms false doing
      by None is talks = absurd (let none : ⊥ = cc in none)
      by (Some one) is talks = let same : one ≡ doing = cc in subst (λ (d : Doing). Talks t.setting.terms false d) same talks

  open_is : (doing : Doing) (connection : ℕ) (link : Link) (alive : Bool) → doing.connection ≡ Some connection → link_at t.machine.links connection ≡ Some link → link.is_open ≡ alive → on_open t.machine.links doing.connection ≡ alive
  open_is doing connection link alive has there is = ap (on_open t.machine.links) has ∙ (ap (λ (f : Option Link). option_map_or (λ l. l.is_open) f true) there ∙ is)

  pub loses_one : (doing : Doing) (connection : ℕ) (link : Link) (ends : Option ℕ) → IsDoing t.setting now who doing wants.Frame → doing.connection ≡ Some connection → link_at t.machine.links connection ≡ Some link → link.is_open ≡ false
      → Went t who (loses t.setting now who doing ends)
  loses_one doing connection link ends is has there closed =
      went_step t inv who n doing wants.Frame is after hold.Keep refl refl refl (omega arith)
      (loses_step t.setting now held_before (held_now t inv).idle orderly t.machine.event inv.basic.ended who doing (unwrap_or ends 0) n is refl refl).others
      (not_idle t.setting.terms doing.talk t.machine.tick wants.Frame is.wants (λ e. let none : ⊥ = cc in none)) (λ keep. keeps)
    where
      n : Machine
      n = loses t.setting now who doing ends

      after : Doing
      after = heard t.setting.terms now.event now.tick (record doing { connection = None }) (Gone (unwrap_or ends 0))

      keeps : doing_rounds t.setting n true after ≤ talk_rounds t.setting.terms t.machine.tick (on_open t.machine.links doing.connection) doing.talk
      keeps =
          let less : rounds_by t.setting.terms t.machine.tick true doing.talk.last_try (length doing.talk.left) (lost_to doing.talk.phase (unwrap_or ends 0)) + 1 ≤ rounds_by t.setting.terms t.machine.tick false doing.talk.last_try (length doing.talk.left) doing.talk.phase =
          loss_rounds t.setting.terms t.machine.tick doing.talk.last_try (length doing.talk.left) (unwrap_or ends 0) doing.talk.phase (frame_holds t.setting.terms doing.talk doing.talk.phase t.machine.tick is.wants) in
          doing_most t.setting n after (talk_rounds t.setting.terms t.machine.tick (on_open t.machine.links doing.connection) doing.talk)
          (subst (λ (o : Bool). rounds_by t.setting.terms t.machine.tick true doing.talk.last_try (length doing.talk.left) (lost_to doing.talk.phase (unwrap_or ends 0)) + 1 ≤ talk_rounds t.setting.terms t.machine.tick o doing.talk) (sym (open_is doing connection link false has there closed)) less)

  module _ (doing : Doing) (connection : ℕ) (link : Link) (reply : Reply) (left : List Reply) (is : IsDoing t.setting now who doing wants.Frame) (has : doing.connection ≡ Some connection) (there : link_at t.machine.links connection ≡ Some link)
      (down : link.down ≡ reply ∷ left) where
    abbrev step : Step
    step = taken_by t.setting.terms doing.talk doing.talk.phase reply.frame link.is_open t.machine.tick

    abbrev a_then : Machine
    a_then = takes_one t.setting now who doing connection link reply left

    abbrev next_then : Doing
    next_then = heard t.setting.terms now.event now.tick doing (Took reply.frame link.is_open)

    abbrev rounds_before : ℕ
    rounds_before = talk_rounds t.setting.terms t.machine.tick (on_open t.machine.links doing.connection) doing.talk

    now_is : is.client.now ≡ Some doing
    now_is = frame_now t.setting now who doing is

    spoken : Spoken doing.talk.phase (has_next doing.talk) link.is_open (is_hushed reply.frame) step.0.phase step.1.send step.1.hold
    spoken = said t.setting.terms doing.talk doing.talk.phase reply.frame link.is_open t.machine.tick refl

    loud : link.is_open ≡ true → is_hushed reply.frame ≡ false
    loud opens = taken_loud link reply left (at_link is_orderly t.machine.links connection link orderly there) (open_living t.machine.event link (at_link (ends_at t.machine.event) t.machine.links connection link inv.basic.ended there) opens) down

    less_then : (event : ℕ) → step.1.hold ≡ hold.Keep → rounds_by t.setting.terms t.machine.tick true step.0.last_try (length step.0.left) (behind link.is_open event step.0.phase) + 1
        ≤ rounds_by t.setting.terms t.machine.tick link.is_open doing.talk.last_try (length doing.talk.left) doing.talk.phase
    less_then event keep =
        takes_rounds t.setting.terms t.machine.tick doing.talk doing.talk.phase reply.frame link.is_open t.machine.tick event refl (frame_holds t.setting.terms doing.talk doing.talk.phase t.machine.tick is.wants) loud (few_now is.client doing is.here now_is) keep

    few_links : links_work a_then.links ≤ links_work t.machine.links + 2
    few_links =
        let taken : links_work (with_link t.machine.links connection (takes (Took reply.frame link.is_open) reply left link)) ≤ links_work t.machine.links = takes_work t.machine.links connection link (takes (Took reply.frame link.is_open) reply left link) there refl in
        let sent : links_work a_then.links ≤ links_work (with_link t.machine.links connection (takes (Took reply.frame link.is_open) reply left link)) + 2 =
        steps_work now.event _ (with_link t.machine.links connection (takes (Took reply.frame link.is_open) reply left link)) (connection_of doing) 2
        (mapped_few (sent_by (owner_at now who) (call_in next_then.talk.phase)) _ 2 (few_frames doing.talk.phase (has_next doing.talk) link.is_open (is_hushed reply.frame) step.0.phase step.1.send step.1.hold (give_back_answer t.machine.pool (connection_of doing)) spoken)) in
        omega (arith, taken, sent)

    stepped : (alive : Bool) → link.is_open ≡ alive → Stepped now who is.client (if alive then a_then else lost_at_once t.setting a_then who link.ended (doing_at a_then.clients who))
    stepped alive opens =
        takes_step t.setting now held_before (held_now t inv).idle orderly t.machine.event inv.basic.ended who connection doing link reply left is has there down
        (doing_course (is_by_held t) t who is.client doing inv.hold.by_held is.here now_is) (again_now t inv who connection is.client doing link reply left is.here now_is has there down)
        a_then link.ended alive opens refl refl refl refl

    other_phase : doing.talk.phase ≡ Idle → ⊥
    other_phase = not_idle t.setting.terms doing.talk t.machine.tick wants.Frame is.wants (λ e. let none : ⊥ = cc in none)

    -- ON A CONNECTION THAT IS OPEN ----------------------------------------------------------------

    alive_keeps : link.is_open ≡ true → step.1.hold ≡ hold.Keep → doing_rounds t.setting a_then true next_then ≤ rounds_before
    alive_keeps opens keep =
        doing_most t.setting a_then next_then rounds_before
        (let before : rounds_before ≡ talk_rounds t.setting.terms t.machine.tick true doing.talk = ap (λ (o : Bool). talk_rounds t.setting.terms t.machine.tick o doing.talk) (open_is doing connection link true has there opens) in
        let less : talk_rounds t.setting.terms t.machine.tick true step.0 + 1 ≤ talk_rounds t.setting.terms t.machine.tick true doing.talk =
        subst (λ (b : Bool). rounds_by t.setting.terms t.machine.tick true step.0.last_try (length step.0.left) (behind b 0 step.0.phase) + 1 ≤ rounds_by t.setting.terms t.machine.tick b doing.talk.last_try (length doing.talk.left) doing.talk.phase) opens (less_then 0 keep) in
        let same : talk_rounds t.setting.terms t.machine.tick (on_open a_then.links doing.connection) step.0 ≤ talk_rounds t.setting.terms t.machine.tick true step.0 =
        ends_same t.setting.terms t.machine.tick (on_open a_then.links doing.connection) true step.0 opens_then in
        omega (arith, before, less, same))
      where
        frames : List Sent
        frames = map (sent_by (owner_at now who) (call_in next_then.talk.phase)) (step.1.send ++ closing step.1.hold (give_back_answer t.machine.pool (connection_of doing)))

        taken : Link
        taken = takes (Took reply.frame link.is_open) reply left link

        number_is : connection_of doing ≡ connection
        number_is = ap (λ (one : Option ℕ). unwrap_or one 0) has

        found : link_at a_then.links connection ≡ Some (sends now.event frames taken)
        found =
            ap (λ (k : ℕ). link_at (changed (sends now.event frames) (with_link t.machine.links connection taken) k) connection) number_is
            ∙ changed_own (sends now.event frames) (with_link t.machine.links connection taken) connection taken (with_own t.machine.links connection link taken there)

        opens_then : awaits_no_call step.0.phase ≡ true → on_open a_then.links doing.connection ≡ true
        opens_then awaits =
            let none : list_any (λ sent. is_close sent.frame) frames ≡ false =
            none_close (owner_at now who) (call_in next_then.talk.phase) doing.talk.phase (has_next doing.talk) (is_hushed reply.frame) step.0.phase step.1.send step.1.hold (give_back_answer t.machine.pool (connection_of doing))
            (subst (λ (b : Bool). Spoken doing.talk.phase (has_next doing.talk) b (is_hushed reply.frame) step.0.phase step.1.send step.1.hold) opens spoken) keep (loud opens) awaits in
            ap (on_open a_then.links) has ∙ (ap (λ (f : Option Link). option_map_or (λ l. l.is_open) f true) found ∙ (still_open now.event frames taken none ∙ opens))

    alive_went : link.is_open ≡ true → Went t who a_then
    alive_went opens = went_step t inv who a_then doing wants.Frame is next_then step.1.hold refl refl refl few_links (stepped true opens).others other_phase (alive_keeps opens)

    -- ON ONE THAT HAS ENDED -----------------------------------------------------------------------

    abbrev gone_then : Doing
    gone_then = heard t.setting.terms now.event now.tick (record next_then { connection = None }) (Gone (unwrap_or link.ended 0))

    set_then : (held : Hold) → step.1.hold ≡ held → a_then.clients ≡ with_client t.machine.clients who (after_hold t.setting who is.client next_then held)
    set_then held hold_is = stepped_client t.setting t.machine.clients who is.client next_then step.1.hold is.here ∙ ap (λ (h : Hold). with_client t.machine.clients who (after_hold t.setting who is.client next_then h)) hold_is

    found_then : (held : Hold) → step.1.hold ≡ held → client_at a_then.clients who ≡ Some (after_hold t.setting who is.client next_then held)
    found_then held hold_is = ap (λ (all : List Client). client_at all who) (set_then held hold_is) ∙ client_set t.machine.clients who is.client (after_hold t.setting who is.client next_then held) is.here

    doing_then : (held : Hold) → step.1.hold ≡ held → doing_at a_then.clients who ≡ (after_hold t.setting who is.client next_then held).now
    doing_then held hold_is = ap (λ (one : Option Client). option_and_then (λ (c : Client). c.now) one) (found_then held hold_is)

    over_went : link.is_open ≡ false → (held : Hold) → step.1.hold ≡ held → (held ≡ hold.Keep → ⊥) → (after_hold t.setting who is.client next_then held).now ≡ None → Went t who (lost_at_once t.setting a_then who link.ended (doing_at a_then.clients who))
    over_went closed held hold_is other none =
        let no_one : doing_at a_then.clients who ≡ None = doing_then held hold_is ∙ none in
        subst (λ (lost : Option Doing). Went t who (lost_at_once t.setting a_then who link.ended lost)) (sym no_one)
        (went_step t inv who a_then doing wants.Frame is next_then step.1.hold refl refl refl few_links
        (subst (λ (lost : Option Doing). Stepped now who is.client (lost_at_once t.setting a_then who link.ended lost)) no_one (stepped false closed)).others other_phase (λ keep. absurd (other (sym hold_is ∙ keep))))

    gone_keeps : link.is_open ≡ false → step.1.hold ≡ hold.Keep → doing_rounds t.setting (loses t.setting a_then who next_then link.ended) true gone_then ≤ rounds_before
    gone_keeps closed keep =
        doing_most t.setting (loses t.setting a_then who next_then link.ended) gone_then rounds_before
        (let before : rounds_before ≡ talk_rounds t.setting.terms t.machine.tick false doing.talk = ap (λ (o : Bool). talk_rounds t.setting.terms t.machine.tick o doing.talk) (open_is doing connection link false has there closed) in
        let less : rounds_by t.setting.terms t.machine.tick true step.0.last_try (length step.0.left) (lost_to step.0.phase (unwrap_or link.ended 0)) + 1 ≤ talk_rounds t.setting.terms t.machine.tick false doing.talk =
        subst (λ (b : Bool). rounds_by t.setting.terms t.machine.tick true step.0.last_try (length step.0.left) (behind b (unwrap_or link.ended 0) step.0.phase) + 1 ≤ rounds_by t.setting.terms t.machine.tick b doing.talk.last_try (length doing.talk.left) doing.talk.phase) closed (less_then (unwrap_or link.ended 0) keep) in
        omega (arith, before, less))

    gone_went : link.is_open ≡ false → step.1.hold ≡ hold.Keep → Went t who (lost_at_once t.setting a_then who link.ended (doing_at a_then.clients who))
    gone_went closed keep =
        let one : doing_at a_then.clients who ≡ Some next_then = doing_then hold.Keep keep in
        let twice : (loses t.setting a_then who next_then link.ended).clients ≡ after_step t.setting t.machine.clients who gone_then hold.Keep =
        stepped_client t.setting a_then.clients who (record is.client { now = Some next_then }) gone_then hold.Keep (found_then hold.Keep keep)
        ∙ (ap (λ (all : List Client). with_client all who (record is.client { now = Some gone_then })) (set_then hold.Keep keep)
        ∙ (client_twice t.machine.clients who (record is.client { now = Some next_then }) (record is.client { now = Some gone_then })
        ∙ sym (stepped_client t.setting t.machine.clients who is.client gone_then hold.Keep is.here))) in
        subst (λ (lost : Option Doing). Went t who (lost_at_once t.setting a_then who link.ended lost)) (sym one)
        (went_step t inv who (loses t.setting a_then who next_then link.ended) doing wants.Frame is gone_then hold.Keep twice refl refl few_links
        (subst (λ (lost : Option Doing). Stepped now who is.client (lost_at_once t.setting a_then who link.ended lost)) one (stepped false closed)).others other_phase (λ kept. gone_keeps closed keep))

    dead_went : link.is_open ≡ false → (held : Hold) → step.1.hold ≡ held → Went t who (lost_at_once t.setting a_then who link.ended (doing_at a_then.clients who))
    dead_went closed hold.Keep hold_is = gone_went closed hold_is
    dead_went closed hold.GiveBack hold_is = over_went closed hold.GiveBack hold_is (λ e. let none : ⊥ = cc in none) refl
    dead_went closed hold.Drop hold_is = over_went closed hold.Drop hold_is (λ e. let none : ⊥ = cc in none) refl

    either : (alive : Bool) → link.is_open ≡ alive → Went t who (if alive then a_then else lost_at_once t.setting a_then who link.ended (doing_at a_then.clients who))
    either true opens = alive_went opens
    either false closed = dead_went closed step.1.hold refl

    pub takes_it : Went t who (unless_open t.setting a_then who link)
    takes_it = either link.is_open refl
