-- Where a request has spoken on a connection, its session is one that was lent to it or whose Hello
-- it took, wherever a run has come to.
use Rattle.std.proofs.Common.{◌≡◌, ◌≢◌, refl, sym, ap, subst, ◌∙◌, Bool, true, false, ℕ, suc, zero, ◌+◌, ◌&&◌, ◌||◌, append_assoc, length, map, List, [], ◌∷◌, ◌++◌, Option, Some, None, ◌⊎◌, inl, inr, arith}
use Rattle.std.specs.Prelude.{not, option_map, unwrap_or}
use Rattle.std.specs.List.{list_all, cons_option}
use Rattle.std.specs.Option.{option_map_or, option_or}
use Rattle.std.proofs.lemmas.Bool.{and_parts, and_from, or_right}
use Rattle.std.proofs.lemmas.List.Folds.{list_any-append}
use Rattle.std.proofs.lemmas.Option.{slice_get_within}
use Rattle.svc_values.specs.declared.entry.Ltxid.{Ltxid}
use Rattle.svc_values.specs.declared.frame.Up.{Up}
use Rattle.svc_values.specs.declared.frame.Up.TheVariants as up
use Rattle.svc_values.specs.declared.frame.Down.{Down}
use Rattle.svc_values.specs.declared.frame.Down.TheVariants as down
use Rattle.svc_values.specs.meaning.Identifiers.{session_of}
use Rattle.pool_core.specs.meaning.Slots.{give_back_answer}
use Rattle.outage_schedule.specs.declared.document.Document.{Document}
use Rattle.outage_schedule.specs.declared.event.Event.{Event}
use Rattle.outage_schedule.specs.declared.item.Served.{Served}
use Rattle.outage_schedule.specs.declared.note.Note.{Note}
use Rattle.client_model.specs.declared.input.Input.{Input}
use Rattle.client_model.specs.declared.input.Input.TheVariants.{Lent, Took}
use Rattle.client_model.specs.Conversation.{is_wanted, is_gone, may_come}
use Rattle.client_model.specs.meaning.Talk.{takes, talk_step, wants_of}
use Rattle.client_model.specs.meaning.States.{Losing}
use Rattle.client_model.specs.meaning.Terms.{Phase, Idle, Unbegun, Queued, Seeking, Greeting, Asked, Running, Replaying}
use Rattle.client_model.specs.meaning.Verifying.{index_of}
use Rattle.run_clauses.specs.meaning.Reports.{reached}
use Rattle.server_model.specs.Seen.{Seen}
use Rattle.world_model.specs.meaning.Acting.{call_in, closing, frames_of, owner_at, sent_by}
use Rattle.world_model.specs.meaning.Clients.{Client, Step}
use Rattle.world_model.specs.records.Conversing.{connected}
use Rattle.world_model.specs.meaning.Frames.{Owner, Sent}
use Rattle.world_model.specs.records.Hold.{is_awaited}
use Rattle.world_model.specs.Orderly.{Orderly}
use Rattle.world_model.specs.meaning.Links.{Link, link_at, new_link, sends, takes as takes_reply, told_by}
use Rattle.world_model.specs.meaning.Machines.{Machine}
use Rattle.world_model.specs.meaning.Matching.{Noted}
use Rattle.world_model.specs.meaning.Outside.{closed_by_drain}
use Rattle.world_model.specs.Parts.{implies}
use Rattle.world_model.specs.Reached.{Reached, Begins, GoesOn}
use Rattle.world_model.specs.records.Ready.{all_requests_right}
use Rattle.world_model.specs.RunLaws.{RunsAreOrderly}
use Rattle.world_model.specs.Sames.{owned_by}
use Rattle.world_model.specs.meaning.Settings.{Setting, setting_of}
use Rattle.world_model.specs.Traced.{Traced, Course, courses_of, courses_of_clients}
use Rattle.world_model.specs.Words.{brought, held_in}
use Rattle.world_model.proofs.Offered.{append_all, weaker_all, HasStepped, Brings, NoneNew, IdleOne, NewOne, MayStep, Still, Closed, Stepped, happens_step, all_step, sends_alike, Followed, follow_happens, at_event, held_now, each_passes, resting_none, spoken_passes, Happens, IsDoing, moves_next_number as next_number, after_held, said_mine, slot_wanted, grown_at, link_sents, passes_from, passes_to, sents_at, sents_pass, spoken_others, spoken_own, is_strange, sent_lists, spoken, behind_first, first_doing, first_step, step_owner, slot_strange, other_owner, implies_more, ComesFrom, IsNew, IsOld, all_turn, either, some_same}
use Rattle.invariant_laws.proofs.Offered.{before_on, held_session, before_so, IsLent, lent_at, OnIt}
use Rattle.same_laws.proofs.SessionsTold.{Holding, has_spoken, holds_still, is_talk, reaches, reaches_more, reaches_now, talks_of, told_on}
use Rattle.same_laws.proofs.SpokenFrames.{ask_talks, AtFrame, AtLent, call_talks, closing_silent, greeted_hello, input_talks, last_any, others_silent, own_silent, taken_here, TakenHere, talking, TalksAt, turn_holding}

-- EVENTS ------------------------------------------------------------------------------------------

abbrev pub told_links : List Link → Course → Bool
told_links links course = list_all (λ number. option_map_or (told_on course.owner course.steps) (link_at links number) true) (held_in course.steps)

abbrev pub sessions_told : Traced → Bool
sessions_told t = list_all (told_links t.machine.links) (courses_of t)

not_spoken : (a b : Bool) → a ≡ false → implies a b ≡ true
not_spoken true b is = absurd (let none : ⊥ = cc in none)
not_spoken false b is = refl

module _ (t : Traced) (inv : Orderly t) (new : Traced) (inv_new : Orderly new) (setting : new.setting ≡ t.setting) (items left : List Served) (kind : Noted) (happens : Happens t.setting (at_event t.machine) items left kind new.machine)
    (old : sessions_told t ≡ true) where
  abbrev m : Machine
  m = at_event t.machine

  was_its : (number : ℕ) (link : Link) (x : Ltxid) → link_at t.machine.links number ≡ Some link → link.held ≡ Some x → link.session ≡ Some (session_of x)
  was_its number link x there held = held_session t inv.basic.named inv.basic.apart number link x there held

  next_its : (number : ℕ) (link : Link) (x : Ltxid) → link_at new.machine.links number ≡ Some link → link.held ≡ Some x → link.session ≡ Some (session_of x)
  next_its number link x there held = held_session new inv_new.basic.named inv_new.basic.apart number link x there held

  -- a connection becomes the next one
  data Comes (number : ℕ) (next : Link) : Type 0 where
    Fresh : next.held ≡ None → (owner : Owner) → next.sent ≡ sent_by owner 0 up.Connect ∷ [] → Comes number next
    Goes : (was : Link) → link_at t.machine.links number ≡ Some was → Holding was next → Comes number next

  comes : (number : ℕ) (next : Link) → link_at new.machine.links number ≡ Some next → Comes number next
  comes number next here = by (all_turn t.setting m (held_now t inv) items left kind new.machine happens number next here)
    where
      by : ComesFrom m items left kind number next → Comes number next
      by (IsNew owner same) =
          Fresh (ap (λ (l : Link). l.held) same ∙ sends_alike (λ l. l.held ≡ None) m.event (sent_by owner 0 up.Connect ∷ []) new_link refl refl) owner
          (ap (λ (l : Link). l.sent) same ∙ sends_alike (λ l. l.sent ≡ sent_by owner 0 up.Connect ∷ []) m.event (sent_by owner 0 up.Connect ∷ []) new_link refl refl)
      by (IsOld was there turn) = Goes was there (turn_holding m items left kind number was next turn)

  connect_silent : (owner other : Owner) → has_spoken owner (sent_by other 0 up.Connect ∷ []) ≡ false
  connect_silent owner other = own_silent owner other 0 (up.Connect ∷ []) refl

  next_sents : (number : ℕ) (next : Link) → link_at new.machine.links number ≡ Some next → sents_at (sent_lists new.machine.links) number ≡ Some next.sent
  next_sents number next here = link_sents new.machine.links number ∙ ap (λ (found : Option Link). option_map (λ (l : Link). l.sent) found) here

  was_sents : (number : ℕ) (was : Link) → link_at t.machine.links number ≡ Some was → sents_at (sent_lists m.links) number ≡ Some was.sent
  was_sents number was there = link_sents t.machine.links number ∙ ap (λ (found : Option Link). option_map (λ (l : Link). l.sent) found) there

  -- of a request that does not step
  alike : (course : Course) → ((number : ℕ) (test : List Sent → Bool) → ((sents more : List Sent) → has_spoken course.owner more ≡ false → test sents ≡ true → test (sents ++ more) ≡ true) → sents_pass test (sent_lists m.links) number ≡ true
      → sents_pass test (sent_lists new.machine.links) number ≡ true) → told_links t.machine.links course ≡ true → told_links new.machine.links course ≡ true
  alike course goes here =
      weaker_all (λ number. option_map_or (told_on course.owner course.steps) (link_at t.machine.links number) true) (λ number. option_map_or (told_on course.owner course.steps) (link_at new.machine.links number) true) (held_in course.steps)
      (λ number so. now number so (link_at new.machine.links number) refl) here
    where
      now : (number : ℕ) → option_map_or (told_on course.owner course.steps) (link_at t.machine.links number) true ≡ true → (found : Option Link) → link_at new.machine.links number ≡ found → option_map_or (told_on course.owner course.steps) found true ≡ true
      now number so None is = refl
      now number so (Some next) is = by (comes number next is)
        where
          told : Bool
          told = option_map_or (λ x. reaches course.steps (session_of x)) next.held false

          by : Comes number next → told_on course.owner course.steps next ≡ true
          by (Fresh none owner sent) = not_spoken (has_spoken course.owner next.sent) told (ap (has_spoken course.owner) sent ∙ connect_silent course.owner owner)
          by (Goes was there holding) =
              let test : List Sent → Bool = λ sents. implies (has_spoken course.owner sents) told in
              let before : told_on course.owner course.steps was ≡ true = sym (ap (λ (found : Option Link). option_map_or (told_on course.owner course.steps) found true) there) ∙ so in
              let first : test was.sent ≡ true =
              implies_more (has_spoken course.owner was.sent) (option_map_or (λ x. reaches course.steps (session_of x)) was.held false) told
              (holds_still course.steps was next (λ x held. was_its number was x there held) (λ x held. next_its number next x is held) holding) before in
              let passes = passes_from test (sent_lists new.machine.links) number
              (goes number test
              (λ sents more none passes. ap (λ (spoken : Bool). implies spoken told) (list_any-append (talks_of course.owner) sents more ∙ (ap (λ (b : Bool). has_spoken course.owner sents || b) none ∙ or_none (has_spoken course.owner sents))) ∙ passes)
              (passes_to test (sent_lists m.links) number was.sent (was_sents number was there) first)) in
              let e : Some passes.sents ≡ Some next.sent = sym passes.there ∙ next_sents number next is in
              let same : passes.sents ≡ next.sent = cc in
              subst (λ (sents : List Sent). test sents ≡ true) same passes.passes
            where
              or_none : (b : Bool) → (b || false) ≡ b
              or_none true = refl
              or_none false = refl

  -- of the one that steps
  module _ (number : ℕ) (step : HasStepped t.setting m number new.machine) where
    abbrev mine : Owner
    mine = record { client = number; place = length step.client.past }

    abbrev phase : Phase
    phase = step.before.talk.phase

    abbrev one : Step
    one = first_step t.setting m inv.script.talks number new.machine step

    abbrev said : List Sent
    said = map (sent_by (owner_at m number) (call_in (first_doing t.setting m inv.script.talks number new.machine step).talk.phase)) (frames_of step.pool (unwrap_or step.connection 0) one.done.act)

    said_silent : talking one.done.act.send ≡ false → has_spoken mine said ≡ false
    said_silent silent =
        ap (has_spoken mine) (said_mine t.setting m inv.script.talks number new.machine step)
        ∙ (list_any-append (talks_of mine) (map (sent_by mine place) one.done.act.send) (map (sent_by mine place) ends)
        ∙ (ap (λ (b : Bool). b || has_spoken mine (map (sent_by mine place) ends)) (own_silent mine mine place one.done.act.send silent)
        ∙ own_silent mine mine place ends (closing_silent one.done.act.hold (give_back_answer step.pool (unwrap_or step.connection 0)))))
      where
        place : ℕ
        place = call_in (first_doing t.setting m inv.script.talks number new.machine step).talk.phase

        ends : List Up
        ends = closing one.done.act.hold (give_back_answer step.pool (unwrap_or step.connection 0))

    steps_are : (more : List Step) × (step.after.steps ≡ step.before.steps ++ one ∷ more)
    steps_are =
        let behind = behind_first t.setting m inv.script.talks number new.machine step in
        (behind.more, behind.are ∙ append_assoc step.before.steps (one ∷ []) behind.more)

    strange : (connection : ℕ) (link : Link) (x : Ltxid) → step.input ≡ Lent connection x → link_at m.links connection ≡ Some link → is_strange mine link ≡ true
    strange connection link x is there =
        let may : may_come false (wants_of t.setting.terms step.before.talk m.tick) (Lent connection x) ≡ true = subst (λ (i : Input). may_come false (wants_of t.setting.terms step.before.talk m.tick) i ≡ true) is step.may in
        let wanted = (and_parts (is_wanted (wants_of t.setting.terms step.before.talk m.tick) (Lent connection x)) (is_gone (Lent connection x) || not false) may).0 in
        let doing : IsDoing t.setting m number step.before _ = record { client = step.client; here = step.here; does = step.does; wants = slot_wanted (wants_of t.setting.terms step.before.talk m.tick) connection x wanted } in
        subst (λ (owner : Owner). is_strange owner link ≡ true) (step_owner t.setting m inv.script.talks number new.machine step) (slot_strange t m number step.before connection link refl refl inv.script.ready inv.script.owned doing there)

    strange_silent : (sents : List Sent) → list_all (λ (sent : Sent). not (owned_by mine sent)) sents ≡ true → has_spoken mine sents ≡ false
    strange_silent [] all = refl
    strange_silent (sent ∷ sents) all =
        let parts = and_parts (not (owned_by mine sent)) (list_all (λ (s : Sent). not (owned_by mine s)) sents) all in by (owned_by mine sent) parts.0 (strange_silent sents parts.1)
      where
        by : (own : Bool) → not own ≡ true → has_spoken mine sents ≡ false → ((own && is_talk sent.frame) || has_spoken mine sents) ≡ false
        by true is rest = absurd (let none : ⊥ = cc in none)
        by false is rest = rest

    abbrev told : Link → Bool
    told next = option_map_or (λ x. reaches step.after.steps (session_of x)) next.held false

    -- the step brings the session
    told_now : (next : Link) (x : Ltxid) → next.held ≡ Some x → reached step.input ≡ Some (session_of x) → told next ≡ true
    told_now next x held is =
        ap (λ (found : Option Ltxid). option_map_or (λ y. reaches step.after.steps (session_of y)) found false) held
        ∙ subst (λ (steps : List Step). reaches steps (session_of x) ≡ true) (sym steps_are.1) (reaches_now step.before.steps one steps_are.0 x is)

    module _ (at : ℕ) (was : Link) (there : link_at t.machine.links at ≡ Some was) (next : Link) (here : link_at new.machine.links at ≡ Some next) (silent : has_spoken mine was.sent ≡ false) (has : step.connection ≡ Some at)
        (says : talking one.done.act.send ≡ true) where
      spoke_before : (it : OnIt m.links mine step.before.connection phase) → it.link ≡ was → is_talk it.last.frame ≡ true → told next ≡ true
      spoke_before it same talk = by (last_any (talks_of mine) None it.link.sent it.last it.is (and_from (owned_by mine it.last) (is_talk it.last.frame) it.mine talk))
        where
          by : (None ≡ Some it.last) ⊎ (has_spoken mine it.link.sent ≡ true) → told next ≡ true
          by (inl never) = absurd (let none : ⊥ = cc in none)
          by (inr spoken) = absurd (let both : has_spoken mine was.sent ≡ true = subst (λ (l : Link). has_spoken mine l.sent ≡ true) same spoken in let none : ⊥ = cc in none)

      by_frame : (frame : Down) (alive : Bool) → step.input ≡ Took frame alive → told next ≡ true
      by_frame frame alive input = phases phase refl
        where
          held : step.before.connection ≡ Some at
          held = ap (connected step.before.connection) (sym input) ∙ (step.connects ∙ has)

          it : OnIt m.links mine step.before.connection phase
          it = before_on t m number new.machine step step.here inv.hold.held inv.wire.grammar at held

          number_same : it.number ≡ at
          number_same = let e : Some it.number ≡ Some at = sym it.has ∙ held in let same : it.number ≡ at = cc in same

          link_same : it.link ≡ was
          link_same = some_same (link_at m.links at) it.link was (ap (link_at m.links) (sym number_same) ∙ it.there) there

          awaited : (p : Phase) → phase ≡ p → is_awaited p it.last ≡ true
          awaited p is = subst (λ (q : Phase). is_awaited q it.last ≡ true) is it.awaited

          greeted : (lost : Option Losing) → phase ≡ Greeting lost → told next ≡ true
          greeted lost is =
              told_now next hello.0
              (ap (λ (l : Link). l.held) next_is
              ∙ (sends_alike (λ l. l.held ≡ option_or (told_by (Took taken.reply.frame taken.link.is_open)) taken.link.held) m.event said (takes_reply (Took taken.reply.frame taken.link.is_open) taken.reply taken.later taken.link) refl refl
              ∙ ap (λ (f : Down). option_or (told_by (Took f taken.link.is_open)) taken.link.held) (taken.is ∙ hello.1)))
              (ap reached (input ∙ ap (λ (f : Down). Took f alive) hello.1))
            where
              hello : (x : Ltxid) × (frame ≡ down.Hello x)
              hello =
                  greeted_hello t.setting.terms step.before.talk lost frame alive m.tick
                  (subst (λ (q : Phase). talking (takes t.setting.terms step.before.talk q frame alive m.tick).1.send ≡ true) is (subst (λ (i : Input). talking (talk_step t.setting.terms step.before.talk i m.tick).1.send ≡ true) input says))

              taken : TakenHere m new.machine said step.before.connection frame
              taken = taken_here t.setting m new.machine number _ _ said step.after step.before.connection step.input step.heard_on frame alive input

              at_same : taken.number ≡ at
              at_same = let e : Some taken.number ≡ Some at = sym taken.has ∙ held in let same : taken.number ≡ at = cc in same

              next_is : next ≡ sends m.event said (takes_reply (Took taken.reply.frame taken.link.is_open) taken.reply taken.later taken.link)
              next_is = some_same (link_at new.machine.links at) next _ here (ap (link_at new.machine.links) (sym at_same) ∙ taken.next)

          phases : (p : Phase) → phase ≡ p → told next ≡ true
          phases (Greeting lost) is = greeted lost is
          phases (Asked asking) is = spoke_before it link_same (ask_talks asking.ltxid it.last.frame (awaited (Asked asking) is))
          phases (Running state) is = spoke_before it link_same (call_talks false state.track.call it.last it.last.frame (awaited (Running state) is))
          phases (Replaying state) is = spoke_before it link_same (call_talks true (index_of state) it.last it.last.frame (awaited (Replaying state) is))
          phases Idle is = absurd (let e : is_awaited Idle it.last ≡ true = awaited Idle is in let none : ⊥ = cc in none)
          phases Unbegun is = absurd (let e : is_awaited Unbegun it.last ≡ true = awaited Unbegun is in let none : ⊥ = cc in none)
          phases (Queued from) is = absurd (let e : is_awaited (Queued from) it.last ≡ true = awaited (Queued from) is in let none : ⊥ = cc in none)
          phases (Seeking lost) is = absurd (let e : is_awaited (Seeking lost) it.last ≡ true = awaited (Seeking lost) is in let none : ⊥ = cc in none)

      by_input : (input : Input) → step.input ≡ input → TalksAt input → told next ≡ true
      by_input _ is (AtFrame frame alive) = by_frame frame alive is
      by_input _ is (AtLent connection x) =
          let lent : IsLent t.setting m number new.machine step connection x = lent_at t.setting m number new.machine step connection x is in
          let e : Some connection ≡ Some at = ap (connected step.before.connection) (sym is) ∙ (step.connects ∙ has) in
          let same : connection ≡ at = cc in
          let next_is : next ≡ sends m.event said lent.link = some_same (link_at new.machine.links at) next (sends m.event said lent.link) here (ap (link_at new.machine.links) (sym same) ∙ lent.next) in
          told_now next x (ap (λ (l : Link). l.held) next_is ∙ (sends_alike (λ l. l.held ≡ lent.link.held) m.event said lent.link refl refl ∙ lent.held)) (ap reached is)

      pub told_by_step : told next ≡ true
      told_by_step = by_input step.input refl (input_talks t.setting.terms step.before.talk step.input m.tick says)

    -- a connection that the request held, or is given
    next_told : (at : ℕ) (was : Link) → link_at t.machine.links at ≡ Some was → told_on mine step.before.steps was ≡ true → (next : Link) → link_at new.machine.links at ≡ Some next → Holding was next → told_on mine step.after.steps next ≡ true
    next_told at was there before next here holding = by (has_spoken mine was.sent) refl before
      where
        grown : sents_at step.lists at ≡ Some was.sent
        grown = grown_at (sent_lists m.links) step.lists at was.sent step.grows (was_sents at was there)

        now : sents_at (spoken step.lists (unwrap_or step.connection 0) said) at ≡ Some next.sent
        now = ap (λ (lists : List (List Sent)). sents_at lists at) (sym step.sent_are) ∙ next_sents at next here

        equal : (sents : List Sent) → sents_at (spoken step.lists (unwrap_or step.connection 0) said) at ≡ Some sents → next.sent ≡ sents
        equal sents is = let e : Some next.sent ≡ Some sents = sym now ∙ is in let same : next.sent ≡ sents = cc in same

        elsewhere : has_spoken mine was.sent ≡ false → sents_at (spoken step.lists (unwrap_or step.connection 0) said) at ≡ Some was.sent → told_on mine step.after.steps next ≡ true
        elsewhere silent is = not_spoken (has_spoken mine next.sent) (told next) (ap (has_spoken mine) (equal was.sent is) ∙ silent)

        spoken_here : has_spoken mine was.sent ≡ false → step.connection ≡ Some at → (says : Bool) → talking one.done.act.send ≡ says → told_on mine step.after.steps next ≡ true
        spoken_here silent has true says = or_right (not (has_spoken mine next.sent)) (told next) (told_by_step at was there next here silent has says)
        spoken_here silent has false says =
            not_spoken (has_spoken mine next.sent) (told next)
            (ap (has_spoken mine) (equal (was.sent ++ said) (ap (λ (c : Option ℕ). sents_at (spoken step.lists (unwrap_or c 0) said) at) has ∙ spoken_own step.lists at said was.sent grown))
            ∙ (list_any-append (talks_of mine) was.sent said ∙ (ap (λ (b : Bool). b || has_spoken mine said) silent ∙ said_silent says)))

        fresh : has_spoken mine was.sent ≡ false → (connection : Option ℕ) → step.connection ≡ connection → told_on mine step.after.steps next ≡ true
        fresh silent None is = elsewhere silent (ap (λ (c : Option ℕ). sents_at (spoken step.lists (unwrap_or c 0) said) at) is ∙ grown)
        fresh silent (Some connection) is = of (either at connection)
          where
            of : (at ≡ connection) ⊎ (at ≢ connection) → told_on mine step.after.steps next ≡ true
            of (inl same) = spoken_here silent (is ∙ ap Some (sym same)) (talking one.done.act.send) refl
            of (inr differ) = elsewhere silent (ap (λ (c : Option ℕ). sents_at (spoken step.lists (unwrap_or c 0) said) at) is ∙ (spoken_others step.lists connection at said differ ∙ grown))

        by : (spoken : Bool) → has_spoken mine was.sent ≡ spoken → implies spoken (option_map_or (λ x. reaches step.before.steps (session_of x)) was.held false) ≡ true → told_on mine step.after.steps next ≡ true
        by true is so =
            or_right (not (has_spoken mine next.sent)) (told next)
            (subst (λ (steps : List Step). option_map_or (λ x. reaches steps (session_of x)) next.held false ≡ true) (sym steps_are.1)
            (reaches_more step.before.steps (one ∷ steps_are.0) next.held
            (holds_still step.before.steps was next (λ x held. was_its at was x there held) (λ x held. next_its at next x here held) holding so)))
        by false is so = fresh is step.connection refl

    number_told : (at : ℕ) → ((was : Link) → link_at t.machine.links at ≡ Some was → told_on mine step.before.steps was ≡ true) → option_map_or (told_on mine step.after.steps) (link_at new.machine.links at) true ≡ true
    number_told at before = by (link_at new.machine.links at) refl
      where
        by : (found : Option Link) → link_at new.machine.links at ≡ found → option_map_or (told_on mine step.after.steps) found true ≡ true
        by None is = refl
        by (Some next) is = of (comes at next is)
          where
            of : Comes at next → told_on mine step.after.steps next ≡ true
            of (Fresh none owner sent) = not_spoken (has_spoken mine next.sent) (told next) (ap (has_spoken mine) sent ∙ connect_silent mine owner)
            of (Goes was there holding) = next_told at was there (before was there) next is holding

    too_far : (links : List Link) (at : ℕ) (was : Link) → at ≡ length links + 1 → link_at links at ≡ Some was → ⊥
    too_far links zero was at there = let never : ⊥ = omega (arith, at) in never
    too_far links (suc index) was at there = let within = slice_get_within links index was there in let never : ⊥ = omega (arith, at, within) in never

    brought_told : (input : Input) → step.input ≡ input → Brings m step.lists input → list_all (λ at. option_map_or (told_on mine step.after.steps) (link_at new.machine.links at) true) (cons_option (brought input) []) ≡ true
    brought_told _ is (NoneNew input none) = ap (λ (found : Option ℕ). list_all (λ at. option_map_or (told_on mine step.after.steps) (link_at new.machine.links at) true) (cons_option found [])) none
    brought_told _ is (IdleOne connection x link there) =
        and_from (option_map_or (told_on mine step.after.steps) (link_at new.machine.links connection) true) true
        (number_told connection (λ was found. not_spoken (has_spoken mine was.sent) (option_map_or (λ y. reaches step.before.steps (session_of y)) was.held false) (strange_silent was.sent (strange connection was x is found)))) refl
    brought_told _ is (NewOne more) =
        and_from (option_map_or (told_on mine step.after.steps) (link_at new.machine.links (next_number m)) true) true
        (number_told (next_number m) (λ was found. absurd (too_far t.machine.links (next_number m) was refl found))) refl

    mine_told : list_all (λ at. option_map_or (told_on mine step.after.steps) (link_at new.machine.links at) true) (held_in step.after.steps) ≡ true
    mine_told =
        ap (list_all (λ at. option_map_or (told_on mine step.after.steps) (link_at new.machine.links at) true)) (after_held t.setting m inv.script.talks number new.machine step)
        ∙ append_all (λ at. option_map_or (told_on mine step.after.steps) (link_at new.machine.links at) true) (held_in step.before.steps) (cons_option (brought step.input) [])
        (weaker_all (λ at. option_map_or (told_on mine step.before.steps) (link_at t.machine.links at) true) (λ at. option_map_or (told_on mine step.after.steps) (link_at new.machine.links at) true) (held_in step.before.steps)
        (λ at so. number_told at (λ was there. sym (ap (λ (found : Option Link). option_map_or (told_on mine step.before.steps) found true) there) ∙ so))
        (before_so t inv number new.machine step (told_links t.machine.links) old (λ request. refl)))
        (brought_told step.input refl step.brings)

    others_told : (course : Course) → course.owner ≢ mine → told_links t.machine.links course ≡ true → told_links new.machine.links course ≡ true
    others_told course differs =
        alike course
        (λ at test more here.
        let is = passes_from test (sent_lists m.links) at here in
        subst (λ (lists : List (List Sent)). sents_pass test lists at ≡ true) (sym step.sent_are)
        (spoken_passes test said (λ sents so. more sents said none so) step.lists (unwrap_or step.connection 0) at (passes_to test step.lists at is.sents (grown_at (sent_lists m.links) step.lists at is.sents step.grows is.there) is.passes)))
      where
        none : has_spoken course.owner said ≡ false
        none =
            others_silent course.owner (owner_at m number) (call_in (first_doing t.setting m inv.script.talks number new.machine step).talk.phase) (frames_of step.pool (unwrap_or step.connection 0) one.done.act)
            (other_owner course.owner (owner_at m number) (λ same. differs (same ∙ step_owner t.setting m inv.script.talks number new.machine step)))

  may_tell : MayStep t.setting m new.machine → list_all (told_links new.machine.links) (courses_of_clients t.setting 1 new.machine.clients) ≡ true
  may_tell (Still same sents) =
      subst (λ (c : List Client). list_all (told_links new.machine.links) (courses_of_clients t.setting 1 c) ≡ true) (sym same)
      (weaker_all (told_links t.machine.links) (told_links new.machine.links) (courses_of t) (λ course. alike course (λ at test more here. subst (λ (lists : List (List Sent)). sents_pass test lists at ≡ true) (sym sents) here)) old)
  may_tell (Closed same sents) =
      subst (λ (c : List Client). list_all (told_links new.machine.links) (courses_of_clients t.setting 1 c) ≡ true) (sym same)
      (weaker_all (told_links t.machine.links) (told_links new.machine.links) (courses_of t)
      (λ course. alike course
      (λ at test more here. subst (λ (lists : List (List Sent)). sents_pass test lists at ≡ true) (sym sents)
      (each_passes test (closed_by_drain ∷ []) (λ all so. more all (closed_by_drain ∷ []) refl so) (sent_lists m.links) m.pool.idle at here))) old)
  may_tell (Stepped number step) =
      all_step t.setting (told_links t.machine.links) (told_links new.machine.links) (record { client = number; place = length step.client.past }) (others_told number step) m number new.machine step refl
      (λ keep. mine_told number step) (λ over. mine_told number step) old

-- A RUN -------------------------------------------------------------------------------------------

pub runs_tell : RunsAreOrderly → (document : Document) (events : List Event) (notes : List Note) (items : List Served) (seen : Seen) (t : Traced) → all_requests_right document ≡ true → Reached document events notes items seen t → sessions_told t ≡ true
runs_tell orderly document _ _ _ _ _ calls (Begins seen start history horizon coupled) = resting_none (setting_of document) 1 (told_links []) document.clients
runs_tell orderly document _ _ _ _ _ calls (GoesOn events notes items more before after old new event note reached one forgets) =
    let by : Followed old.setting old.machine event note more [] new.machine = follow_happens old.setting old.machine event note more [] new.machine one.follows in
    subst (λ (setting : Setting). list_all (told_links new.machine.links) (courses_of_clients setting 1 new.machine.clients) ≡ true) (sym one.setting)
    (may_tell old (orderly document events notes items before old calls reached) new (orderly document _ _ _ after new calls (GoesOn events notes items more before after old new event note reached one forgets)) one.setting more [] by.kind by.happens
    (runs_tell orderly document events notes items before old calls reached) (happens_step old.setting (at_event old.machine) more [] by.kind new.machine by.happens))
