-- Of Script: the sendings of a request are the unmarked calls that it sent, at the start and behind
-- each event.
use Rattle.std.proofs.Common.{◌≡◌, ◌≢◌, refl, sym, ap, subst, ◌∙◌, Bool, true, false, ℕ, suc, zero, ◌+◌, ◌&&◌, ◌||◌, fold, length, List, [], ◌∷◌, ◌++◌, map, Option, Some, None, arith}
use Rattle.std.specs.Prelude.{◌==◌, not, unwrap_or, option_map, if◌then◌else◌}
use Rattle.std.specs.List.{list_all, list_any, cons_option}
use Rattle.std.specs.Option.{option_or}
use Rattle.std.specs.Cmp.Lexicographic.{pointwise}
use Rattle.std.proofs.lemmas.Bool.{and_parts, and_from}
use Rattle.std.proofs.lemmas.List.{append-nil}
use Rattle.std.proofs.lemmas.List.Elements.{filter-append}
use Rattle.outage_schedule.specs.declared.document.Client.{Client as Scripted}
use Rattle.outage_schedule.specs.declared.document.Request.{Request}
use Rattle.client_model.specs.declared.input.Input.{Input}
use Rattle.client_model.specs.declared.input.Input.TheVariants.{Lent}
use Rattle.client_model.specs.Conversation.{is_wanted, is_gone, may_come}
use Rattle.client_model.specs.meaning.Talk.{wants_of}
use Rattle.world_model.specs.meaning.Acting.{frames_of, sent_by, call_in, owner_at}
use Rattle.world_model.specs.meaning.Clients.{Doing, Client, begun, client_at, resting}
use Rattle.world_model.specs.records.Conversing.{AllTalk}
use Rattle.world_model.specs.meaning.Frames.{Owner, Sent}
use Rattle.world_model.specs.OrderlyLaws.{IsKept}
use Rattle.world_model.specs.meaning.Links.{Link, link_at}
use Rattle.world_model.specs.meaning.Machines.{Machine}
use Rattle.world_model.specs.meaning.Outside.{closed_by_drain}
use Rattle.world_model.specs.Parts.{Sending, is_unmarked}
use Rattle.world_model.specs.records.Ready.{is_ready_client}
use Rattle.world_model.specs.Sames.{owned_by}
use Rattle.world_model.specs.records.Script.{is_sending_of, all_sent, owned_rightly}
use Rattle.world_model.specs.meaning.Settings.{Setting, setting_of}
use Rattle.world_model.specs.Traced.{Traced, Course, courses_of_clients, courses_of}
use Rattle.world_model.specs.Words.{brought, held_in}
use Rattle.world_model.proofs.events.AllLists.{append_all, weaker_all}
use Rattle.world_model.proofs.events.ClientSteps.{HasStepped, Brings, NoneNew, IdleOne, NewOne, MayStep, Still, Closed, Stepped, happens_step}
use Rattle.world_model.proofs.events.CoursesStep.{all_step}
use Rattle.world_model.proofs.events.Happened.{Followed, follow_happens, at_event}
use Rattle.world_model.proofs.hold.Held.{doing_course}
use Rattle.world_model.proofs.events.Moves.{IsDoing, next_number}
use Rattle.world_model.proofs.script.SendingSteps.{scan_by, sent_so, sent_on_held, by_lists, course_sent, slot_wanted, after_sendings, after_held, goes_so, fresh_so}
use Rattle.world_model.proofs.script.Sendings.{calls_of, on_of, agrees, strangers_agree}
use Rattle.world_model.proofs.wire.SentAt.{sents_at, sents_pass, PassesAt, passes_from, passes_to, spoken_own, spoken_others, grown_at, new_at, link_sents}
use Rattle.world_model.proofs.wire.SentLinks.{is_strange}
use Rattle.world_model.proofs.wire.SentLists.{sent_lists, spoken}
use Rattle.world_model.proofs.events.StepFacts.{first_step, first_doing, step_owner}
use Rattle.world_model.proofs.script.Strangers.{slot_strange, other_owner}
use Rattle.world_model.proofs.events.Tests.{eq_from, eq_to, ne_to}

-- among those of which it holds
pub any_of_all : (test : ℕ → Bool) (numbers : List ℕ) (number : ℕ) → list_all test numbers ≡ true → list_any (λ other. other == number) numbers ≡ true → test number ≡ true
any_of_all test [] number all is = absurd (let none : ⊥ = cc in none)
any_of_all test (first ∷ numbers) number all is =
    let parts = and_parts (test first) (list_all test numbers) all in by (first == number) refl is parts.0 (any_of_all test numbers number parts.1)
  where
    by : (here : Bool) → (first == number) ≡ here → (here || list_any (λ other. other == number) numbers) ≡ true → test first ≡ true → (list_any (λ other. other == number) numbers ≡ true → test number ≡ true) → test number ≡ true
    by true same is mine later = subst (λ (k : ℕ). test k ≡ true) (eq_from first number same) mine
    by false differs is mine later = later is

strange_calls : (owner : Owner) (sents : List Sent) → list_all (λ (sent : Sent). not (owned_by owner sent)) sents ≡ true → calls_of owner sents ≡ []
strange_calls owner [] strange = refl
strange_calls owner (sent ∷ sents) strange =
    let parts = and_parts (not (owned_by owner sent)) (list_all (λ (s : Sent). not (owned_by owner s)) sents) strange in by (owned_by owner sent) parts.0 (strange_calls owner sents parts.1)
  where
    by : (mine : Bool) → not mine ≡ true → calls_of owner sents ≡ [] → (if mine && is_unmarked sent then sent ∷ calls_of owner sents else calls_of owner sents) ≡ []
    by true is later = absurd (let none : ⊥ = cc in none)
    by false is later = later

-- a Close of a drain
closed_agrees : (owner : Owner) (number : ℕ) (sents : List Sent) (sendings : List Sending) → agrees owner number sents sendings ≡ true → agrees owner number (sents ++ closed_by_drain ∷ []) sendings ≡ true
closed_agrees owner number sents sendings here =
    subst (λ (calls : List Sent). pointwise is_sending_of calls (on_of number sendings) ≡ true)
    (sym (filter-append (λ (sent : Sent). owned_by owner sent && is_unmarked sent) sents (closed_by_drain ∷ []) ∙ append-nil (calls_of owner sents))) here

module _ (test : List Sent → Bool) (frames : List Sent) (more : (sents : List Sent) → test sents ≡ true → test (sents ++ frames) ≡ true) where
  pub spoken_passes : (lists : List (List Sent)) (number at : ℕ) → sents_pass test lists at ≡ true → sents_pass test (spoken lists number frames) at ≡ true
  spoken_passes lists number at here = by (number == at) refl (passes_from test lists at here)
    where
      by : (same : Bool) → (number == at) ≡ same → PassesAt test lists at → sents_pass test (spoken lists number frames) at ≡ true
      by true same is =
          let e : number ≡ at = eq_from number at same in
          passes_to test (spoken lists number frames) at (is.sents ++ frames) (subst (λ (k : ℕ). sents_at (spoken lists k frames) at ≡ Some (is.sents ++ frames)) (sym e) (spoken_own lists at frames is.sents is.there)) (more is.sents is.passes)
      by false differs is =
          passes_to test (spoken lists number frames) at is.sents
          (spoken_others lists number at frames (λ same. let yes_is : (number == at) ≡ true = eq_to number at (sym same) in let never : ⊥ = cc in never) ∙ is.there) is.passes

  pub each_passes : (lists : List (List Sent)) (numbers : List ℕ) (at : ℕ) → sents_pass test lists at ≡ true → sents_pass test (fold (λ (all : List (List Sent)) (number : ℕ). spoken all number frames) lists numbers) at ≡ true
  each_passes lists [] at here = here
  each_passes lists (number ∷ numbers) at here = each_passes (spoken lists number frames) numbers at (spoken_passes lists number at here)

-- A STEP ------------------------------------------------------------------------------------------

module _ (setting : Setting) (m : Machine) (talks : AllTalk setting.terms m.clients) (number : ℕ) (n : Machine) (step : HasStepped setting m number n) where
  abbrev mine : Owner
  mine = record { client = number; place = length step.client.past }

  abbrev said : List Sent
  said = map (sent_by (owner_at m number) (call_in (first_doing setting m talks number n step).talk.phase)) (frames_of step.pool (unwrap_or step.connection 0) (first_step setting m talks number n step).done.act)

  -- of another request
  others_sent : (course : Course) → course.owner ≢ mine → course_sent m.links course ≡ true → course_sent n.links course ≡ true
  others_sent course differs old =
      by_lists n.links course.owner course.steps (held_in course.steps)
      ∙ weaker_all (sent_so course.owner course.steps (sent_lists m.links)) (sent_so course.owner course.steps (sent_lists n.links)) (held_in course.steps) still
      (sym (by_lists m.links course.owner course.steps (held_in course.steps)) ∙ old)
    where
      still : (at : ℕ) → sent_so course.owner course.steps (sent_lists m.links) at ≡ true → sent_so course.owner course.steps (sent_lists n.links) at ≡ true
      still at here =
          let test = λ (sents : List Sent). agrees course.owner at sents (scan_by course.owner course.steps).sendings in
          let is : PassesAt test (sent_lists m.links) at = passes_from test (sent_lists m.links) at here in
          subst (λ (lists : List (List Sent)). sents_pass test lists at ≡ true) (sym step.sent_are)
          (spoken_passes test said
          (λ sents so. strangers_agree course.owner (owner_at m number) at (call_in (first_doing setting m talks number n step).talk.phase)
          (frames_of step.pool (unwrap_or step.connection 0) (first_step setting m talks number n step).done.act) sents (scan_by course.owner course.steps).sendings
          (other_owner course.owner (owner_at m number) (λ same. differs (same ∙ step_owner setting m talks number n step))) so)
          step.lists (unwrap_or step.connection 0) at (passes_to test step.lists at is.sents (grown_at (sent_lists m.links) step.lists at is.sents step.grows is.there) is.passes))

  module _ (strange : (connection : ℕ) (link : Link) (ltxid : _) → step.input ≡ Lent connection ltxid → link_at m.links connection ≡ Some link → calls_of mine link.sent ≡ [])
      (old : sent_on_held mine step.before.steps (sent_lists m.links) ≡ true) where
    abbrev lists_now : List (List Sent)
    lists_now = spoken step.lists (unwrap_or step.connection 0) said

    -- on a connection that it held before
    still_so : (at : ℕ) → sent_so mine step.before.steps (sent_lists m.links) at ≡ true → sent_so mine step.after.steps lists_now at ≡ true
    still_so at here =
        let test = λ (sents : List Sent). agrees mine at sents (scan_by mine step.before.steps).sendings in
        let is : PassesAt test (sent_lists m.links) at = passes_from test (sent_lists m.links) at here in
        subst (λ (sendings : List Sending). sents_pass (λ s. agrees mine at s sendings) lists_now at ≡ true) (sym (after_sendings setting m talks number n step))
        (goes_so setting m talks number n step at is.sents (grown_at (sent_lists m.links) step.lists at is.sents step.grows is.there) is.passes)

    -- on one that it is given
    given_so : (at : ℕ) (sents : List Sent) → sents_at step.lists at ≡ Some sents → calls_of mine sents ≡ [] → (0 == at) ≡ false → sent_so mine step.after.steps lists_now at ≡ true
    given_so at sents there none positive = by (list_any (λ other. other == at) (held_in step.before.steps)) refl
      where
        by : (before : Bool) → list_any (λ other. other == at) (held_in step.before.steps) ≡ before → sent_so mine step.after.steps lists_now at ≡ true
        by true is = still_so at (any_of_all (sent_so mine step.before.steps (sent_lists m.links)) (held_in step.before.steps) at old is)
        by false is =
            subst (λ (sendings : List Sending). sents_pass (λ s. agrees mine at s sendings) lists_now at ≡ true) (sym (after_sendings setting m talks number n step))
            (fresh_so setting m talks number n step at sents there none is positive)

    lent_sents : (connection : ℕ) (link : Link) → link_at m.links connection ≡ Some link → sents_at (sent_lists m.links) connection ≡ Some link.sent
    lent_sents connection link there = link_sents m.links connection ∙ ap (λ (found : Option Link). option_map (λ (one : Link). one.sent) found) there

    lent_positive : (connection : ℕ) (link : Link) → link_at m.links connection ≡ Some link → (0 == connection) ≡ false
    lent_positive zero link there = absurd (let none : ⊥ = cc in none)
    lent_positive (suc index) link there = ne_to 0 (suc index) (omega arith)

    brought_so : (input : Input) → step.input ≡ input → Brings m step.lists input → list_all (sent_so mine step.after.steps lists_now) (cons_option (brought input) []) ≡ true
    brought_so _ is (NoneNew input none) = ap (λ (found : Option ℕ). list_all (sent_so mine step.after.steps lists_now) (cons_option found [])) none
    brought_so _ is (IdleOne connection ltxid link there) =
        and_from (sent_so mine step.after.steps lists_now connection) true
        (given_so connection link.sent (grown_at (sent_lists m.links) step.lists connection link.sent step.grows (lent_sents connection link there)) (strange connection link ltxid is there) (lent_positive connection link there)) refl
    brought_so _ is (NewOne more) =
        and_from (sent_so mine step.after.steps lists_now (next_number m)) true
        (given_so (next_number m) [] (ap (λ (lists : List (List Sent)). sents_at lists (next_number m)) more ∙ new_at m.links (next_number m) refl) refl (ne_to 0 (next_number m) (omega arith))) refl

    pub mine_sent : sent_on_held mine step.after.steps (sent_lists n.links) ≡ true
    mine_sent =
        subst (λ (lists : List (List Sent)). sent_on_held mine step.after.steps lists ≡ true) (sym step.sent_are)
        (subst (λ (numbers : List ℕ). list_all (sent_so mine step.after.steps lists_now) numbers ≡ true) (sym (after_held setting m talks number n step))
        (append_all (sent_so mine step.after.steps lists_now) (held_in step.before.steps) (cons_option (brought step.input) [])
        (weaker_all (sent_so mine step.before.steps (sent_lists m.links)) (sent_so mine step.after.steps lists_now) (held_in step.before.steps) still_so old) (brought_so step.input refl step.brings)))

-- EVENTS ------------------------------------------------------------------------------------------

-- the request that steps, before it does
pub before_sent : (t : Traced) (m : Machine) (number : ℕ) (n : Machine) (step : HasStepped t.setting m number n) → client_at t.machine.clients number ≡ Some step.client
    → list_all (course_sent t.machine.links) (courses_of t) ≡ true → sent_on_held (record { client = number; place = length step.client.past }) step.before.steps (sent_lists t.machine.links) ≡ true
before_sent t m number n step here old = by step.client.now refl step.client.next step.does
  where
    mine : Owner
    mine = record { client = number; place = length step.client.past }

    by : (now : Option Doing) → step.client.now ≡ now → (next : Option Request) → option_or now (option_map (begun t.setting.terms m.event m.tick) next) ≡ Some step.before → sent_on_held mine step.before.steps (sent_lists t.machine.links) ≡ true
    by (Some one) is next does =
        let same : one ≡ step.before = cc in
        sym (by_lists t.machine.links mine step.before.steps (held_in step.before.steps))
        ∙ doing_course (course_sent t.machine.links) t number step.client step.before old here (is ∙ ap Some same)
    by None is (Some request) does =
        let same : begun t.setting.terms m.event m.tick request ≡ step.before = cc in
        subst (λ (d : Doing). sent_on_held mine d.steps (sent_lists t.machine.links) ≡ true) same refl
    by None is None does = absurd (let none : ⊥ = cc in none)

may_send : (t : Traced) (m n : Machine) → m.clients ≡ t.machine.clients → m.links ≡ t.machine.links → AllTalk t.setting.terms m.clients → list_all (is_ready_client t.setting.terms) m.clients ≡ true → owned_rightly (courses_of t) 1 t.machine.links ≡ true
    → MayStep t.setting m n → all_sent t ≡ true → list_all (course_sent n.links) (courses_of_clients t.setting 1 n.clients) ≡ true
may_send t m n clients links talks ready owned (Still same sent) old =
    subst (λ (c : List Client). list_all (course_sent n.links) (courses_of_clients t.setting 1 c) ≡ true) (sym (same ∙ clients))
    (weaker_all (course_sent t.machine.links) (course_sent n.links) (courses_of t)
    (λ course here. by_lists n.links course.owner course.steps (held_in course.steps)
    ∙ (ap (λ (lists : List (List Sent)). list_all (sent_so course.owner course.steps lists) (held_in course.steps)) (sent ∙ ap sent_lists links)
    ∙ (sym (by_lists t.machine.links course.owner course.steps (held_in course.steps)) ∙ here))) old)
may_send t m n clients links talks ready owned (Closed same sent) old =
    subst (λ (c : List Client). list_all (course_sent n.links) (courses_of_clients t.setting 1 c) ≡ true) (sym (same ∙ clients))
    (weaker_all (course_sent t.machine.links) (course_sent n.links) (courses_of t) closed old)
  where
    closed : (course : Course) → course_sent t.machine.links course ≡ true → course_sent n.links course ≡ true
    closed course here =
        by_lists n.links course.owner course.steps (held_in course.steps)
        ∙ (ap (λ (lists : List (List Sent)). list_all (sent_so course.owner course.steps lists) (held_in course.steps)) sent
        ∙ weaker_all (sent_so course.owner course.steps (sent_lists m.links))
        (sent_so course.owner course.steps (fold (λ (lists : List (List Sent)) (number : ℕ). spoken lists number (closed_by_drain ∷ [])) (sent_lists m.links) m.pool.idle)) (held_in course.steps)
        (λ at so. each_passes (λ sents. agrees course.owner at sents (scan_by course.owner course.steps).sendings) (closed_by_drain ∷ []) (λ sents. closed_agrees course.owner at sents (scan_by course.owner course.steps).sendings)
        (sent_lists m.links) m.pool.idle at so)
        (ap (λ (all : List Link). list_all (sent_so course.owner course.steps (sent_lists all)) (held_in course.steps)) links ∙ (sym (by_lists t.machine.links course.owner course.steps (held_in course.steps)) ∙ here)))
may_send t m n clients links talks ready owned (Stepped number step) old =
    all_step t.setting (course_sent m.links) (course_sent n.links) mine (others_sent t.setting m talks number n step) m number n step refl
    (λ keep. by_lists n.links mine step.after.steps (held_in step.after.steps) ∙ now) (λ over. by_lists n.links mine step.after.steps (held_in step.after.steps) ∙ now)
    (subst (λ (all : List Link). list_all (course_sent all) (courses_of_clients t.setting 1 m.clients) ≡ true) (sym links)
    (subst (λ (c : List Client). list_all (course_sent t.machine.links) (courses_of_clients t.setting 1 c) ≡ true) (sym clients) old))
  where
    mine : Owner
    mine = record { client = number; place = length step.client.past }

    here : client_at t.machine.clients number ≡ Some step.client
    here = subst (λ (all : List Client). client_at all number ≡ Some step.client) clients step.here

    strange : (connection : ℕ) (link : Link) (ltxid : _) → step.input ≡ Lent connection ltxid → link_at m.links connection ≡ Some link → calls_of mine link.sent ≡ []
    strange connection link ltxid is there =
        let may : may_come false (wants_of t.setting.terms step.before.talk m.tick) (Lent connection ltxid) ≡ true = subst (λ (i : Input). may_come false (wants_of t.setting.terms step.before.talk m.tick) i ≡ true) is step.may in
        let wanted = (and_parts (is_wanted (wants_of t.setting.terms step.before.talk m.tick) (Lent connection ltxid)) (is_gone (Lent connection ltxid) || not false) may).0 in
        let doing : IsDoing t.setting m number step.before _ = record { client = step.client; here = step.here; does = step.does; wants = slot_wanted (wants_of t.setting.terms step.before.talk m.tick) connection ltxid wanted } in
        strange_calls mine link.sent
        (subst (λ (owner : Owner). is_strange owner link ≡ true) (step_owner t.setting m talks number n step) (slot_strange t m number step.before connection link clients links ready owned doing there))

    now : sent_on_held mine step.after.steps (sent_lists n.links) ≡ true
    now = mine_sent t.setting m talks number n step strange (subst (λ (all : List Link). sent_on_held mine step.before.steps (sent_lists all) ≡ true) (sym links) (before_sent t m number n step here old))

-- at the start no request was submitted
pub resting_none : (setting : Setting) (number : ℕ) (test : Course → Bool) (all : List Scripted) → list_all test (courses_of_clients setting number (map (λ (one : Scripted). resting one.requests []) all)) ≡ true
resting_none setting number test [] = refl
resting_none setting number test (one ∷ all) = resting_none setting (number + 1) test all

pub sendings_law : IsKept all_sent
sendings_law = record {
  at_start = λ document. resting_none (setting_of document) 1 (course_sent []) document.clients;
  at_event = λ before after old new event note items left one inv.
      let by : Followed old.setting old.machine event note items left new.machine = follow_happens old.setting old.machine event note items left new.machine one.follows in
      subst (λ (setting : Setting). list_all (course_sent new.machine.links) (courses_of_clients setting 1 new.machine.clients) ≡ true) (sym one.setting)
      (may_send old (at_event old.machine) new.machine refl refl inv.script.talks inv.script.ready inv.script.owned (happens_step old.setting (at_event old.machine) items left by.kind new.machine by.happens) inv.script.sent);
}
