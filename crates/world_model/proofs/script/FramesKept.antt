-- A test of the frames of each request stays true of all that were sent: where what a request says
-- at its step passes, and what it said before still does.
use Rattle.std.proofs.Common.{◌≡◌, ◌≢◌, refl, sym, ap, subst, ◌∙◌, Bool, true, false, ℕ, suc, length, List, [], ◌∷◌, map, Option, Some, None}
use Rattle.std.specs.Prelude.{◌==◌, not, unwrap_or, option_map}
use Rattle.std.specs.List.{list_all}
use Rattle.std.specs.Option.{option_or, option_map_or}
use Rattle.std.proofs.lemmas.Bool.{and_from, or_right}
use Rattle.svc_values.specs.declared.frame.Up.{Up}
use Rattle.outage_schedule.specs.declared.document.Document.{Document}
use Rattle.outage_schedule.specs.declared.document.Request.{Request}
use Rattle.outage_schedule.specs.declared.event.Event.{Event}
use Rattle.outage_schedule.specs.declared.item.Served.{Served}
use Rattle.outage_schedule.specs.declared.note.Note.{Note}
use Rattle.run_clauses.specs.meaning.Reports.{shown_call}
use Rattle.server_model.specs.Seen.{Seen}
use Rattle.world_model.specs.meaning.Acting.{frames_of, sent_by, call_in, owner_at}
use Rattle.world_model.specs.meaning.Clients.{Doing, Client, begun, client_at, past_of}
use Rattle.world_model.specs.records.Conversing.{AllTalk}
use Rattle.world_model.specs.meaning.Frames.{Owner, Sent}
use Rattle.world_model.specs.Orderly.{Orderly}
use Rattle.world_model.specs.meaning.Links.{Link}
use Rattle.world_model.specs.meaning.Machines.{Machine}
use Rattle.world_model.specs.OneEvent.{OneEvent}
use Rattle.world_model.specs.meaning.Outside.{closed_by_drain}
use Rattle.world_model.specs.Parts.{implies}
use Rattle.world_model.specs.Reached.{traced_start}
use Rattle.world_model.specs.Sames.{same_owner, owned_by}
use Rattle.world_model.specs.records.Script.{owned_rightly}
use Rattle.world_model.specs.meaning.Settings.{Setting}
use Rattle.world_model.specs.Traced.{Traced, Course, course_now, course_over, courses_of_clients, courses_of}
use Rattle.world_model.specs.Words.{held_in}
use Rattle.world_model.proofs.events.AllLists.{map_all, weaker_all}
use Rattle.world_model.proofs.events.ClientSteps.{HasStepped, MayStep, Still, Closed, Stepped, happens_step}
use Rattle.world_model.proofs.events.CoursesStep.{all_step}
use Rattle.world_model.proofs.script.DrawsKept.{all_sent_so, by_links, said_so, each_said, grown_so}
use Rattle.world_model.proofs.events.Happened.{Followed, follow_happens, at_event}
use Rattle.world_model.proofs.hold.Held.{doing_course}
use Rattle.world_model.proofs.number.NumbersTurn.{by_index}
use Rattle.world_model.proofs.wire.SentLinks.{is_strange}
use Rattle.world_model.proofs.wire.SentLists.{sent_lists}
use Rattle.world_model.proofs.events.StepFacts.{account_now, first_step, first_doing, step_owner}
use Rattle.world_model.proofs.script.Strangers.{doing_strange, other_owner}

-- the test of one frame of a request, which was sent at a call of this index
module _ (passes : Course → ℕ → Up → Bool) where
  abbrev of_one : Course → Sent → Bool
  of_one course sent = implies (owned_by course.owner sent) (passes course sent.call sent.frame)

  abbrev on_link : Course → Link → Bool
  on_link course link = list_all (of_one course) link.sent

  abbrev on_all : List Link → Course → Bool
  on_all links course = list_all (on_link course) links

  -- frames of another request
  others_pass : (course : Course) (owner : Owner) (call : ℕ) (frames : List Up) → course.owner ≢ owner → list_all (of_one course) (map (sent_by owner call) frames) ≡ true
  others_pass course owner call [] differs = refl
  others_pass course owner call (frame ∷ frames) differs =
      and_from (implies (same_owner course.owner owner) (passes course call frame)) (list_all (of_one course) (map (sent_by owner call) frames))
      (ap (λ (mine : Bool). implies mine (passes course call frame)) (other_owner course.owner owner differs)) (others_pass course owner call frames differs)

  strange_passes : (course : Course) (link : Link) → is_strange course.owner link ≡ true → on_link course link ≡ true
  strange_passes course link strange =
      weaker_all (λ (sent : Sent). not (owned_by course.owner sent)) (of_one course) link.sent (λ sent here. by (owned_by course.owner sent) (passes course sent.call sent.frame) here) strange
    where
      by : (mine so : Bool) → not mine ≡ true → implies mine so ≡ true
      by true so here = absurd (let none : ⊥ = cc in none)
      by false so here = refl

  still_passes : (c d : Course) → d.owner ≡ c.owner → ((index : ℕ) (frame : Up) → passes c index frame ≡ true → passes d index frame ≡ true) → (sent : Sent) → of_one c sent ≡ true → of_one d sent ≡ true
  still_passes c d owner still sent here = ap (λ (one : Owner). implies (owned_by one sent) (passes d sent.call sent.frame)) owner ∙ by (owned_by c.owner sent) here
    where
      by : (own : Bool) → implies own (passes c sent.call sent.frame) ≡ true → implies own (passes d sent.call sent.frame) ≡ true
      by false is = refl
      by true is = still sent.call sent.frame is

  -- A STEP ----------------------------------------------------------------------------------------

  module _ (setting : Setting) (m : Machine) (talks : AllTalk setting.terms m.clients) (number : ℕ) (n : Machine) (step : HasStepped setting m number n) where
    abbrev mine : Owner
    mine = record { client = number; place = length step.client.past }

    abbrev index : ℕ
    index = call_in (first_doing setting m talks number n step).talk.phase

    abbrev frames : List Up
    frames = frames_of step.pool (unwrap_or step.connection 0) (first_step setting m talks number n step).done.act

    abbrev before_course : Course
    before_course = course_now setting number (length step.client.past) step.before

    -- The request that steps, behind its step: what it said then passes, and what passed before.
    pub record Passes (course : Course) : Type 0 where
      pub says : list_all (passes course index) frames ≡ true
      pub still : (at : ℕ) (frame : Up) → passes before_course at frame ≡ true → passes course at frame ≡ true

    abbrev pub StepPasses : Type 0
    StepPasses = (course : Course) → course.request ≡ step.after.request → course.report.calls ≡ map shown_call (account_now setting.terms step.after).shown → Passes course

    -- all frames behind it
    all_pass : (course : Course) → list_all (of_one course) (map (sent_by (owner_at m number) index) frames) ≡ true → all_sent_so (of_one course) (sent_lists m.links) ≡ true → on_all n.links course ≡ true
    all_pass course says old =
        by_links (of_one course) n.links
        ∙ subst (λ (lists : List (List Sent)). all_sent_so (of_one course) lists ≡ true) (sym step.sent_are)
        (said_so (of_one course) step.lists (unwrap_or step.connection 0) (map (sent_by (owner_at m number) index) frames) (grown_so (of_one course) (sent_lists m.links) step.lists step.grows old) says)

    others_so : (course : Course) → course.owner ≢ mine → on_all m.links course ≡ true → on_all n.links course ≡ true
    others_so course differs old =
        all_pass course (others_pass course (owner_at m number) index frames (λ same. differs (same ∙ step_owner setting m talks number n step))) (sym (by_links (of_one course) m.links) ∙ old)

    mine_so : (course : Course) → course.owner ≡ mine → Passes course → on_all m.links before_course ≡ true → on_all n.links course ≡ true
    mine_so course owner so old =
        all_pass course
        (map_all (passes course index) (of_one course) (sent_by (owner_at m number) index) frames (λ frame is. or_right (not (owned_by course.owner (sent_by (owner_at m number) index frame))) (passes course index frame) is) so.says)
        (weaker_all (list_all (of_one before_course)) (list_all (of_one course)) (sent_lists m.links) (λ sents. weaker_all (of_one before_course) (of_one course) sents (still_passes before_course course owner so.still))
        (sym (by_links (of_one before_course) m.links) ∙ old))

  -- EVENTS ----------------------------------------------------------------------------------------

  abbrev all_so : Traced → Bool
  all_so t = list_all (on_all t.machine.links) (courses_of t)

  -- the request that steps, before it does
  before_so : (t : Traced) (m : Machine) (number : ℕ) (n : Machine) (step : HasStepped t.setting m number n) → m.clients ≡ t.machine.clients → m.links ≡ t.machine.links → owned_rightly (courses_of t) 1 t.machine.links ≡ true → all_so t ≡ true
      → on_all t.machine.links (course_now t.setting number (length step.client.past) step.before) ≡ true
  before_so t m number n step clients links owned old = by step.client.now refl step.client.next step.does
    where
      here : client_at t.machine.clients number ≡ Some step.client
      here = subst (λ (all : List Client). client_at all number ≡ Some step.client) clients step.here

      by : (now : Option Doing) → step.client.now ≡ now → (next : Option Request) → option_or now (option_map (begun t.setting.terms m.event m.tick) next) ≡ Some step.before → on_all t.machine.links (course_now t.setting number (length step.client.past) step.before) ≡ true
      by (Some one) is next does = let same : one ≡ step.before = cc in doing_course (on_all t.machine.links) t number step.client step.before old here (is ∙ ap Some same)
      by None is next does =
          by_index (on_link (course_now t.setting number (length step.client.past) step.before)) t.machine.links
          (λ at link there. strange_passes (course_now t.setting number (length step.client.past) step.before) link
          (doing_strange t number step.client (suc at) link owned here (ap (λ (one : Option Doing). option_map_or (λ doing. length (held_in doing.steps) == 0) one true) is) there))

  may_pass : (t : Traced) (m n : Machine) → m.clients ≡ t.machine.clients → m.links ≡ t.machine.links → (talks : AllTalk t.setting.terms m.clients) → owned_rightly (courses_of t) 1 t.machine.links ≡ true → MayStep t.setting m n
      → ((number : ℕ) (step : HasStepped t.setting m number n) → StepPasses t.setting m talks number n step) → all_so t ≡ true → list_all (on_all n.links) (courses_of_clients t.setting 1 n.clients) ≡ true
  may_pass t m n clients links talks owned (Still same sent) so old =
      subst (λ (c : List Client). list_all (on_all n.links) (courses_of_clients t.setting 1 c) ≡ true) (sym (same ∙ clients))
      (weaker_all (on_all t.machine.links) (on_all n.links) (courses_of t)
      (λ course here. by_links (of_one course) n.links
      ∙ (ap (λ (lists : List (List Sent)). all_sent_so (of_one course) lists) (sent ∙ ap sent_lists links) ∙ (sym (by_links (of_one course) t.machine.links) ∙ here))) old)
  may_pass t m n clients links talks owned (Closed same sent) so old =
      subst (λ (c : List Client). list_all (on_all n.links) (courses_of_clients t.setting 1 c) ≡ true) (sym (same ∙ clients))
      (weaker_all (on_all t.machine.links) (on_all n.links) (courses_of t)
      (λ course here. by_links (of_one course) n.links
      ∙ (ap (λ (lists : List (List Sent)). all_sent_so (of_one course) lists) sent
      ∙ each_said (of_one course) (closed_by_drain ∷ []) (sent_lists m.links) m.pool.idle refl
      (ap (λ (all : List Link). all_sent_so (of_one course) (sent_lists all)) links ∙ (sym (by_links (of_one course) t.machine.links) ∙ here)))) old)
  may_pass t m n clients links talks owned (Stepped number step) so old =
      let before : on_all m.links (course_now t.setting number (length step.client.past) step.before) ≡ true =
      subst (λ (all : List Link). on_all all (course_now t.setting number (length step.client.past) step.before) ≡ true) (sym links) (before_so t m number n step clients links owned old) in
      let now : Course = course_now t.setting number (length step.client.past) step.after in
      let over : Course = course_over number (length step.client.past) (past_of t.setting.terms step.after) in
      all_step t.setting (on_all m.links) (on_all n.links) (record { client = number; place = length step.client.past }) (others_so t.setting m talks number n step) m number n step refl
      (λ keep. mine_so t.setting m talks number n step now refl (so number step now refl refl) before) (λ ends. mine_so t.setting m talks number n step over refl (so number step over refl refl) before)
      (subst (λ (all : List Link). list_all (on_all all) (courses_of_clients t.setting 1 m.clients) ≡ true) (sym links)
      (subst (λ (c : List Client). list_all (on_all t.machine.links) (courses_of_clients t.setting 1 c) ≡ true) (sym clients) old))

  none_yet : (courses : List Course) → list_all (on_all []) courses ≡ true
  none_yet [] = refl
  none_yet (course ∷ courses) = none_yet courses

  -- at the start, and behind each event
  pub frames_start : (document : Document) → all_so (traced_start document) ≡ true
  frames_start document = none_yet (courses_of (traced_start document))

  pub frames_event : (before after : Seen) (old new : Traced) (event : Event) (note : Note) (items left : List Served) → OneEvent before old event note items left after new → (inv : Orderly old)
      → ((number : ℕ) (step : HasStepped old.setting (at_event old.machine) number new.machine) → StepPasses old.setting (at_event old.machine) inv.script.talks number new.machine step) → all_so old ≡ true → all_so new ≡ true
  frames_event before after old new event note items left one inv so was =
      let by : Followed old.setting old.machine event note items left new.machine = follow_happens old.setting old.machine event note items left new.machine one.follows in
      subst (λ (setting : Setting). list_all (on_all new.machine.links) (courses_of_clients setting 1 new.machine.clients) ≡ true) (sym one.setting)
      (may_pass old (at_event old.machine) new.machine refl refl inv.script.talks inv.script.owned (happens_step old.setting (at_event old.machine) items left by.kind new.machine by.happens) so was)
