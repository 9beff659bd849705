-- Of Lost: each Outcome that a request sent asks the identifier held on a connection that it lost,
-- at the start and behind each event.
use Rattle.std.proofs.Common.{◌≡◌, ◌≢◌, refl, sym, ap, subst, ◌∙◌, Bool, true, false, ℕ, suc, ◌&&◌, ◌||◌, length, List, [], ◌∷◌, map, Option, Some, None}
use Rattle.std.specs.Prelude.{◌==◌, not, unwrap_or, option_map}
use Rattle.std.specs.List.{list_all}
use Rattle.std.specs.Option.{option_or, option_map_or}
use Rattle.std.proofs.lemmas.Bool.{and_parts, and_from, or_right, or_left}
use Rattle.svc_values.specs.declared.entry.Ltxid.{Ltxid}
use Rattle.svc_values.specs.declared.frame.Up.{Up}
use Rattle.svc_values.specs.declared.frame.Up.TheVariants as up
use Rattle.svc_values.specs.SameLaws.{same_ltxid_decides}
use Rattle.outage_schedule.specs.declared.document.Request.{Request}
use Rattle.outage_schedule.specs.declared.item.Served.{Served}
use Rattle.world_model.specs.meaning.Acting.{frames_of, sent_by, call_in, owner_at}
use Rattle.world_model.specs.meaning.Clients.{Client, Doing, begun}
use Rattle.world_model.specs.meaning.Frames.{Owner, Sent}
use Rattle.world_model.specs.Orderly.{Orderly}
use Rattle.invariant_laws.specs.KeptLaws.{IsKeptOfAll}
use Rattle.world_model.specs.meaning.Links.{Link}
use Rattle.invariant_laws.specs.Lost.{lost_links, same_event, is_gone, is_wanted, are_pending, asks_lost, asks_rightly, ask_rightly}
use Rattle.world_model.specs.meaning.Machines.{Machine}
use Rattle.world_model.specs.meaning.Matching.{Noted}
use Rattle.world_model.specs.meaning.Outside.{closed_by_drain}
use Rattle.world_model.specs.Reached.{traced_start}
use Rattle.world_model.specs.Sames.{owned_by}
use Rattle.world_model.specs.meaning.Settings.{Setting, setting_of}
use Rattle.world_model.specs.Traced.{Traced, Course, course_now, courses_of, courses_of_clients}
use Rattle.world_model.specs.Wanted.{Wanted, wanted_in}
use Rattle.world_model.specs.Words.{held_in}
use Rattle.world_model.proofs.Offered.{map_all, weaker_all, HasStepped, MayStep, Still, Closed, Stepped, happens_step, all_step, all_sent_so, by_links, said_so, each_said, grown_so, Followed, follow_happens, at_event, doing_course, resting_none, Happens, by_index, is_strange, sent_lists, first_step, first_doing, step_owner, doing_strange, other_owner}
use Rattle.invariant_laws.proofs.losses.KeptOutcomes.{holds_one, holds_alike, any_weaker, wanted_kept}
use Rattle.invariant_laws.proofs.losses.LostKept.{any_link, any_still, any_kept, any_ended, both_all, course_before, course_kept, course_ended}
use Rattle.invariant_laws.proofs.talks.TalkAsks.{is_asking, frames_ask}

-- FRAMES ------------------------------------------------------------------------------------------

-- one that was sent asks what was lost
abbrev asks : Traced → Course → Sent → Bool
asks t course sent = asks_lost t course sent sent.frame

-- what was asked rightly is so still
asks_still : (t new : Traced) (course later : Course) → later.owner ≡ course.owner
    → ((x : Ltxid) → any_link (holds_one x) t.machine.links (lost_links course) ≡ true → any_link (holds_one x) new.machine.links (lost_links later) ≡ true) → (sent : Sent) → asks t course sent ≡ true → asks new later sent ≡ true
asks_still t new course later owner more sent here = by sent.frame here
  where
    outcome : (x : Ltxid) (mine : Bool) → owned_by course.owner sent ≡ mine → (not mine || any_link (holds_one x) t.machine.links (lost_links course)) ≡ true → (not mine || any_link (holds_one x) new.machine.links (lost_links later)) ≡ true
    outcome x true is any = more x any
    outcome x false is any = refl

    by : (frame : Up) → asks_lost t course sent frame ≡ true → asks_lost new later sent frame ≡ true
    by (up.Outcome x) any =
        ap (λ (one : Owner). not (owned_by one sent) || any_link (holds_one x) new.machine.links (lost_links later)) owner ∙ outcome x (owned_by course.owner sent) refl any
    by up.Connect any = refl
    by (up.Begin settings) any = refl
    by (up.Call replay kept call) any = refl
    by up.End any = refl
    by up.Close any = refl

-- frames of another request
others_ask : (new : Traced) (course : Course) (owner : Owner) (call : ℕ) (frames : List Up) → course.owner ≢ owner → list_all (asks new course) (map (sent_by owner call) frames) ≡ true
others_ask new course owner call [] differs = refl
others_ask new course owner call (frame ∷ frames) differs = and_from (asks_lost new course (sent_by owner call frame) frame) (list_all (asks new course) (map (sent_by owner call) frames)) (by frame) (others_ask new course owner call frames differs)
  where
    by : (one : Up) → asks_lost new course (sent_by owner call frame) one ≡ true
    by (up.Outcome x) = ap (λ (mine : Bool). not mine || any_link (holds_one x) new.machine.links (lost_links course)) (other_owner course.owner owner differs)
    by up.Connect = refl
    by (up.Begin settings) = refl
    by (up.Call replay kept called) = refl
    by up.End = refl
    by up.Close = refl

-- a frame that asks what is wanted
wanted_asks : (new : Traced) (course : Course) (sent : Sent) (wanted : Option Wanted) → ((one : Wanted) → wanted ≡ Some one → any_link (holds_one one.ltxid) new.machine.links (lost_links course) ≡ true) → (frame : Up) → is_asking wanted frame ≡ true
    → asks_lost new course sent frame ≡ true
wanted_asks new course sent None known (up.Outcome x) here = absurd (let none : ⊥ = cc in none)
wanted_asks new course sent (Some one) known (up.Outcome x) here =
    let same : one.ltxid ≡ x = (same_ltxid_decides one.ltxid x).0 here in
    or_right (not (owned_by course.owner sent)) (any_link (holds_one x) new.machine.links (lost_links course)) (subst (λ (y : Ltxid). any_link (holds_one y) new.machine.links (lost_links course) ≡ true) same (known one refl))
wanted_asks new course sent wanted known up.Connect here = refl
wanted_asks new course sent wanted known (up.Begin settings) here = refl
wanted_asks new course sent wanted known (up.Call replay kept call) here = refl
wanted_asks new course sent wanted known up.End here = refl
wanted_asks new course sent wanted known up.Close here = refl

-- one of which nothing was sent
strange_asks : (t : Traced) (course : Course) (link : Link) → is_strange course.owner link ≡ true → asks_rightly t course link ≡ true
strange_asks t course link strange = weaker_all (λ (sent : Sent). not (owned_by course.owner sent)) (asks t course) link.sent (λ sent here. by sent sent.frame here) strange
  where
    by : (sent : Sent) (frame : Up) → not (owned_by course.owner sent) ≡ true → asks_lost t course sent frame ≡ true
    by sent (up.Outcome x) here = or_left (not (owned_by course.owner sent)) (any_link (holds_one x) t.machine.links (lost_links course)) here
    by sent up.Connect here = refl
    by sent (up.Begin settings) here = refl
    by sent (up.Call replay kept call) here = refl
    by sent up.End here = refl
    by sent up.Close here = refl

-- EVENTS ------------------------------------------------------------------------------------------

module _ (t : Traced) (inv : Orderly t) (pending : are_pending t ≡ true) (new : Traced) (setting : new.setting ≡ t.setting) (items left : List Served) (kind : Noted) (happens : Happens t.setting (at_event t.machine) items left kind new.machine) where
  abbrev now : Machine
  now = at_event t.machine

  abbrev gone_all : Course → Bool
  gone_all course = list_all (is_gone t.machine.links (courses_of t)) (lost_links course)

  abbrev old_test : Course → Bool
  old_test course = list_all (asks_rightly t course) t.machine.links

  abbrev new_test : Course → Bool
  new_test course = list_all (asks_rightly new course) new.machine.links

  abbrev both_test : Course → Bool
  both_test course = gone_all course && old_test course

  -- what was sent before
  sents_still : (course later : Course) → later.owner ≡ course.owner → ((test : Link → Bool) → any_link test new.machine.links (lost_links course) ≡ true → any_link test new.machine.links (lost_links later) ≡ true) → both_test course ≡ true
      → all_sent_so (asks new later) (sent_lists t.machine.links) ≡ true
  sents_still course later owner more here =
      let parts = and_parts (gone_all course) (old_test course) here in
      weaker_all (list_all (asks t course)) (list_all (asks new later)) (sent_lists t.machine.links)
      (λ sents. weaker_all (asks t course) (asks new later) sents
      (asks_still t new course later owner (λ x any. more (holds_one x) (any_still t inv new setting items left kind happens (holds_one x) (holds_alike x) (lost_links course) parts.0 any))))
      (sym (by_links (asks t course) t.machine.links) ∙ parts.1)

  course_same : (lists : List (List Sent)) → sent_lists new.machine.links ≡ lists → (course : Course) → all_sent_so (asks new course) lists ≡ true → new_test course ≡ true
  course_same lists same course here = by_links (asks new course) new.machine.links ∙ (ap (all_sent_so (asks new course)) same ∙ here)

  module _ (who : ℕ) (step : HasStepped t.setting now who new.machine) where
    abbrev mine : Owner
    mine = record { client = who; place = length step.client.past }

    abbrev call : ℕ
    call = call_in (first_doing t.setting now inv.script.talks who new.machine step).talk.phase

    abbrev frames : List Up
    frames = frames_of step.pool (unwrap_or step.connection 0) (first_step t.setting now inv.script.talks who new.machine step).done.act

    -- behind what it says
    said_asks : (course : Course) → all_sent_so (asks new course) (sent_lists t.machine.links) ≡ true → list_all (asks new course) (map (sent_by (owner_at now who) call) frames) ≡ true → new_test course ≡ true
    said_asks course old said =
        course_same _ step.sent_are course
        (said_so (asks new course) step.lists (unwrap_or step.connection 0) (map (sent_by (owner_at now who) call) frames) (grown_so (asks new course) (sent_lists t.machine.links) step.lists step.grows old) said)

    others_so : (course : Course) → course.owner ≢ mine → both_test course ≡ true → new_test course ≡ true
    others_so course differs here =
        said_asks course (sents_still course course refl (λ test any. any) here)
        (others_ask new course (owner_at now who) call frames (λ same. differs (same ∙ step_owner t.setting now inv.script.talks who new.machine step)))

    mine_so : (later : Course) → later.owner ≡ mine
        → ((test : Link → Bool) → any_link test new.machine.links (lost_links (course_before t inv new setting items left kind happens who step)) ≡ true → any_link test new.machine.links (lost_links later) ≡ true)
        → both_test (course_before t inv new setting items left kind happens who step) ≡ true → new_test later ≡ true
    mine_so later owner more here =
        let before : Course = course_before t inv new setting items left kind happens who step in
        let gone : gone_all before ≡ true = (and_parts (gone_all before) (old_test before) here).0 in
        said_asks later (sents_still before later owner more here)
        (map_all (is_asking (wanted_in step.before.talk.phase)) (asks new later) (sent_by (owner_at now who) call) frames
        (λ frame asking. wanted_asks new later (sent_by (owner_at now who) call frame) (wanted_in step.before.talk.phase)
        (λ wanted is. more (holds_one wanted.ltxid)
        (any_weaker (λ link. is_wanted link wanted) (holds_one wanted.ltxid) (λ link so. (and_parts (holds_one wanted.ltxid link) (same_event link.ended wanted.event) so).0) new.machine.links (lost_links before)
        (wanted_kept t inv pending new setting items left kind happens who step gone wanted is))) frame asking)
        (frames_ask t.setting.terms step.before.talk step.input now.tick step.pool (unwrap_or step.connection 0)))

  -- the request that steps, before it does
  before_asks : (who : ℕ) (step : HasStepped t.setting now who new.machine) → list_all both_test (courses_of t) ≡ true → both_test (course_before t inv new setting items left kind happens who step) ≡ true
  before_asks who step all = by step.client.now refl step.client.next step.does
    where
      before : Course
      before = course_before t inv new setting items left kind happens who step

      by : (found : Option Doing) → step.client.now ≡ found → (next : Option Request) → option_or found (option_map (begun t.setting.terms now.event now.tick) next) ≡ Some step.before → both_test before ≡ true
      by (Some one) is next does = doing_course both_test t who step.client step.before all step.here (is ∙ does)
      by None is (Some request) does =
          let same : begun t.setting.terms now.event now.tick request ≡ step.before = cc in
          and_from (gone_all before) (old_test before) (subst (λ (doing : Doing). gone_all (course_now t.setting who (length step.client.past) doing) ≡ true) same refl)
          (by_index (asks_rightly t before) t.machine.links
          (λ index link at. strange_asks t before link
          (doing_strange t who step.client (suc index) link inv.script.owned step.here (ap (λ (one : Option Doing). option_map_or (λ doing. length (held_in doing.steps) == 0) one true) is) at)))
      by None is None does = absurd (let none : ⊥ = cc in none)

  all_ask : MayStep t.setting now new.machine → list_all both_test (courses_of t) ≡ true → list_all new_test (courses_of_clients t.setting 1 new.machine.clients) ≡ true
  all_ask (Still same sent) all =
      subst (λ (clients : List Client). list_all new_test (courses_of_clients t.setting 1 clients) ≡ true) (sym same)
      (weaker_all both_test new_test (courses_of t) (λ course here. course_same (sent_lists t.machine.links) sent course (sents_still course course refl (λ test any. any) here)) all)
  all_ask (Closed same sent) all =
      subst (λ (clients : List Client). list_all new_test (courses_of_clients t.setting 1 clients) ≡ true) (sym same)
      (weaker_all both_test new_test (courses_of t)
      (λ course here. course_same _ sent course (each_said (asks new course) (closed_by_drain ∷ []) (sent_lists t.machine.links) t.machine.pool.idle refl (sents_still course course refl (λ test any. any) here))) all)
  all_ask (Stepped who step) all =
      let before : both_test (course_before t inv new setting items left kind happens who step) ≡ true = before_asks who step all in
      all_step t.setting both_test new_test (record { client = who; place = length step.client.past }) (others_so who step) now who new.machine step refl
      (λ keep. mine_so who step (course_kept t inv new setting items left kind happens who step) refl (any_kept t inv new setting items left kind happens who step) before)
      (λ over. mine_so who step (course_ended t inv new setting items left kind happens who step) refl (any_ended t inv new setting items left kind happens who step over) before) all

pub asks_law : IsKeptOfAll ask_rightly
asks_law = record {
  at_start = λ document. resting_none (setting_of document) 1 (λ course. list_all (asks_rightly (traced_start document) course) []) document.clients;
  at_event = λ before after old new event note items left one inv.
      let by : Followed old.setting old.machine event note items left new.machine = follow_happens old.setting old.machine event note items left new.machine one.follows in
      subst (λ (setting : Setting). list_all (λ course. list_all (asks_rightly new course) new.machine.links) (courses_of_clients setting 1 new.machine.clients) ≡ true) (sym one.setting)
      (all_ask old inv.orderly inv.lost.pending new one.setting items left by.kind by.happens (happens_step old.setting (at_event old.machine) items left by.kind new.machine by.happens)
      (both_all (λ course. list_all (is_gone old.machine.links (courses_of old)) (lost_links course)) (λ course. list_all (asks_rightly old course) old.machine.links) (courses_of old) inv.lost.gone inv.lost.asks));
}
