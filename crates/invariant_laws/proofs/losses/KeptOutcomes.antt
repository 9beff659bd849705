-- Of Lost: each outcome that a request took is of the identifier of a connection that it lost, at
-- the start and behind each event.
use Rattle.std.proofs.Common.{◌≡◌, refl, sym, ap, subst, ◌∙◌, Bool, true, false, ℕ, ◌||◌, List, [], ◌∷◌, ◌++◌, Option, Some, None}
use Rattle.std.specs.List.{list_all}
use Rattle.std.specs.Option.{option_map_or}
use Rattle.std.proofs.lemmas.Bool.{and_parts, or_right, or_left}
use Rattle.svc_values.specs.declared.entry.Ltxid.{Ltxid}
use Rattle.svc_values.specs.declared.frame.Down.TheVariants as down
use Rattle.svc_values.specs.meaning.Identifiers.{same_ltxid}
use Rattle.outage_schedule.specs.declared.item.Served.{Served}
use Rattle.outage_schedule.specs.declared.request.Outcome.{Outcome}
use Rattle.run_clauses.specs.meaning.Reports.{report_of}
use Rattle.client_model.specs.declared.input.Input.{Input}
use Rattle.client_model.specs.declared.input.Input.TheVariants.{Took}
use Rattle.client_model.specs.meaning.Terms.{Phase, Asked}
use Rattle.world_model.specs.Orderly.{Orderly}
use Rattle.invariant_laws.specs.KeptLaws.{IsKeptOfAll}
use Rattle.world_model.specs.meaning.Links.{Link, link_at}
use Rattle.invariant_laws.specs.Lost.{lost_links, same_event, is_gone, is_wanted, one_pending, are_pending, is_of_lost, outcomes_lost}
use Rattle.world_model.specs.meaning.Machines.{Machine}
use Rattle.world_model.specs.meaning.Matching.{Noted}
use Rattle.world_model.specs.Reached.{traced_start}
use Rattle.world_model.specs.meaning.Settings.{setting_of}
use Rattle.world_model.specs.Traced.{Traced, Course, courses_of}
use Rattle.world_model.specs.Wanted.{Wanted, wanted_in}
use Rattle.world_model.specs.Words.{dones_of}
use Rattle.world_model.proofs.Offered.{append_all, one_all, weaker_all, HasStepped, happens_step, Followed, follow_happens, at_event, resting_none, Happens}
use Rattle.invariant_laws.proofs.losses.LostKept.{any_link, any_still, any_kept, any_ended, course_before, course_kept, course_ended, KeepsLost, lost_kept}
use Rattle.invariant_laws.proofs.losses.LostSteps.{before_so}
use Rattle.invariant_laws.proofs.losses.OutcomesTold.{told_more, outcomes_are}
use Rattle.invariant_laws.proofs.losses.ShutStays.{IsFrozen}

-- THE IDENTIFIER ----------------------------------------------------------------------------------

-- this identifier is held on it
abbrev pub holds_one : Ltxid → Link → Bool
holds_one x link = option_map_or (same_ltxid x) link.held false

pub holds_alike : (x : Ltxid) (a b : Link) → IsFrozen a b → holds_one x a ≡ true → holds_one x b ≡ true
holds_alike x a b same here = ap (λ (held : Option Ltxid). option_map_or (same_ltxid x) held false) same.held ∙ here

pub wanted_alike : (wanted : Wanted) (a b : Link) → IsFrozen a b → is_wanted a wanted ≡ true → is_wanted b wanted ≡ true
wanted_alike wanted a b same here =
    ap (λ (held : Option Ltxid). is_wanted (record b { held = held }) wanted) same.held
    ∙ (ap (λ (ended : Option ℕ). is_wanted (record a { ended = ended }) wanted) same.ended ∙ here)

pub any_weaker : (test next : Link → Bool) → ((link : Link) → test link ≡ true → next link ≡ true) → (links : List Link) (numbers : List ℕ) → any_link test links numbers ≡ true → any_link next links numbers ≡ true
any_weaker test next weaker links [] any = any
any_weaker test next weaker links (number ∷ numbers) any = by (link_at links number) (λ later. any_weaker test next weaker links numbers later) any
  where
    by : (found : Option Link) → (any_link test links numbers ≡ true → any_link next links numbers ≡ true) → (option_map_or test found false || any_link test links numbers) ≡ true → (option_map_or next found false || any_link next links numbers) ≡ true
    by None later any = later any
    by (Some link) later any = either (test link) (next link) (weaker link) later any
      where
        either : (one other : Bool) → (one ≡ true → other ≡ true) → (any_link test links numbers ≡ true → any_link next links numbers ≡ true) → (one || any_link test links numbers) ≡ true → (other || any_link next links numbers) ≡ true
        either true other first rest any = or_left other (any_link next links numbers) (first refl)
        either false other first rest any = or_right other (any_link next links numbers) (rest any)

module _ (t : Traced) (inv : Orderly t) (pending : are_pending t ≡ true) (new : Traced) (setting : new.setting ≡ t.setting) (items left : List Served) (kind : Noted) (happens : Happens t.setting (at_event t.machine) items left kind new.machine) where
  abbrev now : Machine
  now = at_event t.machine

  -- what a request wants is held on a connection that it lost
  pub wanted_lost : (who : ℕ) (step : HasStepped t.setting now who new.machine) (wanted : Wanted) → wanted_in step.before.talk.phase ≡ Some wanted
      → any_link (λ link. is_wanted link wanted) t.machine.links (lost_links (course_before t inv new setting items left kind happens who step)) ≡ true
  wanted_lost who step wanted is =
      let course : Course = course_before t inv new setting items left kind happens who step in
      let one : one_pending t course ≡ true = before_so t inv who new.machine step (one_pending t) pending (λ request. refl) in
      sym (ap (λ (found : Option Wanted). option_map_or (λ w. any_link (λ link. is_wanted link w) t.machine.links (lost_links course)) found true) is)
      ∙ (and_parts _ (option_map_or (λ w. any_link (λ link. is_wanted link w) t.machine.links (lost_links course)) (wanted_in step.before.talk.phase) true) one).1

  -- and on one that it has lost behind the event
  pub wanted_kept : (who : ℕ) (step : HasStepped t.setting now who new.machine) → list_all (is_gone t.machine.links (courses_of t)) (lost_links (course_before t inv new setting items left kind happens who step)) ≡ true
      → (wanted : Wanted) → wanted_in step.before.talk.phase ≡ Some wanted
      → any_link (λ link. is_wanted link wanted) new.machine.links (lost_links (course_before t inv new setting items left kind happens who step)) ≡ true
  wanted_kept who step gone wanted is =
      any_still t inv new setting items left kind happens (λ link. is_wanted link wanted) (wanted_alike wanted) (lost_links (course_before t inv new setting items left kind happens who step)) gone (wanted_lost who step wanted is)

  -- each outcome is of the identifier that is held on a connection that was lost
  abbrev all_lost : List Link → List ℕ → List Outcome → Bool
  all_lost links numbers outcomes = list_all (λ (outcome : Outcome). any_link (holds_one outcome.ltxid) links numbers) outcomes

  told_lost : (links : List Link) (numbers : List ℕ) (input : Input) (phase : Phase) → ((wanted : Wanted) → wanted_in phase ≡ Some wanted → any_link (λ link. is_wanted link wanted) links numbers ≡ true) → all_lost links numbers (told_more input phase) ≡ true
  told_lost links numbers (Took (down.OutcomeIs committed completed) alive) (Asked asking) wants =
      let wanted : Wanted = record { ltxid = asking.ltxid; event = asking.event } in
      one_all (λ (outcome : Outcome). any_link (holds_one outcome.ltxid) links numbers) (record { ltxid = asking.ltxid; committed = committed; completed = completed })
      (any_weaker (λ link. is_wanted link wanted) (holds_one asking.ltxid) (λ link here. (and_parts (holds_one asking.ltxid link) (same_event link.ended asking.event) here).0) links numbers (wants wanted refl))
  told_lost links numbers input phase wants = refl

  still_lost : (numbers : List ℕ) → list_all (is_gone t.machine.links (courses_of t)) numbers ≡ true → (outcomes : List Outcome) → all_lost t.machine.links numbers outcomes ≡ true → all_lost new.machine.links numbers outcomes ≡ true
  still_lost numbers gone outcomes all =
      weaker_all (λ (outcome : Outcome). any_link (holds_one outcome.ltxid) t.machine.links numbers) (λ (outcome : Outcome). any_link (holds_one outcome.ltxid) new.machine.links numbers) outcomes
      (λ outcome here. any_still t inv new setting items left kind happens (holds_one outcome.ltxid) (holds_alike outcome.ltxid) numbers gone here) all

  more_lost : (numbers later : List ℕ) → ((test : Link → Bool) → any_link test new.machine.links numbers ≡ true → any_link test new.machine.links later ≡ true) → (outcomes : List Outcome) → all_lost new.machine.links numbers outcomes ≡ true
      → all_lost new.machine.links later outcomes ≡ true
  more_lost numbers later more outcomes all =
      weaker_all (λ (outcome : Outcome). any_link (holds_one outcome.ltxid) new.machine.links numbers) (λ (outcome : Outcome). any_link (holds_one outcome.ltxid) new.machine.links later) outcomes (λ outcome here. more (holds_one outcome.ltxid) here) all

  module _ (who : ℕ) (step : HasStepped t.setting now who new.machine) where
    abbrev before : Course
    before = course_before t inv new setting items left kind happens who step

    -- all outcomes behind a step
    step_lost : (later : List ℕ) → ((test : Link → Bool) → any_link test new.machine.links (lost_links before) ≡ true → any_link test new.machine.links later ≡ true) → list_all (is_gone t.machine.links (courses_of t)) (lost_links before) ≡ true
        → all_lost t.machine.links (lost_links before) before.report.outcomes ≡ true
        → all_lost new.machine.links later (report_of t.setting.terms step.after.request (dones_of step.after.steps)).outcomes ≡ true
    step_lost later more gone all =
        subst (λ (outcomes : List Outcome). all_lost new.machine.links later outcomes ≡ true) (sym (outcomes_are t inv who new.machine step))
        (more_lost (lost_links before) later more (before.report.outcomes ++ told_more step.input step.before.talk.phase)
        (append_all (λ (outcome : Outcome). any_link (holds_one outcome.ltxid) new.machine.links (lost_links before)) before.report.outcomes (told_more step.input step.before.talk.phase)
        (still_lost (lost_links before) gone before.report.outcomes all)
        (told_lost new.machine.links (lost_links before) step.input step.before.talk.phase (wanted_kept who step gone))))

  abbrev outcomes_test : List Link → Course → Bool
  outcomes_test links course = all_lost links (lost_links course) course.report.outcomes

  keeps_outcomes : KeepsLost t inv new setting items left kind happens outcomes_test
  keeps_outcomes = record {
    others = λ course gone all. still_lost (lost_links course) gone course.report.outcomes all;
    begins = λ who place request. refl;
    goes = λ who step keep gone all. step_lost who step (lost_links (course_kept t inv new setting items left kind happens who step)) (any_kept t inv new setting items left kind happens who step) gone all;
    ends = λ who step over gone all. step_lost who step (lost_links (course_ended t inv new setting items left kind happens who step)) (any_ended t inv new setting items left kind happens who step over) gone all;
  }

pub outcomes_law : IsKeptOfAll outcomes_lost
outcomes_law = record {
  at_start = λ document. resting_none (setting_of document) 1 (λ course. list_all (is_of_lost (traced_start document) course) course.report.outcomes) document.clients;
  at_event = λ before after old new event note items left one inv.
      let by : Followed old.setting old.machine event note items left new.machine = follow_happens old.setting old.machine event note items left new.machine one.follows in
      lost_kept old inv.orderly new one.setting items left by.kind by.happens (outcomes_test old inv.orderly inv.lost.pending new one.setting items left by.kind by.happens)
      (keeps_outcomes old inv.orderly inv.lost.pending new one.setting items left by.kind by.happens) inv.lost.gone (happens_step old.setting (at_event old.machine) items left by.kind new.machine by.happens) inv.lost.outcomes;
}
