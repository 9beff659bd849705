-- Of Lost: an error that tells of an event tells of that which ended the connection whose
-- identifier was asked last, at the start and behind each event.
use Rattle.std.proofs.Common.{◌≡◌, refl, ap, subst, ◌∙◌, Bool, true, false, ℕ, List, [], ◌∷◌, ◌++◌, Option, Some, None, if◌then◌else◌}
use Rattle.std.specs.Prelude.{◌+◌, ◌-◌, nat_le, option_and_then}
use Rattle.std.specs.List.{list_all, last_or}
use Rattle.std.specs.Option.{option_map_or}
use Rattle.std.proofs.lemmas.List.{map-append}
use Rattle.svc_values.specs.declared.frame.Down.{Down}
use Rattle.svc_values.specs.declared.frame.Down.TheVariants as down
use Rattle.outage_schedule.specs.declared.item.Served.{Served}
use Rattle.outage_schedule.specs.declared.request.Outcome.{Outcome}
use Rattle.run_clauses.specs.meaning.Reports.{failure_of, failed_in, report_of}
use Rattle.client_model.specs.declared.act.Act.{Act}
use Rattle.client_model.specs.declared.act.Failed.{Failed}
use Rattle.client_model.specs.declared.act.Failed.TheVariants as failed
use Rattle.client_model.specs.declared.act.Hold.{Hold}
use Rattle.client_model.specs.declared.act.Hold.TheVariants as hold
use Rattle.client_model.specs.declared.input.Input.{Input}
use Rattle.client_model.specs.declared.input.Input.TheVariants.{Start, Waiting, Lent, Opened, TryFailed, Took, Gone}
use Rattle.client_model.specs.meaning.Conversation.{Done}
use Rattle.client_model.specs.meaning.States.{Asking}
use Rattle.client_model.specs.meaning.Talk.{stands, quiet, fails, with_tried, lost_of, waits_from, on_waiting, on_try_failed, talk_step}
use Rattle.client_model.specs.meaning.Terms.{Terms, Talk, Phase, Queued, Seeking, Asked}
use Rattle.world_model.specs.meaning.Clients.{Step, Doing}
use Rattle.world_model.specs.Orderly.{Orderly}
use Rattle.invariant_laws.specs.KeptLaws.{IsKeptOfAll}
use Rattle.world_model.specs.meaning.Links.{Link}
use Rattle.invariant_laws.specs.Lost.{lost_links, is_gone, is_wanted, are_pending, event_of, has_event, have_events}
use Rattle.world_model.specs.meaning.Machines.{Machine}
use Rattle.world_model.specs.meaning.Matching.{Noted}
use Rattle.world_model.specs.Reached.{traced_start}
use Rattle.world_model.specs.meaning.Settings.{setting_of}
use Rattle.world_model.specs.Traced.{Traced, Course, courses_of}
use Rattle.world_model.specs.Wanted.{Wanted, wanted_in}
use Rattle.world_model.specs.Words.{dones_of}
use Rattle.world_model.proofs.Offered.{HasStepped, GoesOn, AtOnce, LostToo, happens_step, last_pushed, Followed, follow_happens, at_event, resting_none, Happens, first_step, first_doing, eq_from}
use Rattle.invariant_laws.proofs.losses.KeptOutcomes.{wanted_alike, wanted_kept}
use Rattle.invariant_laws.proofs.losses.LostKept.{any_link, any_still, any_ended, course_before, course_kept, course_ended, KeepsLost, lost_kept}
use Rattle.invariant_laws.proofs.losses.LostSteps.{over_failed, over_lets}
use Rattle.invariant_laws.proofs.losses.OutcomesTold.{told_more, outcomes_are}
use Rattle.invariant_laws.proofs.talks.TalkFails.{told_to, may_fail, taken_fails, no_hello, keeps_none, lets_may}

-- FAILURES ----------------------------------------------------------------------------------------

-- without an outcome no error tells of an event
no_event : (failure : Option Failed) → may_fail failure None ≡ true → event_of (option_and_then failure_of failure) ≡ None
no_event None may = refl
no_event (Some (failed.Disabled reason event)) may = absurd (let none : ⊥ = cc in none)
no_event (Some (failed.Replays limit event)) may = absurd (let none : ⊥ = cc in none)
no_event (Some (failed.Incomplete x)) may = refl
no_event (Some (failed.Retries tries)) may = refl
no_event (Some (failed.PoolWait first now)) may = refl
no_event (Some (failed.Mismatch call seen now)) may = refl
no_event (Some (failed.ReplayTimeout first ready)) may = refl
no_event (Some (failed.Unknown x)) may = refl
no_event (Some (failed.BadPeer tag)) may = refl

-- with one it is that of what was asked
told_event : (failure : Option Failed) (asking : Asking) (event : ℕ) → may_fail failure (Some asking) ≡ true → event_of (option_and_then failure_of failure) ≡ Some event → asking.event ≡ event
told_event None asking event may is = absurd (let none : ⊥ = cc in none)
told_event (Some (failed.Disabled reason one)) asking event may is = let same : one ≡ event = cc in eq_from asking.event one may ∙ same
told_event (Some (failed.Replays limit one)) asking event may is = let same : one ≡ event = cc in eq_from asking.event one may ∙ same
told_event (Some (failed.Incomplete x)) asking event may is = absurd (let none : ⊥ = cc in none)
told_event (Some (failed.Retries tries)) asking event may is = absurd (let none : ⊥ = cc in none)
told_event (Some (failed.PoolWait first now)) asking event may is = absurd (let none : ⊥ = cc in none)
told_event (Some (failed.Mismatch call seen now)) asking event may is = absurd (let none : ⊥ = cc in none)
told_event (Some (failed.ReplayTimeout first ready)) asking event may is = absurd (let none : ⊥ = cc in none)
told_event (Some (failed.Unknown x)) asking event may is = absurd (let none : ⊥ = cc in none)
told_event (Some (failed.BadPeer tag)) asking event may is = absurd (let none : ⊥ = cc in none)

waited_event : (terms : Terms) (talk : Talk) (from now : ℕ) → event_of (option_and_then failure_of (on_waiting terms talk from now).1.failed) ≡ None
waited_event terms talk from now = by (nat_le terms.limits.wait (now - from))
  where
    by : (long : Bool) → event_of (option_and_then failure_of (if long then fails talk false None (failed.PoolWait from now) else (stands talk (Queued (Some from)), quiet)).1.failed) ≡ None
    by true = refl
    by false = refl

tried_event : (terms : Terms) (talk : Talk) (now : ℕ) → event_of (option_and_then failure_of (on_try_failed terms talk now).1.failed) ≡ None
tried_event terms talk now = by (nat_le terms.limits.retries (talk.tries + 1))
  where
    by : (many : Bool)
        → event_of (option_and_then failure_of (if many then fails (with_tried talk now) false None (failed.Retries (talk.tries + 1)) else (stands (with_tried talk now) (Seeking (lost_of talk.phase)), quiet)).1.failed) ≡ None
    by true = refl
    by false = refl

-- a step in which the request goes on has no error
waited_kept : (terms : Terms) (talk : Talk) (from now : ℕ) → (on_waiting terms talk from now).1.hold ≡ hold.Keep → (on_waiting terms talk from now).1.failed ≡ None
waited_kept terms talk from now keep = by (nat_le terms.limits.wait (now - from)) keep
  where
    by : (long : Bool) → (if long then fails talk false None (failed.PoolWait from now) else (stands talk (Queued (Some from)), quiet)).1.hold ≡ hold.Keep
        → (if long then fails talk false None (failed.PoolWait from now) else (stands talk (Queued (Some from)), quiet)).1.failed ≡ None
    by true keep = absurd (let none : ⊥ = cc in none)
    by false keep = refl

tried_kept : (terms : Terms) (talk : Talk) (now : ℕ) → (on_try_failed terms talk now).1.hold ≡ hold.Keep → (on_try_failed terms talk now).1.failed ≡ None
tried_kept terms talk now keep = by (nat_le terms.limits.retries (talk.tries + 1)) keep
  where
    by : (many : Bool) → (if many then fails (with_tried talk now) false None (failed.Retries (talk.tries + 1)) else (stands (with_tried talk now) (Seeking (lost_of talk.phase)), quiet)).1.hold ≡ hold.Keep
        → (if many then fails (with_tried talk now) false None (failed.Retries (talk.tries + 1)) else (stands (with_tried talk now) (Seeking (lost_of talk.phase)), quiet)).1.failed ≡ None
    by true keep = absurd (let none : ⊥ = cc in none)
    by false keep = refl

pub kept_unfailed : (terms : Terms) (talk : Talk) (input : Input) (now : ℕ) → (talk_step terms talk input now).1.hold ≡ hold.Keep → (talk_step terms talk input now).1.failed ≡ None
kept_unfailed terms talk Start now keep = refl
kept_unfailed terms talk Waiting now keep = waited_kept terms talk (waits_from talk.phase now) now keep
kept_unfailed terms talk (Lent connection x) now keep =
    let act : Act = (talk_step terms talk (Lent connection x) now).1 in keeps_none act.hold act.failed None (no_hello None terms talk None x true now) keep
kept_unfailed terms talk (Opened connection) now keep = refl
kept_unfailed terms talk TryFailed now keep = tried_kept terms talk now keep
kept_unfailed terms talk (Took frame alive) now keep =
    let act : Act = (talk_step terms talk (Took frame alive) now).1 in keeps_none act.hold act.failed (told_to talk.phase frame) (taken_fails terms talk talk.phase frame alive now) keep
kept_unfailed terms talk (Gone event) now keep = refl

-- THE TEST ----------------------------------------------------------------------------------------

-- the event of an error ended the connection on which this outcome's identifier is held
abbrev tells : List Link → List ℕ → Option ℕ → Option Outcome → Bool
tells links numbers event last = option_map_or (λ one. option_map_or (λ outcome. any_link (λ link. is_wanted link (record { ltxid = outcome.ltxid; event = one })) links numbers) last false) event true

told_pair : (phase : Phase) (frame : Down) (alive : Bool) (asking : Asking) → told_to phase frame ≡ Some asking → (phase ≡ Asked asking) × ((outcome : Outcome) × ((told_more (Took frame alive) phase ≡ outcome ∷ []) × (outcome.ltxid ≡ asking.ltxid)))
told_pair (Asked one) (down.OutcomeIs committed completed) alive asking is = let same : one ≡ asking = cc in (ap Asked same, (record { ltxid = one.ltxid; committed = committed; completed = completed }, (refl, ap (λ (a : Asking). a.ltxid) same)))
told_pair phase frame alive asking is = absurd (let none : ⊥ = cc in none)

module _ (t : Traced) (inv : Orderly t) (pending : are_pending t ≡ true) (new : Traced) (setting : new.setting ≡ t.setting) (items left : List Served) (kind : Noted) (happens : Happens t.setting (at_event t.machine) items left kind new.machine) where
  abbrev now : Machine
  now = at_event t.machine

  tells_still : (numbers : List ℕ) → list_all (is_gone t.machine.links (courses_of t)) numbers ≡ true → (event : Option ℕ) (last : Option Outcome) → tells t.machine.links numbers event last ≡ true → tells new.machine.links numbers event last ≡ true
  tells_still numbers gone None last here = refl
  tells_still numbers gone (Some event) None here = absurd (let none : ⊥ = cc in none)
  tells_still numbers gone (Some event) (Some outcome) here =
      let wanted : Wanted = record { ltxid = outcome.ltxid; event = event } in any_still t inv new setting items left kind happens (λ link. is_wanted link wanted) (wanted_alike wanted) numbers gone here

  abbrev events_test : List Link → Course → Bool
  events_test links course = tells links (lost_links course) (event_of course.report.failed) (last_or None course.report.outcomes)

  module _ (who : ℕ) (step : HasStepped t.setting now who new.machine) where
    abbrev act : Act
    act = (first_step t.setting now inv.script.talks who new.machine step).done.act

    -- what the client does at an input
    abbrev act_on : Input → Act
    act_on input = (talk_step t.setting.terms step.before.talk input now.tick).1

    kept_failed : (after : Doing) (kept : Hold) → kept ≡ hold.Keep → GoesOn t.setting (first_doing t.setting now inv.script.talks who new.machine step) act.hold after kept → failed_in (dones_of after.steps) ≡ None
    kept_failed _ _ keep AtOnce =
        ap (λ (last : Option Done). option_and_then (λ (done : Done). done.act.failed) last)
        (ap (last_or None) (map-append (λ (s : Step). s.done) step.before.steps (_ ∷ [])) ∙ last_pushed None (dones_of step.before.steps) (first_step t.setting now inv.script.talks who new.machine step).done)
        ∙ kept_unfailed t.setting.terms step.before.talk step.input now.tick keep
    kept_failed _ _ keep (LostToo event tick ended is) =
        ap (λ (last : Option Done). option_and_then (λ (done : Done). done.act.failed) last)
        (ap (last_or None) (map-append (λ (s : Step). s.done) (first_doing t.setting now inv.script.talks who new.machine step).steps (_ ∷ [])) ∙ last_pushed None (dones_of (first_doing t.setting now inv.script.talks who new.machine step).steps) _)

    goes_so : step.held ≡ hold.Keep → events_test new.machine.links (course_kept t inv new setting items left kind happens who step) ≡ true
    goes_so keep =
        ap (λ (failure : Option Failed). tells new.machine.links (lost_links (course_kept t inv new setting items left kind happens who step)) (event_of (option_and_then failure_of failure)) (last_or None (course_kept t inv new setting items left kind happens who step).report.outcomes))
        (kept_failed step.after step.held keep step.goes_on)

    -- one that is over
    module _ (lets : step.held ≡ hold.Keep → ⊥) (gone : list_all (is_gone t.machine.links (courses_of t)) (lost_links (course_before t inv new setting items left kind happens who step)) ≡ true) where
      abbrev numbers : List ℕ
      numbers = lost_links (course_ended t inv new setting items left kind happens who step)

      abbrev outcomes : List Outcome
      outcomes = (report_of t.setting.terms step.after.request (dones_of step.after.steps)).outcomes

      untold : (found : Option ℕ) → found ≡ None → tells new.machine.links numbers found (last_or None outcomes) ≡ true
      untold found none = ap (λ (event : Option ℕ). tells new.machine.links numbers event (last_or None outcomes)) none

      told_so : (asking : Asking) (frame : Down) (alive : Bool) → step.input ≡ Took frame alive → told_to step.before.talk.phase frame ≡ Some asking → may_fail act.failed (Some asking) ≡ true
          → tells new.machine.links numbers (event_of (option_and_then failure_of act.failed)) (last_or None outcomes) ≡ true
      told_so asking frame alive is told may = by (event_of (option_and_then failure_of act.failed)) refl
        where
          pair : (step.before.talk.phase ≡ Asked asking) × ((outcome : Outcome) × ((told_more (Took frame alive) step.before.talk.phase ≡ outcome ∷ []) × (outcome.ltxid ≡ asking.ltxid)))
          pair = told_pair step.before.talk.phase frame alive asking told

          last : last_or None outcomes ≡ Some pair.1.0
          last =
              ap (last_or None) (outcomes_are t inv who new.machine step
              ∙ ap (λ (more : List Outcome). (course_before t inv new setting items left kind happens who step).report.outcomes ++ more) (ap (λ (input : Input). told_more input step.before.talk.phase) is ∙ pair.1.1.0))
              ∙ last_pushed None (course_before t inv new setting items left kind happens who step).report.outcomes pair.1.0

          wants : any_link (λ link. is_wanted link (record { ltxid = asking.ltxid; event = asking.event })) new.machine.links numbers ≡ true
          wants =
              any_ended t inv new setting items left kind happens who step lets (λ link. is_wanted link (record { ltxid = asking.ltxid; event = asking.event }))
              (wanted_kept t inv pending new setting items left kind happens who step gone (record { ltxid = asking.ltxid; event = asking.event }) (ap wanted_in pair.0))

          by : (found : Option ℕ) → event_of (option_and_then failure_of act.failed) ≡ found → tells new.machine.links numbers found (last_or None outcomes) ≡ true
          by None found_is = refl
          by (Some event) found_is =
              let same : asking.event ≡ event = told_event act.failed asking event may found_is in
              ap (λ (one : Option Outcome). tells new.machine.links numbers (Some event) one) last
              ∙ (ap (λ (x : _). any_link (λ link. is_wanted link (record { ltxid = x; event = event })) new.machine.links numbers) pair.1.1.1
              ∙ subst (λ (e : ℕ). any_link (λ link. is_wanted link (record { ltxid = asking.ltxid; event = e })) new.machine.links numbers ≡ true) same wants)

      taken_so : (frame : Down) (alive : Bool) → step.input ≡ Took frame alive → (told : Option Asking) → told_to step.before.talk.phase frame ≡ told → may_fail act.failed told ≡ true
          → tells new.machine.links numbers (event_of (option_and_then failure_of act.failed)) (last_or None outcomes) ≡ true
      taken_so frame alive is None told may = untold (event_of (option_and_then failure_of act.failed)) (no_event act.failed may)
      taken_so frame alive is (Some asking) told may = told_so asking frame alive is told may

      act_so : tells new.machine.links numbers (event_of (option_and_then failure_of act.failed)) (last_or None outcomes) ≡ true
      act_so = by step.input refl
        where
          kept : (input : Input) → step.input ≡ input → (act_on input).hold ≡ hold.Keep → tells new.machine.links numbers (event_of (option_and_then failure_of act.failed)) (last_or None outcomes) ≡ true
          kept input is keep = absurd (over_lets t inv who new.machine step lets (ap (λ (i : Input). (act_on i).hold) is ∙ keep))

          by : (input : Input) → step.input ≡ input → tells new.machine.links numbers (event_of (option_and_then failure_of act.failed)) (last_or None outcomes) ≡ true
          by Start is = kept Start is refl
          by Waiting is = untold (event_of (option_and_then failure_of act.failed)) (ap (λ (i : Input). event_of (option_and_then failure_of (act_on i).failed)) is ∙ waited_event t.setting.terms step.before.talk (waits_from step.before.talk.phase now.tick) now.tick)
          by (Lent connection x) is =
              untold (event_of (option_and_then failure_of act.failed))
              (ap (λ (i : Input). event_of (option_and_then failure_of (act_on i).failed)) is
              ∙ no_event (act_on (Lent connection x)).failed (lets_may (act_on (Lent connection x)).hold (act_on (Lent connection x)).failed None (no_hello None t.setting.terms step.before.talk None x true now.tick)))
          by (Opened connection) is = kept (Opened connection) is refl
          by TryFailed is = untold (event_of (option_and_then failure_of act.failed)) (ap (λ (i : Input). event_of (option_and_then failure_of (act_on i).failed)) is ∙ tried_event t.setting.terms step.before.talk now.tick)
          by (Took frame alive) is =
              taken_so frame alive is (told_to step.before.talk.phase frame) refl
              (ap (λ (i : Input). may_fail (act_on i).failed (told_to step.before.talk.phase frame)) is
              ∙ lets_may (act_on (Took frame alive)).hold (act_on (Took frame alive)).failed (told_to step.before.talk.phase frame) (taken_fails t.setting.terms step.before.talk step.before.talk.phase frame alive now.tick))
          by (Gone event) is = kept (Gone event) is refl

      ends_so : events_test new.machine.links (course_ended t inv new setting items left kind happens who step) ≡ true
      ends_so =
          ap (λ (failure : Option Failed). tells new.machine.links numbers (event_of (option_and_then failure_of failure)) (last_or None outcomes)) (over_failed t inv who new.machine step lets) ∙ act_so

  keeps_events : KeepsLost t inv new setting items left kind happens events_test
  keeps_events = record {
    others = λ course gone here. tells_still (lost_links course) gone (event_of course.report.failed) (last_or None course.report.outcomes) here;
    begins = λ who place request. refl;
    goes = λ who step keep gone here. goes_so who step keep;
    ends = λ who step over gone here. ends_so who step over gone;
  }

pub events_law : IsKeptOfAll have_events
events_law = record {
  at_start = λ document. resting_none (setting_of document) 1 (has_event (traced_start document)) document.clients;
  at_event = λ before after old new event note items left one inv.
      let by : Followed old.setting old.machine event note items left new.machine = follow_happens old.setting old.machine event note items left new.machine one.follows in
      lost_kept old inv.orderly new one.setting items left by.kind by.happens (events_test old inv.orderly inv.lost.pending new one.setting items left by.kind by.happens)
      (keeps_events old inv.orderly inv.lost.pending new one.setting items left by.kind by.happens) inv.lost.gone (happens_step old.setting (at_event old.machine) items left by.kind new.machine by.happens) inv.lost.events;
}
