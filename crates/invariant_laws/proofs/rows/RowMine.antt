-- On each connection that a request held its calls are in a row behind its step.
use Rattle.std.proofs.Common.{◌≡◌, refl, sym, ap, subst, ◌∙◌, Bool, true, false, ℕ, ◌+◌, length, List, [], map, Option, Some, None, ◌⊎◌, inl, inr}
use Rattle.std.specs.Prelude.{◌==◌, option_map}
use Rattle.std.specs.Option.{option_map_or}
use Rattle.client_model.specs.declared.input.Input.{Input}
use Rattle.client_model.specs.declared.input.Input.TheVariants.{Took}
use Rattle.client_model.specs.meaning.States.{Asking}
use Rattle.client_model.specs.meaning.Talk.{takes, talk_step}
use Rattle.client_model.specs.meaning.Terms.{Phase, Idle, Unbegun, Queued, Seeking, Greeting, Asked, Running, Replaying}
use Rattle.world_model.specs.records.Conversing.{AllTalk, connected}
use Rattle.world_model.specs.meaning.Frames.{Owner, Sent}
use Rattle.world_model.specs.records.Hold.{is_awaited}
use Rattle.world_model.specs.meaning.Links.{Link}
use Rattle.world_model.specs.meaning.Machines.{Machine}
use Rattle.run_clauses.specs.meaning.Reports.{shown_call}
use Rattle.world_model.specs.records.Script.{recorded_from}
use Rattle.invariant_laws.specs.Shown.{has_unmarked, is_current, is_row}
use Rattle.world_model.specs.meaning.Settings.{Setting}
use Rattle.world_model.specs.Traced.{Course, course_now}
use Rattle.world_model.proofs.Offered.{HasStepped, sent_so, sents_at, sents_pass, PassesAt, passes_from, grown_at, link_sents, sent_lists, account_now, first_step, first_doing, eq_to}
use Rattle.invariant_laws.proofs.rows.RowCourses.{row_test, replay_shows, OnIt}
use Rattle.invariant_laws.proofs.rows.RowKept.{near_at, own_new, stays, quiet_report, no_row_yet, out_call, taken_facts}
use Rattle.invariant_laws.proofs.rows.RowCourses.{ask_opens, connect_opens}
use Rattle.invariant_laws.proofs.rows.RowLast.{row_of}
use Rattle.invariant_laws.proofs.talks.TalkRows.{RowStep, taken_row}

module _ (setting : Setting) (m : Machine) (talks : AllTalk setting.terms m.clients) (number : ℕ) (n : Machine) (step : HasStepped setting m number n)
    (kept : (asking : Asking) → step.before.talk.phase ≡ Asked asking → asking.track.why ≡ None
    → length asking.track.recorder.calls + recorded_from (map shown_call (account_now setting.terms step.before).shown) ≡ asking.track.call)
    (d : Course) (report : d.report.calls ≡ map shown_call (account_now setting.terms (first_doing setting m talks number n step)).shown) (request : d.request.calls ≡ step.before.request.calls)
    (on : (connection : ℕ) → step.before.connection ≡ Some connection → OnIt m.links (record { client = number; place = length step.client.past }) step.before.connection step.before.talk.phase) where
  abbrev mine : Owner
  mine = record { client = number; place = length step.client.past }

  abbrev before_course : Course
  before_course = course_now setting number (length step.client.past) step.before

  abbrev step_by : Input → Type 0
  step_by input =
      RowStep step.before.talk.phase (talk_step setting.terms step.before.talk input m.tick).0.phase (talk_step setting.terms step.before.talk input m.tick).1.shown (talk_step setting.terms step.before.talk input m.tick).1.send

  taken_step : (frame : _) (alive : Bool) → step.input ≡ Took frame alive → step_by step.input
  taken_step frame alive is = subst step_by (sym is) (taken_row setting.terms step.before.talk step.before.talk.phase frame alive m.tick)

  -- the row is whole where it has no call without the mark
  whole_by : (frame : _) (alive : Bool) → step.input ≡ Took frame alive → (on_it : OnIt m.links mine step.before.connection step.before.talk.phase) (p : Phase) → step.before.talk.phase ≡ p → has_unmarked (row_of mine on_it.link.sent) ≡ false
      → (row_of mine on_it.link.sent ≡ []) ⊎ (d.report.calls ≡ before_course.report.calls)
  whole_by frame alive input on_it (Greeting lost) is none = inl (no_row_yet setting m talks number n step on_it (Greeting lost) is (connect_opens on_it.last.frame))
  whole_by frame alive input on_it (Asked asking) is none = inl (no_row_yet setting m talks number n step on_it (Asked asking) is (ask_opens asking.ltxid on_it.last.frame))
  whole_by frame alive input on_it (Running state) is none =
      let out = out_call setting m talks number n step on_it false state.track.call (subst (λ (q : Phase). is_awaited q on_it.last ≡ true) is on_it.awaited) in
      absurd (let some : has_unmarked (row_of mine on_it.link.sent) ≡ true = out.2 refl in let never : ⊥ = cc in never)
  whole_by frame alive input on_it (Replaying state) is none =
      inr (quiet_report setting m talks number n step kept d report request
      (ap (λ (i : Input). (talk_step setting.terms step.before.talk i m.tick).1.shown) input
      ∙ (ap (λ (q : Phase). (takes setting.terms step.before.talk q frame alive m.tick).1.shown) is ∙ replay_shows setting.terms step.before.talk state frame alive m.tick)))
  whole_by frame alive input on_it Idle is none = absurd (let e : is_awaited Idle on_it.last ≡ true = subst (λ (q : Phase). is_awaited q on_it.last ≡ true) is on_it.awaited in let never : ⊥ = cc in never)
  whole_by frame alive input on_it Unbegun is none = absurd (let e : is_awaited Unbegun on_it.last ≡ true = subst (λ (q : Phase). is_awaited q on_it.last ≡ true) is on_it.awaited in let never : ⊥ = cc in never)
  whole_by frame alive input on_it (Queued from) is none = absurd (let e : is_awaited (Queued from) on_it.last ≡ true = subst (λ (q : Phase). is_awaited q on_it.last ≡ true) is on_it.awaited in let never : ⊥ = cc in never)
  whole_by frame alive input on_it (Seeking lost) is none = absurd (let e : is_awaited (Seeking lost) on_it.last ≡ true = subst (λ (q : Phase). is_awaited q on_it.last ≡ true) is on_it.awaited in let never : ⊥ = cc in never)

  -- on the connection whose frame is taken
  pub taken_new : (frame : _) (alive : Bool) → step.input ≡ Took frame alive → (at : ℕ) → step.connection ≡ Some at → sents_pass (row_test before_course at) (sent_lists m.links) at ≡ true → sent_so mine step.before.steps (sent_lists m.links) at ≡ true
      → sents_pass (λ s. is_row d (is_current d at) (row_of mine s)) (sent_lists n.links) at ≡ true
  taken_new frame alive input at has row sends =
      let held : step.before.connection ≡ Some at = ap (connected step.before.connection) (sym input) ∙ (step.connects ∙ has) in
      let on_it : OnIt m.links mine step.before.connection step.before.talk.phase = on at held in
      let e : Some on_it.number ≡ Some at = sym on_it.has ∙ held in
      let same : on_it.number ≡ at = cc in
      let there : sents_at (sent_lists m.links) at ≡ Some on_it.link.sent =
      ap (λ (k : ℕ). sents_at (sent_lists m.links) k) (sym same) ∙ (link_sents m.links on_it.number ∙ ap (λ (found : Option Link). option_map (λ (l : Link). l.sent) found) on_it.there) in
      let old : PassesAt (row_test before_course at) (sent_lists m.links) at = passes_from (row_test before_course at) (sent_lists m.links) at row in
      let f : Some old.sents ≡ Some on_it.link.sent = sym old.there ∙ there in
      let sents_same : old.sents ≡ on_it.link.sent = cc in
      let before : is_row before_course (is_current before_course at) (row_of mine on_it.link.sent) ≡ true = subst (λ (s : List Sent). row_test before_course at s ≡ true) sents_same old.passes in
      let now : is_current before_course at ≡ true = ap (λ (c : Option ℕ). option_map_or (λ other. other == at) c false) held ∙ eq_to at at refl in
      subst (λ (lists : List (List Sent)). sents_pass (λ s. is_row d (is_current d at) (row_of mine s)) lists at ≡ true) (sym step.sent_are)
      (own_new setting m talks number n step kept d report request at on_it.link.sent step.before.talk.phase (first_step setting m talks number n step).done.act.send
      (grown_at (sent_lists m.links) step.lists at on_it.link.sent step.grows there) has refl (taken_step frame alive input) (taken_facts setting m talks number n step on_it)
      (stays setting m talks number n step kept d report request (is_current before_course at) true (row_of mine on_it.link.sent) (near_at setting m talks number n step at on_it.link.sent sends there) (λ is. now)
      (λ is none. whole_by frame alive input on_it step.before.talk.phase refl none) before))
