-- The calls of a request are in a row on each connection that it held, in each event of a run.
use Rattle.std.proofs.Common.{◌≡◌, refl, sym, ap, subst, ◌∙◌, Bool, true, false, ℕ, ◌+◌, ◌≤◌, ◌||◌, length, List, [], ◌∷◌, ◌++◌, map, Option, Some, None, ◌⊎◌, if◌then◌else◌, arith}
use Rattle.std.specs.Prelude.{not, unwrap_or}
use Rattle.std.specs.List.{list_all, last_or}
use Rattle.std.proofs.lemmas.Bool.{and_parts, and_from}
use Rattle.std.proofs.lemmas.List.{append-nil, map-append, length-map}
use Rattle.svc_values.specs.declared.call.Call.{Call}
use Rattle.svc_values.specs.declared.draw.Draw.{Draw}
use Rattle.svc_values.specs.declared.frame.Up.{Up}
use Rattle.svc_values.specs.declared.frame.Up.TheVariants as up
use Rattle.pool_core.specs.meaning.Slots.{give_back_answer}
use Rattle.client_model.specs.declared.act.Shown.{Shown}
use Rattle.client_model.specs.declared.input.Input.{Input}
use Rattle.client_model.specs.declared.input.Input.TheVariants.{Start, Waiting, Lent, Opened, TryFailed, Took, Gone}
use Rattle.client_model.specs.declared.input.Wants.TheVariants as wants
use Rattle.client_model.specs.Conversation.{is_wanted, is_gone}
use Rattle.client_model.specs.meaning.States.{Asking}
use Rattle.client_model.specs.meaning.Talk.{quiet, wants_of}
use Rattle.client_model.specs.meaning.Terms.{Talk, Phase, Idle, Unbegun, Queued, Seeking, Greeting, Asked, Running, Replaying}
use Rattle.client_model.specs.meaning.Verifying.{index_of}
use Rattle.client_model.proofs.Offered.{Fits}
use Rattle.world_model.specs.meaning.Acting.{closing, frames_of, owner_at, sent_by, call_in}
use Rattle.world_model.specs.meaning.Clients.{Step as Stepped, Doing}
use Rattle.world_model.specs.records.Conversing.{AllTalk, first_talk}
use Rattle.world_model.specs.meaning.Frames.{Owner, Sent}
use Rattle.world_model.specs.records.Hold.{is_awaited, is_call as is_awaited_call}
use Rattle.world_model.specs.meaning.Machines.{Machine}
use Rattle.run_clauses.specs.meaning.Reports.{shown_call}
use Rattle.world_model.specs.records.Script.{recorded_from}
use Rattle.invariant_laws.specs.Shown.{has_unmarked, is_current, is_row}
use Rattle.world_model.specs.Sames.{same_owner}
use Rattle.world_model.specs.meaning.Settings.{Setting}
use Rattle.world_model.specs.Traced.{Course, course_now}
use Rattle.world_model.proofs.Offered.{HasStepped, owner_self, agrees, scan_by, sent_so, said_mine, sents_at, sents_pass, PassesAt, passes_from, passes_to, spoken_own, spoken_others, sent_lists, spoken, account_now, first_step, first_doing, before_talks, counts_so, IsAt, scan_steps, eq_from}
use Rattle.invariant_laws.proofs.rows.RowCourses.{silent_row, closing_silent, row_append, OnIt, AwaitedCall, awaited_call, ask_opens, connect_opens}
use Rattle.invariant_laws.proofs.rows.RowLast.{row_of, last_row, last_unmarked, is_opening, opening_none}
use Rattle.invariant_laws.proofs.rows.RowNear.{agrees_near}
use Rattle.invariant_laws.proofs.rows.RowSteps.{RowFacts, ShownStep, NoneMore, OneMore, shown_step, before_fits, row_goes}
use Rattle.invariant_laws.proofs.rows.Rows.{is_near, row_stays, row_weaker}
use Rattle.invariant_laws.proofs.talks.TalkRows.{RowStep, Silent, Speaks, no_calls}

module _ (setting : Setting) (m : Machine) (talks : AllTalk setting.terms m.clients) (number : ℕ) (n : Machine) (step : HasStepped setting m number n) where
  abbrev mine : Owner
  mine = record { client = number; place = length step.client.past }

  abbrev one : Stepped
  one = first_step setting m talks number n step

  abbrev first : Doing
  first = first_doing setting m talks number n step

  abbrev phase : Phase
  phase = first.talk.phase

  abbrev before_course : Course
  before_course = course_now setting number (length step.client.past) step.before

  abbrev shown_before : List Shown
  shown_before = (account_now setting.terms step.before).shown

  -- THE PLACES OF CALLS ---------------------------------------------------------------------------

  pub idle_never : (input : Input) → is_wanted wants.Idle input ≡ true → ⊥
  idle_never Start is = let none : ⊥ = cc in none
  idle_never Waiting is = let none : ⊥ = cc in none
  idle_never (Lent connection ltxid) is = let none : ⊥ = cc in none
  idle_never (Opened connection) is = let none : ⊥ = cc in none
  idle_never TryFailed is = let none : ⊥ = cc in none
  idle_never (Took frame alive) is = let none : ⊥ = cc in none
  idle_never (Gone event) is = let none : ⊥ = cc in none

  pub wanted : is_wanted (wants_of setting.terms step.before.talk m.tick) step.input ≡ true
  wanted = (and_parts (is_wanted (wants_of setting.terms step.before.talk m.tick) step.input) (is_gone step.input || not false) step.may).0

  pub at_before : IsAt (scan_by mine step.before.steps) step.before.talk.phase
  at_before =
      let so = before_talks setting m talks number n step in
      subst (λ (p : Phase). IsAt (scan_by mine step.before.steps) p) (ap (λ (talk : Talk). talk.phase) so.stands)
      (scan_steps setting.terms (first_talk step.before.request) false (scan_by mine []) step.before.steps so.converses.acts so.converses.may (record { shown = refl; held = refl }))

  abbrev fits_of : Phase → Type 0
  fits_of p = Fits setting.terms step.before.request.calls (account_now setting.terms step.before) (before_fits setting m talks number n step).gone p

  most_at : (p : Phase) → step.before.talk.phase ≡ p → fits_of p → counts_so (scan_by mine step.before.steps).shown p ≡ true → (scan_by mine step.before.steps).shown ≤ length shown_before
  most_at Idle is fits counts =
      absurd (idle_never step.input (subst (λ (p : Phase). is_wanted (wants_of setting.terms (record step.before.talk { phase = p }) m.tick) step.input ≡ true) is wanted))
  most_at Unbegun is fits counts = let none : (scan_by mine step.before.steps).shown ≡ 0 = eq_from (scan_by mine step.before.steps).shown 0 counts in omega arith
  most_at (Queued from) is fits counts = let none : (scan_by mine step.before.steps).shown ≡ 0 = eq_from (scan_by mine step.before.steps).shown 0 counts in omega arith
  most_at (Seeking None) is fits counts = let none : (scan_by mine step.before.steps).shown ≡ 0 = eq_from (scan_by mine step.before.steps).shown 0 counts in omega arith
  most_at (Greeting None) is fits counts = let none : (scan_by mine step.before.steps).shown ≡ 0 = eq_from (scan_by mine step.before.steps).shown 0 counts in omega arith
  most_at (Seeking (Some lost)) is fits counts =
      let a : lost.track.call ≡ (scan_by mine step.before.steps).shown = eq_from lost.track.call (scan_by mine step.before.steps).shown counts in
      let b : lost.track.call ≡ length shown_before = fits.tracked.call in omega arith
  most_at (Greeting (Some lost)) is fits counts =
      let a : lost.track.call ≡ (scan_by mine step.before.steps).shown = eq_from lost.track.call (scan_by mine step.before.steps).shown counts in
      let b : lost.track.call ≡ length shown_before = fits.0.tracked.call in omega arith
  most_at (Asked state) is fits counts =
      let a : state.track.call ≡ (scan_by mine step.before.steps).shown = eq_from state.track.call (scan_by mine step.before.steps).shown counts in
      let b : state.track.call ≡ length shown_before = fits.0.tracked.call in omega arith
  most_at (Running state) is fits counts =
      let a : state.track.call ≡ (scan_by mine step.before.steps).shown = eq_from state.track.call (scan_by mine step.before.steps).shown counts in
      let b : state.track.call ≡ length shown_before = fits.0.tracked.call in omega arith
  most_at (Replaying state) is fits counts =
      let a : state.track.call ≡ (scan_by mine step.before.steps).shown = eq_from state.track.call (scan_by mine step.before.steps).shown counts in
      let b : state.track.call ≡ length shown_before = fits.0.tracked.call in omega arith

  pub near_at : (at : ℕ) (sents : List Sent) → sent_so mine step.before.steps (sent_lists m.links) at ≡ true → sents_at (sent_lists m.links) at ≡ Some sents → list_all (is_near (map shown_call shown_before)) (row_of mine sents) ≡ true
  near_at at sents here there =
      let test = λ (s : List Sent). agrees mine at s (scan_by mine step.before.steps).sendings in
      let is : PassesAt test (sent_lists m.links) at = passes_from test (sent_lists m.links) at here in
      let e : Some is.sents ≡ Some sents = sym is.there ∙ there in
      let same : is.sents ≡ sents = cc in
      let most : (scan_by mine step.before.steps).shown ≤ length shown_before = most_at step.before.talk.phase refl (before_fits setting m talks number n step).fits at_before.shown in
      let long : length (map shown_call shown_before) ≡ length shown_before = length-map shown_before shown_call in
      let whole : (scan_by mine step.before.steps).shown ≤ length (map shown_call shown_before) = omega arith in
      agrees_near mine at sents (scan_by mine []) step.before.steps (map shown_call shown_before) refl whole (subst (λ (s : List Sent). test s ≡ true) same is.passes)

  -- THE COURSE BEHIND THE STEP --------------------------------------------------------------------

  abbrev said : List Sent
  said = map (sent_by (owner_at m number) (call_in phase)) (frames_of step.pool (unwrap_or step.connection 0) one.done.act)

  abbrev lists_now : List (List Sent)
  lists_now = spoken step.lists (unwrap_or step.connection 0) said

  -- the row of what is said
  pub said_silent : (send : List Up) → one.done.act.send ≡ send → no_calls send ≡ true → row_of mine said ≡ []
  said_silent send is none =
      ap (λ (s : List Sent). row_of mine s) (said_mine setting m talks number n step)
      ∙ (row_append mine (map (sent_by mine (call_in phase)) one.done.act.send) _
      ∙ (ap (λ (a : List Sent). a ++ row_of mine (map (sent_by mine (call_in phase)) (closing one.done.act.hold (give_back_answer step.pool (unwrap_or step.connection 0)))))
      (ap (λ (s : List Up). row_of mine (map (sent_by mine (call_in phase)) s)) is ∙ silent_row mine mine (call_in phase) send none)
      ∙ silent_row mine mine (call_in phase) (closing one.done.act.hold (give_back_answer step.pool (unwrap_or step.connection 0))) (closing_silent one.done.act.hold (give_back_answer step.pool (unwrap_or step.connection 0)))))

  pub said_spoken : (send front : List Up) (mark : Bool) (kept : List Draw) (call : Call) → one.done.act.send ≡ send → send ≡ front ++ up.Call mark kept call ∷ [] → no_calls front ≡ true → row_of mine said ≡ sent_by mine (call_in phase) (up.Call mark kept call) ∷ []
  said_spoken send front mark kept call is ends none =
      ap (λ (s : List Sent). row_of mine s) (said_mine setting m talks number n step)
      ∙ (row_append mine (map (sent_by mine (call_in phase)) one.done.act.send) _
      ∙ (ap (λ (a : List Sent). a ++ row_of mine (map (sent_by mine (call_in phase)) (closing one.done.act.hold (give_back_answer step.pool (unwrap_or step.connection 0))))) sent
      ∙ ap (λ (b : List Sent). sent_by mine (call_in phase) (up.Call mark kept call) ∷ b)
      (silent_row mine mine (call_in phase) (closing one.done.act.hold (give_back_answer step.pool (unwrap_or step.connection 0))) (closing_silent one.done.act.hold (give_back_answer step.pool (unwrap_or step.connection 0))))))
    where
      sent : row_of mine (map (sent_by mine (call_in phase)) one.done.act.send) ≡ sent_by mine (call_in phase) (up.Call mark kept call) ∷ []
      sent =
          ap (λ (s : List Up). row_of mine (map (sent_by mine (call_in phase)) s)) (is ∙ ends)
          ∙ (ap (λ (s : List Sent). row_of mine s) (map-append (sent_by mine (call_in phase)) front (up.Call mark kept call ∷ []))
          ∙ (row_append mine (map (sent_by mine (call_in phase)) front) (sent_by mine (call_in phase) (up.Call mark kept call) ∷ [])
          ∙ (ap (λ (a : List Sent). a ++ row_of mine (sent_by mine (call_in phase) (up.Call mark kept call) ∷ [])) (silent_row mine mine (call_in phase) front none)
          ∙ ap (λ (test : Bool). if test then sent_by mine (call_in phase) (up.Call mark kept call) ∷ [] else []) (and_from (same_owner mine mine) true (owner_self mine) refl))))

  module _ (kept : (asking : Asking) → step.before.talk.phase ≡ Asked asking → asking.track.why ≡ None → length asking.track.recorder.calls + recorded_from (map shown_call shown_before) ≡ asking.track.call)
      (d : Course) (report : d.report.calls ≡ map shown_call (account_now setting.terms first).shown) (request : d.request.calls ≡ step.before.request.calls) where
    -- on the connection on which it speaks, where its calls so far are in a row
    pub own_new : (at : ℕ) (sents : List Sent) (p : Phase) (send : List Up) → sents_at step.lists at ≡ Some sents → step.connection ≡ Some at → one.done.act.send ≡ send → RowStep p phase one.done.act.shown send
        → RowFacts setting m talks number n step p (row_of mine sents) → is_row d true (row_of mine sents) ≡ true → sents_pass (λ s. is_row d (is_current d at) (row_of mine s)) lists_now at ≡ true
    own_new at sents p send there has is rowed facts row =
        passes_to (λ s. is_row d (is_current d at) (row_of mine s)) lists_now at (sents ++ said)
        (subst (λ (c : Option ℕ). sents_at (spoken step.lists (unwrap_or c 0) said) at ≡ Some (sents ++ said)) (sym has) (spoken_own step.lists at said sents there))
        (row_weaker d (is_current d at) (row_of mine (sents ++ said)) (subst (λ (calls : List Sent). is_row d true calls ≡ true) (sym (row_append mine sents said)) (by send is rowed)))
      where
        by : (send : List Up) → one.done.act.send ≡ send → RowStep p phase one.done.act.shown send → is_row d true (row_of mine sents ++ row_of mine said) ≡ true
        by _ is (Silent send none) = subst (λ (calls : List Sent). is_row d true calls ≡ true) (sym (ap (λ (more : List Sent). row_of mine sents ++ more) (said_silent send is none) ∙ append-nil (row_of mine sents))) row
        by _ is (Speaks front mark keeps call none goes) =
            subst (λ (more : List Sent). is_row d true (row_of mine sents ++ more) ≡ true) (sym (said_spoken (front ++ up.Call mark keeps call ∷ []) front mark keeps call is refl none))
            (row_goes setting m talks number n step kept d report request mine p (row_of mine sents) front mark keeps call facts goes is row)

    -- where nothing is said on it
    pub other_new : (at : ℕ) (sents : List Sent) → sents_at step.lists at ≡ Some sents → (step.connection ≡ Some at → ⊥) → is_row d (is_current d at) (row_of mine sents) ≡ true → sents_pass (λ s. is_row d (is_current d at) (row_of mine s)) lists_now at ≡ true
    other_new at sents there elsewhere row = by step.connection refl
      where
        by : (connection : Option ℕ) → step.connection ≡ connection → sents_pass (λ s. is_row d (is_current d at) (row_of mine s)) (spoken step.lists (unwrap_or connection 0) said) at ≡ true
        by None is = passes_to (λ s. is_row d (is_current d at) (row_of mine s)) step.lists at sents there row
        by (Some connection) is =
            passes_to (λ s. is_row d (is_current d at) (row_of mine s)) (spoken step.lists connection said) at sents
            (spoken_others step.lists connection at said (λ same. elsewhere (is ∙ ap Some (sym same))) ∙ there) row

    -- as more calls are shown
    pub shown_more : (rest : List Shown) → (account_now setting.terms first).shown ≡ shown_before ++ rest → d.report.calls ≡ before_course.report.calls ++ map shown_call rest
    shown_more rest more = report ∙ (ap (λ (s : List Shown). map shown_call s) more ∙ map-append shown_call shown_before rest)

    later : (rest : List Shown) × ((account_now setting.terms first).shown ≡ shown_before ++ rest)
    later = by (shown_step setting m talks number n step)
      where
        by : ShownStep shown_before (account_now setting.terms first).shown one.done.act.shown → (rest : List Shown) × ((account_now setting.terms first).shown ≡ shown_before ++ rest)
        by (NoneMore same) = ([], same ∙ sym (append-nil shown_before))
        by (OneMore some is more) = (some ∷ [], more)

    pub stays : (current now : Bool) (calls : List Sent) → list_all (is_near (map shown_call shown_before)) calls ≡ true → (now ≡ true → current ≡ true)
        → (now ≡ true → has_unmarked calls ≡ false → (calls ≡ []) ⊎ (d.report.calls ≡ before_course.report.calls)) → is_row before_course current calls ≡ true → is_row d now calls ≡ true
    stays current now calls near still whole row = row_stays before_course d (map shown_call later.0) (shown_more later.0 later.1) request current now calls near still whole row

    -- where nothing was shown
    pub quiet_report : one.done.act.shown ≡ None → d.report.calls ≡ before_course.report.calls
    quiet_report quiet = by (shown_step setting m talks number n step)
      where
        by : ShownStep shown_before (account_now setting.terms first).shown one.done.act.shown → d.report.calls ≡ before_course.report.calls
        by (NoneMore same) = report ∙ ap (λ (s : List Shown). map shown_call s) same
        by (OneMore some is more) = absurd (let e : Some some ≡ None = sym is ∙ quiet in let never : ⊥ = cc in never)

  -- A FRAME IS TAKEN ------------------------------------------------------------------------------

  pub no_row_yet : (on : OnIt m.links mine step.before.connection step.before.talk.phase) (p : Phase) → step.before.talk.phase ≡ p → (is_awaited p on.last ≡ true → is_opening on.last.frame ≡ true) → row_of mine on.link.sent ≡ []
  no_row_yet on p is opens = opening_none mine on.link on.last on.is (opens (subst (λ (q : Phase). is_awaited q on.last ≡ true) is on.awaited)) on.right

  -- the call that is out
  pub out_call : (on : OnIt m.links mine step.before.connection step.before.talk.phase) (mark : Bool) (index : ℕ) → is_awaited_call mark index on.last on.last.frame ≡ true
      → (last_or None (row_of mine on.link.sent) ≡ Some on.last) × (on.last.call ≡ index) × (mark ≡ false → has_unmarked (row_of mine on.link.sent) ≡ true)
  out_call on mark index is =
      let call : AwaitedCall mark index on.last = awaited_call mark index on.last is in
      let last : last_or None (row_of mine on.link.sent) ≡ Some on.last = last_row mine on.link.sent on.last on.is on.mine call.call in
      (last, call.at, λ plain. last_unmarked (row_of mine on.link.sent) on.last last (call.unmarked plain))

  pub taken_facts : (on : OnIt m.links mine step.before.connection step.before.talk.phase) → RowFacts setting m talks number n step step.before.talk.phase (row_of mine on.link.sent)
  taken_facts on = record {
    greets = λ lost is. no_row_yet on (Greeting lost) is (connect_opens on.last.frame);
    asks = λ asking is. (no_row_yet on (Asked asking) is (ask_opens asking.ltxid on.last.frame), is);
    runs = λ state is. let out = out_call on false state.track.call (subst (λ (q : Phase). is_awaited q on.last ≡ true) is on.awaited) in (on.last, out.0, out.1);
    repeats = λ state is. let out = out_call on true (index_of state) (subst (λ (q : Phase). is_awaited q on.last ≡ true) is on.awaited) in (on.last, out.0, out.1, is);
  }
