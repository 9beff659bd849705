-- Each call with the mark that a request sent on a connection is one of those that it was shown
-- before it opened this connection, behind the last that was decided: at the start and behind each
-- event.
use Rattle.std.proofs.Common.{◌≡◌, ◌≢◌, refl, sym, ap, subst, ◌∙◌, Bool, true, false, ℕ, suc, zero, ◌+◌, ◌<◌, ◌≤◌, ◌&&◌, fold, length, append_assoc, append-nil, List, [], ◌∷◌, ◌++◌, map, Option, Some, None, ◌⊎◌, inl, inr, arith}
use Rattle.std.specs.Prelude.{◌==◌, is_none, not, nat_le, nat_lt, unwrap_or, slice_get, option_map}
use Rattle.std.specs.List.{list_all}
use Rattle.std.specs.Option.{option_or, option_map_or}
use Rattle.std.proofs.lemmas.Bool.{and_parts, and_from, or_left, or_right, or_cases}
use Rattle.std.proofs.lemmas.Bool.Decides.{nat_tests}
use Rattle.std.proofs.lemmas.List.{length-map}
use Rattle.std.proofs.lemmas.Option.{slice_get_within}
use Rattle.svc_values.specs.declared.frame.Up.{Up}
use Rattle.svc_values.specs.declared.frame.Up.TheVariants as up
use Rattle.outage_schedule.specs.declared.document.Request.{Request}
use Rattle.outage_schedule.specs.declared.request.ShownCall.{ShownCall}
use Rattle.client_model.specs.meaning.States.{Repeating}
use Rattle.client_model.specs.meaning.Terms.{Terms, Phase, Idle, Unbegun, Queued, Seeking, Greeting, Asked, Running, Replaying}
use Rattle.client_model.specs.meaning.Verifying.{index_of}
use Rattle.client_model.proofs.Offered.{Fits}
use Rattle.world_model.specs.meaning.Acting.{frames_of, sent_by, call_in, owner_at}
use Rattle.world_model.specs.meaning.Clients.{Step, Doing, Client, begun, client_at, past_of}
use Rattle.world_model.specs.records.Conversing.{AllTalk, Talks}
use Rattle.world_model.specs.meaning.Frames.{Owner, Sent}
use Rattle.world_model.specs.meaning.Links.{Link}
use Rattle.world_model.specs.meaning.Machines.{Machine}
use Rattle.world_model.specs.Parts.{implies}
use Rattle.invariant_laws.specs.Replayed.{shown_at, is_repeated, opens, repeats_from, is_replayed, replays_on, replay_shown}
use Rattle.world_model.specs.Sames.{owned_by, same_owner}
use Rattle.world_model.specs.records.Script.{recorded_from, same_digests}
use Rattle.world_model.specs.meaning.Settings.{Setting}
use Rattle.invariant_laws.specs.Shown.{is_marked}
use Rattle.world_model.specs.Traced.{Traced, Course, course_now, course_over, courses_of_clients, courses_of}
use Rattle.world_model.proofs.Offered.{append_all, weaker_all, map_all, HasStepped, ClientStepsGrows as Grows, ClientStepsAsBefore as AsBefore, ClientStepsOneMore as OneMore, doing_strange, other_owner, records, IsRuled, sent_lists, spoken_at, spoken, account_now, first_step, first_doing, first_talks_on, first_fits, step_owner, request_after, behind_first, is_next, frame_fits, frames_fit, MayStep, Still, Closed, Stepped, happens_step, HasMore, all_step, Followed, follow_happens, at_event, doing_course, ruled, is_strange, FitsNow, finishing_reached}
use Rattle.replay_laws.proofs.ReplayOpened.{OpenedAt, doing_opened}
use Rattle.outage_schedule.specs.declared.event.Event.{Event}
use Rattle.outage_schedule.specs.declared.item.Served.{Served}
use Rattle.outage_schedule.specs.declared.note.Note.{Note}
use Rattle.server_model.specs.Seen.{Seen}
use Rattle.client_model.specs.Laws.{track_of}
use Rattle.run_clauses.specs.meaning.Reports.{shown_call}
use Rattle.world_model.specs.Orderly.{Orderly}
use Rattle.world_model.specs.OneEvent.{OneEvent}
use Rattle.world_model.specs.meaning.Outside.{closed_by_drain}
use Rattle.world_model.specs.Reached.{traced_start, Begins, GoesOn}
use Rattle.world_model.specs.RunLaws.{RunsAreOrderly}
use Rattle.invariant_laws.specs.SameLaws.{HoldsAtEnds, HoldsInRuns}
use Rattle.world_model.specs.records.Script.{owned_rightly}
use Rattle.world_model.specs.meaning.Settings.{setting_of}
use Rattle.world_model.specs.Words.{held_in}
use Rattle.replay_laws.proofs.ReplayPhases.{is_replay_phase}

-- ON EACH CONNECTION ------------------------------------------------------------------------------

-- by the lists of what was sent, from this number on
abbrev pub all_replayed : (ℕ → Sent → Bool) → ℕ → List (List Sent) → Bool
all_replayed test number [] = true
all_replayed test number (sents ∷ lists) = list_all (test number) sents && all_replayed test (number + 1) lists

by_links : (terms : Terms) (course : Course) (number : ℕ) (links : List Link) → replays_on terms course number links ≡ all_replayed (is_replayed terms course) number (sent_lists links)
by_links terms course number [] = refl
by_links terms course number (link ∷ links) = ap (λ (rest : Bool). list_all (is_replayed terms course number) link.sent && rest) (by_links terms course (number + 1) links)

module _ (test : ℕ → Sent → Bool) where
  said_at : (lists : List (List Sent)) (start index : ℕ) (frames : List Sent) → all_replayed test start lists ≡ true → list_all (test (start + index)) frames ≡ true → all_replayed test start (spoken_at lists index frames) ≡ true
  said_at [] start index frames all said = all
  said_at (sents ∷ lists) start zero frames all said =
      let parts = and_parts (list_all (test start) sents) (all_replayed test (start + 1) lists) all in
      let here : start + 0 ≡ start = omega arith in
      and_from (list_all (test start) (sents ++ frames)) (all_replayed test (start + 1) lists) (append_all (test start) sents frames parts.0 (subst (λ (n : ℕ). list_all (test n) frames ≡ true) here said)) parts.1
  said_at (sents ∷ lists) start (suc index) frames all said =
      let parts = and_parts (list_all (test start) sents) (all_replayed test (start + 1) lists) all in
      let further : start + suc index ≡ (start + 1) + index = omega arith in
      and_from (list_all (test start) sents) (all_replayed test (start + 1) (spoken_at lists index frames)) parts.0
      (said_at lists (start + 1) index frames parts.1 (subst (λ (n : ℕ). list_all (test n) frames ≡ true) further said))

  pub said_on : (lists : List (List Sent)) (number : ℕ) (frames : List Sent) → all_replayed test 1 lists ≡ true → list_all (test number) frames ≡ true → all_replayed test 1 (spoken lists number frames) ≡ true
  said_on lists zero frames all said = all
  said_on lists (suc index) frames all said = let same : suc index ≡ 1 + index = omega arith in said_at lists 1 index frames all (subst (λ (n : ℕ). list_all (test n) frames ≡ true) same said)

  pub each_said_on : (frames : List Sent) (lists : List (List Sent)) (numbers : List ℕ) → ((number : ℕ) → list_all (test number) frames ≡ true) → all_replayed test 1 lists ≡ true
      → all_replayed test 1 (fold (λ (all : List (List Sent)) (number : ℕ). spoken all number frames) lists numbers) ≡ true
  each_said_on frames lists [] said all = all
  each_said_on frames lists (number ∷ numbers) said all = each_said_on frames (spoken lists number frames) numbers said (said_on lists number frames all (said number))

  one_more : (start : ℕ) (lists : List (List Sent)) → all_replayed test start lists ≡ true → all_replayed test start (lists ++ [] ∷ []) ≡ true
  one_more start [] all = refl
  one_more start (sents ∷ lists) all =
      let parts = and_parts (list_all (test start) sents) (all_replayed test (start + 1) lists) all in
      and_from (list_all (test start) sents) (all_replayed test (start + 1) (lists ++ [] ∷ [])) parts.0 (one_more (start + 1) lists parts.1)

  pub grown_on : (lists later : List (List Sent)) → Grows lists later → all_replayed test 1 lists ≡ true → all_replayed test 1 later ≡ true
  grown_on lists _ AsBefore all = all
  grown_on lists _ OneMore all = one_more 1 lists all

pub weaker_on : (test next : ℕ → Sent → Bool) → ((number : ℕ) (sent : Sent) → test number sent ≡ true → next number sent ≡ true) → (start : ℕ) (lists : List (List Sent)) → all_replayed test start lists ≡ true → all_replayed next start lists ≡ true
weaker_on test next still start [] all = refl
weaker_on test next still start (sents ∷ lists) all =
    let parts = and_parts (list_all (test start) sents) (all_replayed test (start + 1) lists) all in
    and_from (list_all (next start) sents) (all_replayed next (start + 1) lists) (weaker_all (test start) (next start) sents (still start) parts.0) (weaker_on test next still (start + 1) lists parts.1)

-- STEPS -------------------------------------------------------------------------------------------

-- where more steps follow
further : (terms : Terms) (request : Request) (number call : ℕ) (before steps more : List Step) → repeats_from terms request number call before steps ≡ true → repeats_from terms request number call before (steps ++ more) ≡ true
further terms request number call before [] more is = absurd (let none : ⊥ = cc in none)
further terms request number call before (step ∷ steps) more is =
    by (λ later. further terms request number call (before ++ step ∷ []) steps more later)
    (or_cases (opens number step.done.input && is_repeated (shown_at terms request before) call) (repeats_from terms request number call (before ++ step ∷ []) steps) is)
  where
    by : (repeats_from terms request number call (before ++ step ∷ []) steps ≡ true → repeats_from terms request number call (before ++ step ∷ []) (steps ++ more) ≡ true)
        → ((opens number step.done.input && is_repeated (shown_at terms request before) call) ≡ true) ⊎ (repeats_from terms request number call (before ++ step ∷ []) steps ≡ true)
        → repeats_from terms request number call before (step ∷ (steps ++ more)) ≡ true
    by again (inl here) = or_left (opens number step.done.input && is_repeated (shown_at terms request before) call) (repeats_from terms request number call (before ++ step ∷ []) (steps ++ more)) here
    by again (inr later) = or_right (opens number step.done.input && is_repeated (shown_at terms request before) call) (repeats_from terms request number call (before ++ step ∷ []) (steps ++ more)) (again later)

-- at the opening
opened_there : (terms : Terms) (request : Request) (number call : ℕ) (done before : List Step) (opening : Step) (behind : List Step) → opens number opening.done.input ≡ true → is_repeated (shown_at terms request (done ++ before)) call ≡ true
    → repeats_from terms request number call done (before ++ opening ∷ behind) ≡ true
opened_there terms request number call done [] opening behind is repeated =
    or_left (opens number opening.done.input && is_repeated (shown_at terms request done) call) (repeats_from terms request number call (done ++ opening ∷ []) behind)
    (and_from (opens number opening.done.input) (is_repeated (shown_at terms request done) call) is (subst (λ (steps : List Step). is_repeated (shown_at terms request steps) call ≡ true) (append-nil done) repeated))
opened_there terms request number call done (step ∷ before) opening behind is repeated =
    or_right (opens number step.done.input && is_repeated (shown_at terms request done) call) (repeats_from terms request number call (done ++ step ∷ []) (before ++ opening ∷ behind))
    (opened_there terms request number call (done ++ step ∷ []) before opening behind is (subst (λ (steps : List Step). is_repeated (shown_at terms request steps) call ≡ true) (sym (append_assoc done (step ∷ []) before)) repeated))

-- A REPLAY ----------------------------------------------------------------------------------------

place_fits : (from index long : ℕ) → from ≤ index → index < long → (nat_le from index && nat_lt index long) ≡ true
place_fits from index long least below = and_from (nat_le from index) (nat_lt index long) (grind (arith, nat_tests)) (grind (arith, nat_tests))

number_is : (a b : ℕ) → (a == b) ≡ true → a ≡ b
number_is a b is = grind (arith, nat_tests)

number_same : (a b : ℕ) → a ≡ b → (a == b) ≡ true
number_same a b is = grind (arith, nat_tests)

-- the call that is repeated next is one that was shown, behind the last that was decided
next_repeated : (setting : Setting) (doing : Doing) (due : Bool) → Talks setting.terms due doing → IsRuled setting.terms.rules → FitsNow setting.terms doing → (state : Repeating) → doing.talk.phase ≡ Replaying state
    → is_repeated (shown_at setting.terms doing.request doing.steps) (index_of state) ≡ true
next_repeated setting doing due talks rules now state phase =
    let fits : Fits setting.terms doing.request.calls (account_now setting.terms doing) now.gone (Replaying state) = subst (λ (p : Phase). Fits setting.terms doing.request.calls (account_now setting.terms doing) now.gone p) phase now.fits in
    let why : state.track.why ≡ None = fits.1.no_reason in
    let sums = records setting doing due talks rules state.track (ap track_of phase) (ap is_none why) in
    let long : length (map shown_call (account_now setting.terms doing).shown) ≡ length (account_now setting.terms doing).shown = length-map (account_now setting.terms doing).shown shown_call in
    let call : state.track.call ≡ length (account_now setting.terms doing).shown = fits.0.tracked.call in
    let within : state.verified < length state.track.recorder.calls = slice_get_within state.track.recorder.calls state.verified fits.2.one fits.2.is in
    let sum : length state.track.recorder.calls + recorded_from (map shown_call (account_now setting.terms doing).shown) ≡ state.track.call =
    number_is (length state.track.recorder.calls + recorded_from (map shown_call (account_now setting.terms doing).shown)) state.track.call (and_parts (same_digests state.track.recorder.calls (account_now setting.terms doing).since_purge) (length state.track.recorder.calls + recorded_from (map shown_call (account_now setting.terms doing).shown) == state.track.call) sums).1 in
    let least : recorded_from (map shown_call (account_now setting.terms doing).shown) ≤ index_of state = omega (arith, sum, within) in
    let below : index_of state < length (map shown_call (account_now setting.terms doing).shown) = omega (arith, sum, within, call, long) in
    place_fits (recorded_from (map shown_call (account_now setting.terms doing).shown)) (index_of state) (length (map shown_call (account_now setting.terms doing).shown)) least below

unmarked_so : (owned repeats : Bool) → implies (owned && false) repeats ≡ true
unmarked_so true repeats = refl
unmarked_so false repeats = refl

marked_so : (owned repeats : Bool) → repeats ≡ true → implies (owned && true) repeats ≡ true
marked_so true repeats is = is
marked_so false repeats is = refl

others_so : (owned marked repeats : Bool) → owned ≡ false → implies (owned && marked) repeats ≡ true
others_so true marked repeats is = absurd (let none : ⊥ = cc in none)
others_so false marked repeats is = refl

-- A STEP ------------------------------------------------------------------------------------------

module _ (setting : Setting) (m : Machine) (talks : AllTalk setting.terms m.clients) (number : ℕ) (n : Machine) (step : HasStepped setting m number n) (rules : IsRuled setting.terms.rules) where
  abbrev mine : Owner
  mine = record { client = number; place = length step.client.past }

  abbrev first : Doing
  first = first_doing setting m talks number n step

  abbrev at : ℕ
  at = unwrap_or step.connection 0

  abbrev frames : List Up
  frames = frames_of step.pool (unwrap_or step.connection 0) (first_step setting m talks number n step).done.act

  abbrev said : List Sent
  said = map (sent_by (owner_at m number) (call_in first.talk.phase)) (frames_of step.pool (unwrap_or step.connection 0) (first_step setting m talks number n step).done.act)

  -- a call that it repeats
  repeats : (course : Course) → course.request ≡ step.before.request → course.steps ≡ step.after.steps → (state : Repeating) → first.talk.phase ≡ Replaying state → repeats_from setting.terms course.request at (index_of state) [] course.steps ≡ true
  repeats course request steps state phase =
      let opened : OpenedAt setting.terms first.request first.steps = doing_opened setting.terms _ first (first_talks_on setting m talks number n step) (ap is_replay_phase phase) in
      let behind = behind_first setting m talks number n step in
      let has : step.connection ≡ Some opened.number = sym (first_talks_on setting m talks number n step).has ∙ opened.has in
      let same : opened.number ≡ at = sym (ap (λ (c : Option ℕ). unwrap_or c 0) has) in
      let opens_it : opens at opened.opening.done.input ≡ true = ap (opens at) opened.is ∙ number_same opened.number at same in
      let fits : is_repeated (shown_at setting.terms first.request opened.before) (index_of state) ≡ true =
      ap (λ (shown : List ShownCall). is_repeated shown (index_of state)) (sym opened.same)
      ∙ next_repeated setting first _ (first_talks_on setting m talks number n step) rules (first_fits setting m talks number n step) state phase in
      ap (λ (r : Request). repeats_from setting.terms r at (index_of state) [] course.steps) request
      ∙ ap (repeats_from setting.terms step.before.request at (index_of state) []) (steps ∙ behind.are ∙ ap (λ (before : List Step). before ++ behind.more) opened.all)
      ∙ further setting.terms step.before.request at (index_of state) [] (opened.before ++ opened.opening ∷ opened.behind) behind.more
      (opened_there setting.terms step.before.request at (index_of state) [] opened.before opened.opening opened.behind opens_it fits)

  frame_replayed : (course : Course) → course.request ≡ step.before.request → course.steps ≡ step.after.steps → (frame : Up) → frame_fits first.talk.phase frame ≡ true
      → is_replayed setting.terms course at (sent_by (owner_at m number) (call_in first.talk.phase) frame) ≡ true
  frame_replayed course request steps (up.Call true kept call) fits = by first.talk.phase refl fits
    where
      owned : Bool
      owned = same_owner course.owner (owner_at m number)

      by : (phase : Phase) → first.talk.phase ≡ phase → is_next phase kept call ≡ true → implies (same_owner course.owner (owner_at m number) && true) (repeats_from setting.terms course.request at (call_in phase) [] course.steps) ≡ true
      by (Replaying state) is fits = marked_so (same_owner course.owner (owner_at m number)) (repeats_from setting.terms course.request at (index_of state) [] course.steps) (repeats course request steps state is)
      by Idle is fits = absurd (let none : ⊥ = cc in none)
      by Unbegun is fits = absurd (let none : ⊥ = cc in none)
      by (Queued from) is fits = absurd (let none : ⊥ = cc in none)
      by (Seeking lost) is fits = absurd (let none : ⊥ = cc in none)
      by (Greeting lost) is fits = absurd (let none : ⊥ = cc in none)
      by (Asked asking) is fits = absurd (let none : ⊥ = cc in none)
      by (Running state) is fits = absurd (let none : ⊥ = cc in none)
  frame_replayed course request steps frame fits = unmarked_so (same_owner course.owner (owner_at m number)) (repeats_from setting.terms course.request at (call_in first.talk.phase) [] course.steps)

  said_replayed : (course : Course) → course.request ≡ step.before.request → course.steps ≡ step.after.steps → list_all (is_replayed setting.terms course at) said ≡ true
  said_replayed course request steps =
      map_all (frame_fits first.talk.phase) (is_replayed setting.terms course at) (sent_by (owner_at m number) (call_in first.talk.phase)) frames
      (λ frame fits. frame_replayed course request steps frame fits) (frames_fit setting.terms step.before.talk step.input m.tick step.pool (unwrap_or step.connection 0))

  -- all frames behind it
  all_on : (course : Course) → list_all (is_replayed setting.terms course at) said ≡ true → all_replayed (is_replayed setting.terms course) 1 (sent_lists m.links) ≡ true → replays_on setting.terms course 1 n.links ≡ true
  all_on course says old =
      by_links setting.terms course 1 n.links
      ∙ subst (λ (lists : List (List Sent)). all_replayed (is_replayed setting.terms course) 1 lists ≡ true) (sym step.sent_are)
      (said_on (is_replayed setting.terms course) step.lists at said (grown_on (is_replayed setting.terms course) (sent_lists m.links) step.lists step.grows old) says)

  others_on : (course : Course) → course.owner ≢ mine → replays_on setting.terms course 1 m.links ≡ true → replays_on setting.terms course 1 n.links ≡ true
  others_on course differs old = all_on course (each frames) (sym (by_links setting.terms course 1 m.links) ∙ old)
    where
      other : same_owner course.owner (owner_at m number) ≡ false
      other = other_owner course.owner (owner_at m number) (λ same. differs (same ∙ step_owner setting m talks number n step))

      each : (all : List Up) → list_all (is_replayed setting.terms course at) (map (sent_by (owner_at m number) (call_in first.talk.phase)) all) ≡ true
      each [] = refl
      each (frame ∷ all) =
          and_from (is_replayed setting.terms course at (sent_by (owner_at m number) (call_in first.talk.phase) frame)) _
          (others_so (same_owner course.owner (owner_at m number)) (is_marked frame) (repeats_from setting.terms course.request at (call_in first.talk.phase) [] course.steps) other) (each all)

  abbrev before_course : Course
  before_course = course_now setting number (length step.client.past) step.before

  mine_on : (course : Course) → course.owner ≡ mine → course.request ≡ step.before.request → course.steps ≡ step.after.steps → replays_on setting.terms before_course 1 m.links ≡ true → replays_on setting.terms course 1 n.links ≡ true
  mine_on course owner request steps old =
      all_on course (said_replayed course request steps) (weaker_on (is_replayed setting.terms before_course) (is_replayed setting.terms course) still 1 (sent_lists m.links) (sym (by_links setting.terms before_course 1 m.links) ∙ old))
    where
      behind : HasMore first.steps step.after.steps
      behind = behind_first setting m talks number n step

      all_steps : course.steps ≡ step.before.steps ++ (first_step setting m talks number n step ∷ behind.more)
      all_steps = steps ∙ behind.are ∙ append_assoc step.before.steps (first_step setting m talks number n step ∷ []) behind.more

      still : (k : ℕ) (sent : Sent) → is_replayed setting.terms before_course k sent ≡ true → is_replayed setting.terms course k sent ≡ true
      still k sent here = by (owned_by course.owner sent && is_marked sent.frame) refl
        where
          by : (test : Bool) → (owned_by course.owner sent && is_marked sent.frame) ≡ test → implies test (repeats_from setting.terms course.request k sent.call [] course.steps) ≡ true
          by false is = refl
          by true is =
              let was : (owned_by mine sent && is_marked sent.frame) ≡ true = subst (λ (o : Owner). (owned_by o sent && is_marked sent.frame) ≡ true) owner is in
              let old_so : repeats_from setting.terms step.before.request k sent.call [] step.before.steps ≡ true =
              subst (λ (test : Bool). implies test (repeats_from setting.terms step.before.request k sent.call [] step.before.steps) ≡ true) was here in
              ap (λ (r : Request). repeats_from setting.terms r k sent.call [] course.steps) request ∙ ap (repeats_from setting.terms step.before.request k sent.call []) all_steps
              ∙ further setting.terms step.before.request k sent.call [] step.before.steps (first_step setting m talks number n step ∷ behind.more) old_so

-- EVENTS ------------------------------------------------------------------------------------------

strange_on : (terms : Terms) (course : Course) (number : ℕ) (links : List Link) → ((index : ℕ) (link : Link) → slice_get links index ≡ Some link → is_strange course.owner link ≡ true) → replays_on terms course number links ≡ true
strange_on terms course number [] each = refl
strange_on terms course number (link ∷ links) each =
    and_from (list_all (is_replayed terms course number) link.sent) (replays_on terms course (number + 1) links)
    (weaker_all (λ (sent : Sent). not (owned_by course.owner sent)) (is_replayed terms course number) link.sent
    (λ sent here. others_so (owned_by course.owner sent) (is_marked sent.frame) (repeats_from terms course.request number sent.call [] course.steps) (not_is (owned_by course.owner sent) here)) (each 0 link refl))
    (strange_on terms course (number + 1) links (λ index one there. each (suc index) one there))
  where
    not_is : (test : Bool) → not test ≡ true → test ≡ false
    not_is true is = absurd (let none : ⊥ = cc in none)
    not_is false is = refl

-- the request that steps, before it does
before_on : (t : Traced) (m : Machine) (number : ℕ) (n : Machine) (step : HasStepped t.setting m number n) → m.clients ≡ t.machine.clients → m.links ≡ t.machine.links → owned_rightly (courses_of t) 1 t.machine.links ≡ true
    → replay_shown t ≡ true → replays_on t.setting.terms (course_now t.setting number (length step.client.past) step.before) 1 t.machine.links ≡ true
before_on t m number n step clients links owned old = by step.client.now refl step.client.next step.does
  where
    here : client_at t.machine.clients number ≡ Some step.client
    here = subst (λ (all : List Client). client_at all number ≡ Some step.client) clients step.here

    by : (now : Option Doing) → step.client.now ≡ now → (next : Option Request) → option_or now (option_map (begun t.setting.terms m.event m.tick) next) ≡ Some step.before
        → replays_on t.setting.terms (course_now t.setting number (length step.client.past) step.before) 1 t.machine.links ≡ true
    by (Some one) is next does =
        let same : one ≡ step.before = cc in
        doing_course (λ (course : Course). replays_on t.setting.terms course 1 t.machine.links) t number step.client step.before old here (is ∙ ap Some same)
    by None is next does =
        strange_on t.setting.terms (course_now t.setting number (length step.client.past) step.before) 1 t.machine.links
        (λ index link there. doing_strange t number step.client (suc index) link owned here (ap (λ (one : Option Doing). option_map_or (λ doing. length (held_in doing.steps) == 0) one true) is) there)

module _ (t : Traced) (m n : Machine) (clients : m.clients ≡ t.machine.clients) (links : m.links ≡ t.machine.links) (talks : AllTalk t.setting.terms m.clients) (rules : IsRuled t.setting.terms.rules) (owned : owned_rightly (courses_of t) 1 t.machine.links ≡ true)
    (old : replay_shown t ≡ true) where
  abbrev test_on : List Link → Course → Bool
  test_on all course = replays_on t.setting.terms course 1 all

  may_replay : MayStep t.setting m n → list_all (test_on n.links) (courses_of_clients t.setting 1 n.clients) ≡ true
  may_replay (Still same sents) =
      subst (λ (c : List Client). list_all (test_on n.links) (courses_of_clients t.setting 1 c) ≡ true) (sym (same ∙ clients))
      (weaker_all (test_on t.machine.links) (test_on n.links) (courses_of t)
      (λ course here. by_links t.setting.terms course 1 n.links ∙ ap (all_replayed (is_replayed t.setting.terms course) 1) (sents ∙ ap sent_lists links) ∙ sym (by_links t.setting.terms course 1 t.machine.links) ∙ here) old)
  may_replay (Closed same sents) =
      subst (λ (c : List Client). list_all (test_on n.links) (courses_of_clients t.setting 1 c) ≡ true) (sym (same ∙ clients))
      (weaker_all (test_on t.machine.links) (test_on n.links) (courses_of t)
      (λ course here. by_links t.setting.terms course 1 n.links ∙ ap (all_replayed (is_replayed t.setting.terms course) 1) sents
      ∙ each_said_on (is_replayed t.setting.terms course) (closed_by_drain ∷ []) (sent_lists m.links) m.pool.idle (λ number. refl)
      (ap (λ (all : List Link). all_replayed (is_replayed t.setting.terms course) 1 (sent_lists all)) links ∙ sym (by_links t.setting.terms course 1 t.machine.links) ∙ here)) old)
  may_replay (Stepped number step) =
      let before : test_on m.links (course_now t.setting number (length step.client.past) step.before) ≡ true =
      subst (λ (all : List Link). test_on all (course_now t.setting number (length step.client.past) step.before) ≡ true) (sym links) (before_on t m number n step clients links owned old) in
      all_step t.setting (test_on m.links) (test_on n.links) (record { client = number; place = length step.client.past })
      (others_on t.setting m talks number n step rules) m number n step refl
      (λ keep. mine_on t.setting m talks number n step rules (course_now t.setting number (length step.client.past) step.after) refl (request_after t.setting m talks number n step) refl before)
      (λ over. mine_on t.setting m talks number n step rules (course_over number (length step.client.past) (past_of t.setting.terms step.after)) refl (request_after t.setting m talks number n step) refl before)
      (subst (λ (all : List Link). list_all (test_on all) (courses_of_clients t.setting 1 m.clients) ≡ true) (sym links)
      (subst (λ (c : List Client). list_all (test_on t.machine.links) (courses_of_clients t.setting 1 c) ≡ true) (sym clients) old))

event_replays : (before after : Seen) (old new : Traced) (event : Event) (note : Note) (items left : List Served) → OneEvent before old event note items left after new → Orderly old → replay_shown old ≡ true → replay_shown new ≡ true
event_replays before after old new event note items left one inv was =
    let by : Followed old.setting old.machine event note items left new.machine = follow_happens old.setting old.machine event note items left new.machine one.follows in
    let rules : IsRuled old.setting.terms.rules = subst (λ (setting : Setting). IsRuled setting.terms.rules) (sym inv.setting.same) (ruled inv.setting.document.service.failover inv.setting.document.service.consistency) in
    subst (λ (setting : Setting). list_all (λ (course : Course). replays_on setting.terms course 1 new.machine.links) (courses_of_clients setting 1 new.machine.clients) ≡ true) (sym one.setting)
    (may_replay old (at_event old.machine) new.machine refl refl inv.script.talks rules inv.script.owned was (happens_step old.setting (at_event old.machine) items left by.kind new.machine by.happens))

start_replays : (terms : Terms) (courses : List Course) → list_all (λ (course : Course). replays_on terms course 1 []) courses ≡ true
start_replays terms [] = refl
start_replays terms (course ∷ courses) = start_replays terms courses

pub runs_replay : RunsAreOrderly → HoldsInRuns replay_shown
runs_replay orderly document _ _ _ _ _ calls (Begins seen start history horizon coupled) = start_replays (setting_of document).terms (courses_of (traced_start document))
runs_replay orderly document _ _ _ _ _ calls (GoesOn events notes items more before after old new event note reached one forgets) =
    event_replays before after old new event note more [] one (orderly document events notes items before old calls reached) (runs_replay orderly document events notes items before old calls reached)

pub whole_runs_replay : RunsAreOrderly → HoldsAtEnds replay_shown
whole_runs_replay orderly document notes items seen t calls run =
    let so = finishing_reached document run.place notes items seen t run.finishing in runs_replay orderly document so.0 notes items seen t calls so.1
