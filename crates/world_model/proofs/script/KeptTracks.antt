-- Of Script: what the track of a request keeps is what the account of its steps tells, at the start
-- and behind each event.
use Rattle.std.proofs.Common.{◌≡◌, refl, sym, ap, subst, ◌∙◌, Bool, true, false, ℕ, ◌+◌, ◌&&◌, length, List, map, Option, Some, None, arith}
use Rattle.std.specs.Prelude.{◌==◌, nat_le, is_some, is_none}
use Rattle.std.specs.Option.{option_map_or}
use Rattle.std.specs.Str.{bytes_eq}
use Rattle.std.proofs.lemmas.Bool.{and_from}
use Rattle.svc_values.specs.meaning.Same.{same_bool, same_call, same_draws}
use Rattle.svc_values.specs.SameLaws.{same_call_decides}
use Rattle.call_recorder.specs.declared.recorded.Recorded.{Recorded}
use Rattle.outage_schedule.specs.declared.document.Document.{Document}
use Rattle.client_model.specs.declared.track.Track.{Track}
use Rattle.client_model.specs.meaning.Account.{Account, account_of}
use Rattle.client_model.specs.Account.{count_uncommitted, set_shown}
use Rattle.client_model.specs.meaning.Conversation.{Done}
use Rattle.client_model.specs.Conversation.{talk_after}
use Rattle.client_model.specs.Laws.{track_of, IsKept as KeepsTold}
use Rattle.client_model.specs.meaning.Terms.{Talk}
use Rattle.client_model.proofs.Offered.{keeps_what_is_told}
use Rattle.world_model.specs.meaning.Settings.{Setting, setting_of}
use Rattle.world_model.specs.meaning.Clients.{Doing}
use Rattle.world_model.specs.records.Conversing.{AllTalk, Talks, inputs_of, first_talk}
use Rattle.world_model.specs.OrderlyLaws.{IsKeptOfCalls}
use Rattle.world_model.specs.Parts.{implies}
use Rattle.world_model.specs.Reached.{traced_start}
use Rattle.run_clauses.specs.meaning.Reports.{shown_call}
use Rattle.world_model.specs.records.Script.{same_digests, same_ticks, recorded_from, keeps, is_kept, are_kept}
use Rattle.world_model.specs.Traced.{Traced, Course, course_now}
use Rattle.world_model.specs.Words.{dones_of}
use Rattle.world_model.proofs.hold.HeldKept.{same_from}
use Rattle.world_model.proofs.script.Keeping.{IsRuled, Never, Purges, Stops, ruled, few_so, stands_so, Counts, counts_purging, counts_stopping}
use Rattle.world_model.proofs.script.KeptTalks.{talks_begin, talks_are_kept}
use Rattle.world_model.proofs.wire.SameSelf.{each_self, bytes_self, draw_self}
use Rattle.world_model.proofs.script.TalkTests.{courses_talk}
use Rattle.world_model.proofs.script.TalkTracks.{IsOfTracks, talk_good}
use Rattle.world_model.proofs.events.Tests.{eq_to, implied_by, none_is, none_some}

ticks_self : (tick : Option ℕ) → same_ticks tick tick ≡ true
ticks_self None = refl
ticks_self (Some tick) = eq_to tick tick refl

digests_self : (calls : List Recorded) → same_digests calls calls ≡ true
digests_self calls =
    each_self _
    (λ one. and_from (bytes_eq one.seen.digest one.seen.digest && same_call one.call one.call) (same_draws one.draws one.draws)
    (and_from (bytes_eq one.seen.digest one.seen.digest) (same_call one.call one.call) (bytes_self one.seen.digest) ((same_call_decides one.call one.call).1 refl)) (each_self _ draw_self one.draws)) calls

-- A REQUEST IN COURSE -----------------------------------------------------------------------------

module _ (setting : Setting) (doing : Doing) (due : Bool) (talks : Talks setting.terms due doing) (rules : IsRuled setting.terms.rules) (track : Track) (is : track_of doing.talk.phase ≡ Some track) where
  abbrev pub told : Account
  told = account_of setting.terms doing.request.calls (dones_of doing.steps)

  has : track_of (talk_after setting.terms (first_talk doing.request) (inputs_of doing.steps)).phase ≡ Some track
  has = ap (λ (talk : Talk). track_of talk.phase) talks.stands ∙ is

  kept : KeepsTold doing.request.calls told track
  kept =
      subst (λ (dones : List Done). KeepsTold doing.request.calls (account_of setting.terms doing.request.calls dones) track) (sym talks.converses.acts)
      (keeps_what_is_told setting.terms doing.request.settings doing.request.calls (inputs_of doing.steps) track talks.converses.may has)

  -- what each step keeps of its track
  good_track : (good : Track → Bool) → IsOfTracks setting.terms good → good track ≡ true
  good_track good each = subst (λ (found : Option Track). option_map_or good found true ≡ true) has (talk_good setting.terms good each (first_talk doing.request) (inputs_of doing.steps) refl)

  abbrev pub Recording : Type 0
  Recording = (same_digests track.recorder.calls told.since_purge && (length track.recorder.calls + recorded_from (map shown_call told.shown) == track.call)) ≡ true

  recording : track.why ≡ None → Counts told → Recording
  recording none counts =
      let calls : track.recorder.calls ≡ told.since_purge = kept.recorded none in
      let same : length track.recorder.calls ≡ length told.since_purge = ap (λ (c : List Recorded). length c) calls in
      let shown : track.call ≡ length told.shown = kept.call in
      let sum : length told.since_purge + recorded_from (map shown_call told.shown) ≡ length told.shown = counts (sym kept.why ∙ none) in
      let all : length track.recorder.calls + recorded_from (map shown_call told.shown) ≡ track.call = omega arith in
      and_from (same_digests track.recorder.calls told.since_purge) (length track.recorder.calls + recorded_from (map shown_call told.shown) == track.call)
      (subst (λ (c : List Recorded). same_digests track.recorder.calls c ≡ true) calls (digests_self track.recorder.calls)) (eq_to (length track.recorder.calls + recorded_from (map shown_call told.shown)) track.call all)

  pub records : is_none track.why ≡ true → Recording
  records none = by rules
    where
      by : IsRuled setting.terms.rules → Recording
      by (Never never) = absurd (none_some track.why none (good_track (λ (one : Track). is_some one.why) (stands_so setting.terms never)))
      by (Purges rule) = recording (none_is track.why none) (counts_purging setting.terms doing.request.calls (dones_of doing.steps) rule)
      by (Stops reason rule) = recording (none_is track.why none) (counts_stopping setting.terms doing.request.calls (dones_of doing.steps) reason rule)

  keeps_so :
      ((track.call == length told.shown)
      && (same_bool (is_some track.why) (is_some told.reason)
      && (implies (is_none track.why) (same_digests track.recorder.calls told.since_purge && (length track.recorder.calls + recorded_from (map shown_call told.shown) == track.call))
      && ((track.replays == count_uncommitted told)
      && (nat_le track.replays setting.terms.limits.replays && (same_ticks track.first told.first && same_bool track.set_shown (set_shown doing.request.calls told))))))) ≡ true
  keeps_so =
      and_from (track.call == length told.shown) _ (eq_to track.call (length told.shown) kept.call)
      (and_from (same_bool (is_some track.why) (is_some told.reason)) _ (same_from (is_some track.why) (is_some told.reason) (ap is_some kept.why))
      (and_from (implies (is_none track.why) (same_digests track.recorder.calls told.since_purge && (length track.recorder.calls + recorded_from (map shown_call told.shown) == track.call))) _ (implied_by (is_none track.why) _ records)
      (and_from (track.replays == count_uncommitted told) _ (eq_to track.replays (count_uncommitted told) kept.replays)
      (and_from (nat_le track.replays setting.terms.limits.replays) _ (good_track (λ (one : Track). nat_le one.replays setting.terms.limits.replays) (few_so setting.terms))
      (and_from (same_ticks track.first told.first) (same_bool track.set_shown (set_shown doing.request.calls told))
      (subst (λ (tick : Option ℕ). same_ticks track.first tick ≡ true) kept.first (ticks_self track.first)) (same_from track.set_shown (set_shown doing.request.calls told) kept.set_shown))))))

doing_keeps : (t : Traced) (client place : ℕ) (doing : Doing) → IsRuled t.setting.terms.rules → Talks t.setting.terms false doing → is_kept t (course_now t.setting client place doing) ≡ true
doing_keeps t client place doing rules talks = by (track_of doing.talk.phase) refl
  where
    course : Course
    course = course_now t.setting client place doing

    by : (found : Option Track) → track_of doing.talk.phase ≡ found → option_map_or (keeps t course (account_of t.setting.terms doing.request.calls (dones_of doing.steps))) found true ≡ true
    by None is = refl
    by (Some track) is = keeps_so t.setting doing false talks rules track is

talks_keep : (t : Traced) → IsRuled t.setting.terms.rules → AllTalk t.setting.terms t.machine.clients → are_kept t ≡ true
talks_keep t rules all = courses_talk (is_kept t) t (λ client place past through. refl) (λ client place doing talks. doing_keeps t client place doing rules talks) all

-- THE LAW -----------------------------------------------------------------------------------------

of_document : (document : Document) → IsRuled (setting_of document).terms.rules
of_document document = ruled document.service.failover document.service.consistency

pub tracks_law : IsKeptOfCalls are_kept
tracks_law = record {
  at_start = λ document calls. talks_keep (traced_start document) (of_document document) (talks_begin document);
  at_event = λ before after old new event note items left one inv.
      talks_keep new (subst (λ (setting : Setting). IsRuled setting.terms.rules) (sym (one.setting ∙ inv.setting.same)) (of_document inv.setting.document)) (talks_are_kept before after old new event note items left one inv);
}
