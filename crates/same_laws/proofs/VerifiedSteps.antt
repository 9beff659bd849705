-- Where a client sends a call behind others on its connection, it has verified the one before: that
-- one was shown, or its digest is the recorded one.
use Rattle.std.proofs.Common.{◌≡◌, ◌≢◌, refl, sym, ap, subst, ◌∙◌, append-nil, Bool, true, false, ℕ, ◌+◌, ◌-◌, ◌≤◌, ◌&&◌, filter, length, take, List, [], ◌∷◌, ◌++◌, map, Option, Some, None, ◌⊎◌, inl, inr, arith}
use Rattle.std.specs.Prelude.{◌==◌, ◌||◌, not, option_map, slice_get, unwrap_or}
use Rattle.std.specs.List.{list_all}
use Rattle.std.specs.Option.{option_map_or}
use Rattle.std.specs.Str.{bytes_eq}
use Rattle.std.proofs.lemmas.Bool.{and_parts, and_from}
use Rattle.std.proofs.lemmas.List.{map-append}
use Rattle.svc_values.specs.declared.answer.Answer.{Answer}
use Rattle.svc_values.specs.declared.draw.Draw.{Draw}
use Rattle.svc_values.specs.declared.entry.Ltxid.{Ltxid}
use Rattle.svc_values.specs.declared.frame.Up.{Up}
use Rattle.svc_values.specs.declared.frame.Down.{Down}
use Rattle.svc_values.specs.declared.frame.Down.TheVariants as down
use Rattle.svc_values.specs.meaning.Same.{same_answers, same_draws}
use Rattle.svc_values.specs.SameLaws.{same_answers_decide, same_draws_decide}
use Rattle.outage_schedule.specs.declared.item.Item.{Item}
use Rattle.outage_schedule.specs.declared.item.Item.TheVariants as item
use Rattle.outage_schedule.specs.declared.request.ShownCall.{ShownCall}
use Rattle.client_model.specs.declared.act.Shown.{Shown}
use Rattle.client_model.specs.declared.input.Input.{Input}
use Rattle.client_model.specs.declared.input.Input.TheVariants.{Lent, Took}
use Rattle.client_model.specs.meaning.States.{Living, Repeating}
use Rattle.client_model.specs.meaning.Talk.{talk_step, takes}
use Rattle.client_model.specs.meaning.Terms.{Phase, Idle, Unbegun, Queued, Seeking, Greeting, Asked, Running, Replaying}
use Rattle.client_model.specs.meaning.Verifying.{index_of}
use Rattle.client_model.proofs.Offered.{Fits}
use Rattle.run_clauses.specs.meaning.Reports.{shown_call}
use Rattle.world_model.specs.meaning.Acting.{call_in, frames_of, owner_at, sent_by}
use Rattle.world_model.specs.meaning.Clients.{Doing}
use Rattle.world_model.specs.records.Conversing.{AllTalk, connected}
use Rattle.world_model.specs.meaning.Frames.{Owner, Sent, Handled}
use Rattle.world_model.specs.records.Hold.{is_awaited, is_call as is_awaited_call}
use Rattle.world_model.specs.meaning.Links.{Link, link_at}
use Rattle.world_model.specs.meaning.Machines.{Machine}
use Rattle.world_model.specs.Parts.{is_rep}
use Rattle.world_model.specs.Sames.{owned_by, same_down, same_owners, same_sent, same_up}
use Rattle.world_model.specs.meaning.Settings.{Setting}
use Rattle.invariant_laws.specs.Shown.{is_call}
use Rattle.world_model.specs.Traced.{Course, course_now}
use Rattle.invariant_laws.specs.Verified.{is_verified, is_verified_item}
use Rattle.world_model.proofs.Offered.{weaker_all, HasStepped, Known, IsLast, get_mapped, get_further, get_last, grown_at, link_sents, sents_at, spoken_others, spoken_own, sent_lists, spoken, account_now, first_doing, first_step, eq_from, either, some_same}
use Rattle.once_laws.proofs.Offered.{is_mine, mine_alike, calls_few, last_call, last_too, take_all}
use Rattle.invariant_laws.proofs.Offered.{reply_items_answering as answering, answers_last, said_by, SaysCall, awaited_mark, mark_alike, says_call, OnIt, AwaitedCall, ask_opens, awaited_call, connect_opens, row_append, no_row_yet, said_silent, row_of, ShownStep, NoneMore, OneMore, before_fits, shown_after, shown_more, shown_step, FirstReply, first_reply, no_calls}
use Rattle.same_laws.proofs.TalkVerified.{AtFrame, AtLent, IsCompared, IsRecorded, IsReplied, Speaks, compared_speaks, input_speaks, next_digest, reply_speaks, speaks}

-- THE STEP ----------------------------------------------------------------------------------------

none_call : (send : List Up) → speaks send ≡ false → no_calls send ≡ true
none_call [] silent = refl
none_call (frame ∷ send) silent = by (is_call frame) silent (none_call send)
  where
    by : (call : Bool) → (call || speaks send) ≡ false → (speaks send ≡ false → no_calls send ≡ true) → (not call && no_calls send) ≡ true
    by true silent rest = absurd (let none : ⊥ = cc in none)
    by false silent rest = rest silent

pub no_one : {A : Type 0} (xs : List A) → length xs ≤ 0 → xs ≡ []
no_one [] few = refl
no_one (x ∷ xs) few = absurd (let none : ⊥ = omega (arith, few) in none)

module _ (setting : Setting) (m : Machine) (talks : AllTalk setting.terms m.clients) (number : ℕ) (n : Machine) (step : HasStepped setting m number n)
    (on : (connection : ℕ) → step.before.connection ≡ Some connection → OnIt m.links (record { client = number; place = length step.client.past }) step.before.connection step.before.talk.phase)
    (strange : (connection : ℕ) (link : Link) (ltxid : Ltxid) → step.input ≡ Lent connection ltxid → link_at m.links connection ≡ Some link → row_of (record { client = number; place = length step.client.past }) link.sent ≡ [])
    (known : (at : ℕ) (link : Link) → link_at m.links at ≡ Some link → Known link) (d : Course) (owner : d.owner ≡ record { client = number; place = length step.client.past })
    (report : d.report.calls ≡ map shown_call (account_now setting.terms step.after).shown) where
  abbrev mine : Owner
  mine = record { client = number; place = length step.client.past }

  abbrev before_course : Course
  before_course = course_now setting number (length step.client.past) step.before

  abbrev phase : Phase
  phase = step.before.talk.phase

  abbrev shown_before : List Shown
  shown_before = (account_now setting.terms step.before).shown

  abbrev first : Doing
  first = first_doing setting m talks number n step

  abbrev send : List Up
  send = (first_step setting m talks number n step).done.act.send

  abbrev said : List Sent
  said = map (sent_by (owner_at m number) (call_in first.talk.phase)) (frames_of step.pool (unwrap_or step.connection 0) (first_step setting m talks number n step).done.act)

  abbrev verified : Handled → Bool
  verified = is_verified setting.terms.digest d

  -- SHOWN CALLS STAY ------------------------------------------------------------------------------

  pub later : (rest : List Shown) × (d.report.calls ≡ before_course.report.calls ++ map shown_call rest)
  later = by (shown_step setting m talks number n step)
    where
      now : d.report.calls ≡ map shown_call (account_now setting.terms first).shown
      now = report ∙ ap (λ (s : List Shown). map shown_call s) (shown_after setting m talks number n step)

      more : (rest : List Shown) → (account_now setting.terms first).shown ≡ shown_before ++ rest → d.report.calls ≡ before_course.report.calls ++ map shown_call rest
      more rest are = now ∙ (ap (λ (s : List Shown). map shown_call s) are ∙ map-append shown_call shown_before rest)

      by : ShownStep shown_before (account_now setting.terms first).shown (first_step setting m talks number n step).done.act.shown → (rest : List Shown) × (d.report.calls ≡ before_course.report.calls ++ map shown_call rest)
      by (NoneMore same) = ([], more [] (same ∙ sym (append-nil shown_before)))
      by (OneMore some is are) = (some ∷ [], more (some ∷ []) are)

  get_shown : (index : ℕ) (one : Shown) → slice_get shown_before index ≡ Some one → slice_get d.report.calls index ≡ Some (shown_call one)
  get_shown index one is =
      ap (λ (all : List ShownCall). slice_get all index) later.1 ∙ get_further before_course.report.calls (map shown_call later.0) index (shown_call one) (get_mapped shown_call shown_before index one is)

  pub still : (one : Handled) → is_verified setting.terms.digest before_course one ≡ true → verified one ≡ true
  still one here = by (slice_get before_course.report.calls one.sent.call) refl here
    where
      by : (found : Option ShownCall) → slice_get before_course.report.calls one.sent.call ≡ found → option_map_or (λ (s : ShownCall). is_verified_item setting.terms.digest s one.served.item) found false ≡ true → verified one ≡ true
      by None is here = absurd (let none : ⊥ = cc in none)
      by (Some shown) is here =
          subst (λ (found : Option ShownCall). option_map_or (λ (s : ShownCall). is_verified_item setting.terms.digest s one.served.item) found false ≡ true)
          (sym (ap (λ (all : List ShownCall). slice_get all one.sent.call) later.1 ∙ get_further before_course.report.calls (map shown_call later.0) one.sent.call shown is)) here

  -- THE CALL THAT WAS ANSWERED --------------------------------------------------------------------

  verified_at : (one : Handled) (index : ℕ) (shown : Shown) → one.sent.call ≡ index → slice_get d.report.calls index ≡ Some (shown_call shown) → is_verified_item setting.terms.digest (shown_call shown) one.served.item ≡ true → verified one ≡ true
  verified_at one index shown at is here =
      subst (λ (found : Option ShownCall). option_map_or (λ (s : ShownCall). is_verified_item setting.terms.digest s one.served.item) found false ≡ true) (sym (ap (slice_get d.report.calls) at ∙ is)) here

  module _ (frame : Down) (alive : Bool) (input : step.input ≡ Took frame alive) (at : ℕ) (has : step.before.connection ≡ Some at) (says : speaks send ≡ true) where
    abbrev it : OnIt m.links mine step.before.connection phase
    it = on at has

    abbrev link : Link
    link = it.link

    first_one : FirstReply m step.before.connection frame
    first_one = first_reply setting m n number _ _ _ step.after step.before.connection step.input step.heard_on frame alive input

    numbers : (a b : ℕ) → step.before.connection ≡ Some a → step.before.connection ≡ Some b → a ≡ b
    numbers a b one other = let e : Some a ≡ Some b = sym one ∙ other in let same : a ≡ b = cc in same

    link_same : first_one.link ≡ link
    link_same = some_same (link_at m.links it.number) first_one.link link (ap (link_at m.links) (numbers it.number first_one.number it.has first_one.has) ∙ first_one.there) it.there

    down_is : link.down ≡ first_one.reply ∷ first_one.later
    down_is = ap (λ (l : Link). l.down) (sym link_same) ∙ first_one.down

    knows : Known link
    knows = known it.number link it.there

    abbrev calls : List Handled
    calls = filter (λ one. owned_by mine one.sent && is_call one.sent.frame) link.served

    takes_says : speaks (takes setting.terms step.before.talk phase frame alive m.tick).1.send ≡ true
    takes_says = subst (λ (i : Input). speaks (talk_step setting.terms step.before.talk i m.tick).1.send ≡ true) input says

    takes_shows : (first_step setting m talks number n step).done.act.shown ≡ (takes setting.terms step.before.talk phase frame alive m.tick).1.shown
    takes_shows = ap (λ (i : Input). (talk_step setting.terms step.before.talk i m.tick).1.shown) input

    -- what is out is a call, and its item was served
    module _ (mark : Bool) (index : ℕ) (awaited : is_awaited_call mark index it.last it.last.frame ≡ true) (answers : List Answer) (draws : List Draw) (x : Ltxid) (frame_is : frame ≡ down.Reply answers draws x) where
      called : AwaitedCall mark index it.last
      called = awaited_call mark index it.last awaited

      rep : is_rep it.last ≡ true
      rep = it.answered

      abbrev last : IsLast link first_one.reply
      last = answering link knows first_one.reply first_one.later down_is it.last it.is rep

      sent_same : same_sent last.one.sent it.last ≡ true
      sent_same = answers_last link knows first_one.reply first_one.later down_is it.last it.is rep

      sent_parts : (same_owners last.one.sent.owner it.last.owner ≡ true) × (((last.one.sent.call == it.last.call) && same_up last.one.sent.frame it.last.frame) ≡ true)
      sent_parts = and_parts (same_owners last.one.sent.owner it.last.owner) ((last.one.sent.call == it.last.call) && same_up last.one.sent.frame it.last.frame) sent_same

      frame_parts : ((last.one.sent.call == it.last.call) ≡ true) × (same_up last.one.sent.frame it.last.frame ≡ true)
      frame_parts = and_parts (last.one.sent.call == it.last.call) (same_up last.one.sent.frame it.last.frame) sent_parts.1

      place : last.one.sent.call ≡ index
      place = eq_from last.one.sent.call it.last.call frame_parts.0 ∙ called.at

      its : is_mine before_course last.one.sent ≡ true
      its = mine_alike before_course last.one.sent it.last sent_same ∙ and_from (owned_by mine it.last) (is_call it.last.frame) it.mine called.call

      item_says : SaysCall mark answers draws last.one.served.item
      item_says =
          says_call mark answers draws x last.one.sent.frame last.one.served.item last.frame (mark_alike mark last.one.sent.frame it.last.frame frame_parts.1 (awaited_mark mark index it.last it.last.frame awaited)) (said_by link knows first_one.reply last)
          (subst (λ (g : Down). same_down g last.frame ≡ true) (first_one.is ∙ frame_is) last.same)

      -- so all are verified, if it is
      all_by : (shown : Shown) → slice_get d.report.calls index ≡ Some (shown_call shown) → is_verified_item setting.terms.digest (shown_call shown) (item.Call mark item_says.call answers draws) ≡ true
          → list_all verified (take (length (row_of mine link.sent) - 1) calls) ≡ true → list_all verified calls ≡ true
      all_by shown is here old =
          let few : length calls ≤ length (row_of mine link.sent) = calls_few before_course link knows in
          let long : length calls ≤ (length (row_of mine link.sent) - 1) + 1 = omega (arith, few) in
          last_too verified (length (row_of mine link.sent) - 1) None calls last.one long old (last_call before_course link knows last.one last.last its)
          (verified_at last.one index shown place is (subst (λ (one : Item). is_verified_item setting.terms.digest (shown_call shown) one ≡ true) (sym item_says.is) here))

    none_yet : row_of mine link.sent ≡ [] → list_all verified calls ≡ true
    none_yet none =
        let few : length calls ≤ length (row_of mine link.sent) = calls_few before_course link knows in
        let zero : length (row_of mine link.sent) ≡ 0 = ap (λ (all : List Sent). length all) none in
        ap (λ (all : List Handled). list_all verified all) (no_one calls (omega (arith, few, zero)))

    awaited_at : (p : Phase) → phase ≡ p → is_awaited p it.last ≡ true
    awaited_at p is = subst (λ (q : Phase). is_awaited q it.last ≡ true) is it.awaited

    says_at : (p : Phase) → phase ≡ p → speaks (takes setting.terms step.before.talk p frame alive m.tick).1.send ≡ true
    says_at p is = subst (λ (q : Phase). speaks (takes setting.terms step.before.talk q frame alive m.tick).1.send ≡ true) is takes_says

    -- a call without the mark was shown
    running_all : (state : Living) → phase ≡ Running state → list_all verified (take (length (row_of mine link.sent) - 1) calls) ≡ true → list_all verified calls ≡ true
    running_all state is old =
        all_by false state.track.call (awaited_at (Running state) is) replied.one.answers replied.one.draws replied.one.ltxid replied.frame_is replied.one shown
        (and_from (same_answers replied.one.answers replied.one.answers) (same_draws replied.one.draws replied.one.draws) ((same_answers_decide replied.one.answers replied.one.answers).1 refl) ((same_draws_decide replied.one.draws replied.one.draws).1 refl)) old
      where
        replied : IsReplied frame (takes setting.terms step.before.talk (Running state) frame alive m.tick).1.shown
        replied = reply_speaks setting.terms step.before.talk state frame alive m.tick (says_at (Running state) is)

        act_shows : (first_step setting m talks number n step).done.act.shown ≡ Some replied.one
        act_shows = takes_shows ∙ (ap (λ (q : Phase). (takes setting.terms step.before.talk q frame alive m.tick).1.shown) is ∙ replied.shown_is)

        fits : Fits setting.terms step.before.request.calls (account_now setting.terms step.before) (before_fits setting m talks number n step).gone (Running state)
        fits = subst (λ (p : Phase). Fits setting.terms step.before.request.calls (account_now setting.terms step.before) (before_fits setting m talks number n step).gone p) is (before_fits setting m talks number n step).fits

        index : state.track.call ≡ length shown_before
        index = fits.0.tracked.call

        more : (account_now setting.terms first).shown ≡ shown_before ++ replied.one ∷ []
        more = shown_more setting m talks number n step replied.one fits.0.left.one act_shows (ap (slice_get step.before.request.calls) (sym index) ∙ fits.0.left.is)

        shown : slice_get d.report.calls state.track.call ≡ Some (shown_call replied.one)
        shown =
            ap (slice_get d.report.calls) index
            ∙ (ap (λ (all : List ShownCall). slice_get all (length shown_before)) (report ∙ ap (λ (s : List Shown). map shown_call s) (shown_after setting m talks number n step ∙ more))
            ∙ get_mapped shown_call (shown_before ++ replied.one ∷ []) (length shown_before) replied.one (get_last shown_before replied.one))

    -- one with the mark has the recorded digest
    repeating_all : (state : Repeating) → phase ≡ Replaying state → list_all verified (take (length (row_of mine link.sent) - 1) calls) ≡ true → list_all verified calls ≡ true
    repeating_all state is old =
        all_by true (index_of state) (awaited_at (Replaying state) is) compared.answers compared.draws compared.ltxid compared.frame_is recorded.before (get_shown (index_of state) recorded.before recorded.is)
        (ap (λ (digest : List ℕ). bytes_eq digest (setting.terms.digest compared.answers)) recorded.digest ∙ compared.same) old
      where
        compared : IsCompared setting.terms state frame
        compared = compared_speaks setting.terms step.before.talk state frame alive m.tick (says_at (Replaying state) is)

        recorded : IsRecorded setting.terms shown_before (index_of state) compared.one
        recorded = next_digest setting.terms step.before state compared.one (before_fits setting m talks number n step) is compared.next

    phase_all : (p : Phase) → phase ≡ p → list_all verified (take (length (row_of mine link.sent) - 1) calls) ≡ true → list_all verified calls ≡ true
    phase_all (Running state) is old = running_all state is old
    phase_all (Replaying state) is old = repeating_all state is old
    phase_all (Greeting lost) is old = none_yet (no_row_yet setting m talks number n step it (Greeting lost) is (connect_opens it.last.frame))
    phase_all (Asked asking) is old = none_yet (no_row_yet setting m talks number n step it (Asked asking) is (ask_opens asking.ltxid it.last.frame))
    phase_all Idle is old = absurd (let e : is_awaited Idle it.last ≡ true = awaited_at Idle is in let never : ⊥ = cc in never)
    phase_all Unbegun is old = absurd (let e : is_awaited Unbegun it.last ≡ true = awaited_at Unbegun is in let never : ⊥ = cc in never)
    phase_all (Queued from) is old = absurd (let e : is_awaited (Queued from) it.last ≡ true = awaited_at (Queued from) is in let never : ⊥ = cc in never)
    phase_all (Seeking lost) is old = absurd (let e : is_awaited (Seeking lost) it.last ≡ true = awaited_at (Seeking lost) is in let never : ⊥ = cc in never)

    pub taken_all : list_all verified (take (length (row_of mine link.sent) - 1) calls) ≡ true → list_all verified calls ≡ true
    taken_all old = phase_all phase refl old

  -- A CONNECTION ----------------------------------------------------------------------------------

  module _ (at : ℕ) (was : Link) (there : link_at m.links at ≡ Some was) (old : list_all (is_verified setting.terms.digest before_course) (take (length (row_of mine was.sent) - 1) (filter (λ one. owned_by mine one.sent && is_call one.sent.frame) was.served)) ≡ true) where
    abbrev was_calls : List Handled
    was_calls = filter (λ one. owned_by mine one.sent && is_call one.sent.frame) was.served

    old_still : list_all verified (take (length (row_of mine was.sent) - 1) was_calls) ≡ true
    old_still = weaker_all (is_verified setting.terms.digest before_course) verified (take (length (row_of mine was.sent) - 1) was_calls) still old

    abbrev passes : List Sent → Type 0
    passes sents = list_all verified (take (length (row_of mine sents) - 1) was_calls) ≡ true

    silent_said : speaks send ≡ false → passes (was.sent ++ said)
    silent_said silent =
        subst (λ (row : List Sent). list_all verified (take (length row - 1) was_calls) ≡ true)
        (sym (row_append mine was.sent said ∙ (ap (λ (more : List Sent). row_of mine was.sent ++ more) (said_silent setting m talks number n step send refl (none_call send silent)) ∙ append-nil (row_of mine was.sent)))) old_still

    spoken_said : step.connection ≡ Some at → speaks send ≡ true → (input : Input) → step.input ≡ input → Speaks input → passes (was.sent ++ said)
    spoken_said has says _ is (AtFrame frame alive) =
        let held : step.before.connection ≡ Some at = ap (connected step.before.connection) (sym is) ∙ (step.connects ∙ has) in
        let it : OnIt m.links mine step.before.connection phase = on at held in
        let e : Some it.number ≡ Some at = sym it.has ∙ held in
        let number_same : it.number ≡ at = cc in
        let same : it.link ≡ was = some_same (link_at m.links at) it.link was (ap (link_at m.links) (sym number_same) ∙ it.there) there in
        let all : list_all verified was_calls ≡ true =
        subst (λ (l : Link). list_all verified (filter (λ one. owned_by mine one.sent && is_call one.sent.frame) l.served) ≡ true) same
        (taken_all frame alive is at held says
        (subst (λ (l : Link). list_all verified (take (length (row_of mine l.sent) - 1) (filter (λ one. owned_by mine one.sent && is_call one.sent.frame) l.served)) ≡ true) (sym same) old_still)) in
        take_all verified (length (row_of mine (was.sent ++ said)) - 1) was_calls all
    spoken_said has says _ is (AtLent connection ltxid) =
        let e : Some connection ≡ Some at = ap (connected step.before.connection) (sym is) ∙ (step.connects ∙ has) in
        let same : connection ≡ at = cc in
        let none : row_of mine was.sent ≡ [] = strange connection was ltxid is (ap (link_at m.links) same ∙ there) in
        let few : length was_calls ≤ length (row_of mine was.sent) = calls_few before_course was (known at was there) in
        let zero : length (row_of mine was.sent) ≡ 0 = ap (λ (all : List Sent). length all) none in
        take_all verified (length (row_of mine (was.sent ++ said)) - 1) was_calls (ap (λ (all : List Handled). list_all verified all) (no_one was_calls (omega (arith, few, zero))))

    own_said : step.connection ≡ Some at → passes (was.sent ++ said)
    own_said has = by (speaks send) refl
      where
        by : (test : Bool) → speaks send ≡ test → passes (was.sent ++ said)
        by false is = silent_said is
        by true is = spoken_said has is step.input refl (input_speaks setting.terms step.before.talk step.input m.tick is)

    grown : sents_at step.lists at ≡ Some was.sent
    grown = grown_at (sent_lists m.links) step.lists at was.sent step.grows (link_sents m.links at ∙ ap (λ (found : Option Link). option_map (λ (l : Link). l.sent) found) there)

    -- what was served there is verified behind the step
    pub step_verifies : (sents : List Sent) → sents_at (sent_lists n.links) at ≡ Some sents → passes sents
    step_verifies sents here = by step.connection refl
      where
        now : sents_at (spoken step.lists (unwrap_or step.connection 0) said) at ≡ Some sents
        now = ap (λ (lists : List (List Sent)). sents_at lists at) (sym step.sent_are) ∙ here

        equal : (a : List Sent) → sents_at (spoken step.lists (unwrap_or step.connection 0) said) at ≡ Some a → passes a → passes sents
        equal a is so = let e : Some a ≡ Some sents = sym is ∙ now in let same : a ≡ sents = cc in subst passes same so

        by : (connection : Option ℕ) → step.connection ≡ connection → passes sents
        by None is = equal was.sent (ap (λ (c : Option ℕ). sents_at (spoken step.lists (unwrap_or c 0) said) at) is ∙ grown) old_still
        by (Some connection) is = of (either at connection)
          where
            of : (at ≡ connection) ⊎ (at ≢ connection) → passes sents
            of (inl same) =
                equal (was.sent ++ said) (ap (λ (c : Option ℕ). sents_at (spoken step.lists (unwrap_or c 0) said) at) (is ∙ ap Some (sym same)) ∙ spoken_own step.lists at said was.sent grown) (own_said (is ∙ ap Some (sym same)))
            of (inr differ) = equal was.sent (ap (λ (c : Option ℕ). sents_at (spoken step.lists (unwrap_or c 0) said) at) is ∙ (spoken_others step.lists connection at said differ ∙ grown)) old_still
