-- Of Lost: what a request wants is held on a connection that it lost, which the event that it knows
-- ended; and a call without the mark that is out there is the one behind those that were shown. At
-- the start and behind each event.
use Rattle.std.proofs.Common.{◌≡◌, refl, sym, ap, subst, ◌∙◌, Bool, true, false, ℕ, ◌||◌, List, [], ◌∷◌, ◌++◌, Option, Some, None, ◌⊎◌, inl, inr, ◌+◌, ◌&&◌, length, filter, map, arith}
use Rattle.std.specs.Prelude.{is_none, is_some, unwrap_or, not, ◌==◌}
use Rattle.std.specs.List.{list_all, list_any, last_or}
use Rattle.std.specs.Option.{option_map_or}
use Rattle.std.proofs.lemmas.Bool.{and_parts, and_from, or_right, or_left}
use Rattle.std.proofs.lemmas.List.Folds.{list_any-append}
use Rattle.svc_values.specs.declared.entry.Ltxid.{Ltxid}
use Rattle.svc_values.specs.meaning.Identifiers.{same_ltxid}
use Rattle.svc_values.specs.meaning.Same.{same_bool}
use Rattle.outage_schedule.specs.declared.item.Served.{Served}
use Rattle.client_model.specs.declared.input.Input.{Input}
use Rattle.client_model.specs.declared.input.Input.TheVariants.{Lent, Opened, Took}
use Rattle.client_model.specs.meaning.Talk.{loses, talk_step, Step}
use Rattle.client_model.specs.meaning.Terms.{Phase, Running}
use Rattle.world_model.specs.records.Basic.{ends_rightly}
use Rattle.world_model.specs.meaning.Clients.{Doing}
use Rattle.world_model.specs.records.Conversing.{connected}
use Rattle.world_model.specs.meaning.Frames.{Sent, Reply}
use Rattle.world_model.specs.records.Hold.{goes_by, same_held, is_by_held, is_awaited}
use Rattle.world_model.specs.Orderly.{Orderly}
use Rattle.invariant_laws.specs.KeptLaws.{IsKeptOfAll}
use Rattle.world_model.specs.meaning.Links.{Link, link_at, sends, takes}
use Rattle.invariant_laws.specs.Lost.{lost_links, is_gone, is_wanted, same_event, wants_lost, want_lost, is_next, wants_next, want_next, is_asked_next, is_asked_for}
use Rattle.world_model.specs.meaning.Machines.{Machine}
use Rattle.world_model.specs.meaning.Matching.{Noted}
use Rattle.world_model.specs.Reached.{traced_start}
use Rattle.world_model.specs.meaning.Settings.{setting_of}
use Rattle.world_model.specs.Traced.{Traced, Course, courses_of}
use Rattle.world_model.specs.Wanted.{Wanted, wanted_in}
use Rattle.world_model.specs.Words.{brought, held_in}
use Rattle.world_model.proofs.Offered.{at_link, weaker_all, HasStepped, HeardOn, OfNone, OfIdle, OfNew, OfReply, OfEnded, Behind, AsFirst, LostBehind, happens_step, sends_case, sends_alike, ends_case, with_frames, by_its, taken_goes, Followed, follow_happens, at_event, doing_course, held_now, again_now, resting_none, Happens, moves_next_number as next_number, first_step, first_doing, account_now, eq_to, not_both, eq_from, ne_to, dead_sends_none, last_kept}
use Rattle.invariant_laws.proofs.losses.KeptOutcomes.{wanted_alike, any_weaker}
use Rattle.invariant_laws.proofs.losses.LostKept.{any_link, any_still, any_kept, course_before, course_kept, KeepsLost, lost_kept}
use Rattle.invariant_laws.proofs.losses.LostLists.{last_split, lost_of}
use Rattle.invariant_laws.proofs.losses.LostSteps.{in_course, last_is, same_held as held_same, before_so}
use Rattle.invariant_laws.proofs.talks.TalkWants.{StaysOrNone, taken_wants, gone_wants, plain_wants}
use Rattle.std.proofs.lemmas.List.{append-nil, length-append, length-map}
use Rattle.svc_values.specs.declared.frame.Up.{Up}
use Rattle.svc_values.specs.declared.frame.Up.TheVariants as up
use Rattle.client_model.specs.declared.act.Act.{Act}
use Rattle.client_model.specs.declared.act.Shown.{Shown}
use Rattle.client_model.specs.meaning.States.{Living}
use Rattle.client_model.proofs.Offered.{Fits}
use Rattle.pool_core.specs.meaning.Slots.{give_back_answer}
use Rattle.run_clauses.specs.meaning.Reports.{shown_call}
use Rattle.world_model.specs.meaning.Acting.{frames_of, sent_by, call_in, owner_at}
use Rattle.world_model.specs.Parts.{implies, is_rep, is_out, out_frame, count_reps, is_unmarked, is_unmarked_frame}
use Rattle.invariant_laws.proofs.rows.KeptRows.{before_on}
use Rattle.invariant_laws.proofs.rows.RowCourses.{OnIt}
use Rattle.invariant_laws.proofs.rows.RowSteps.{ShownStep, NoneMore, OneMore, shown_step, shown_after, before_fits}
use Rattle.invariant_laws.proofs.losses.ShutStays.{IsFrozen}

-- ONE CONNECTION ----------------------------------------------------------------------------------

held_some : (x : Ltxid) (held : Option Ltxid) → same_held (Some x) held ≡ true → option_map_or (same_ltxid x) held false ≡ true
held_some x None here = absurd (let none : ⊥ = cc in none)
held_some x (Some y) here = here

-- which event ended one that is not open
ended_by : (opens : Bool) (ended : Option ℕ) → opens ≡ false → same_bool opens (is_none ended) ≡ true → same_event ended (unwrap_or ended 0) ≡ true
ended_by true ended shut same = absurd (let none : ⊥ = cc in none)
ended_by false None shut same = absurd (let none : ⊥ = cc in none)
ended_by false (Some event) shut same = eq_to event event refl

-- and frames that are sent on it do not
shut_ended : (event : ℕ) (frames : List Sent) (link : Link) → link.is_open ≡ false → (sends event frames link).ended ≡ link.ended
shut_ended event frames link shut =
    sends_case (λ (one : Link). one.ended ≡ link.ended) event frames link
    (λ closes. ends_case (λ (one : Link). one.ended ≡ link.ended) event (with_frames frames link) (λ opens. absurd (not_both link.is_open opens shut)) (λ closed. refl)) (λ closes. refl)

-- a reply was taken behind the frame that was out, and nothing is sent
taken_not_out : (event : ℕ) (link : Link) (reply : Reply) (left : List Reply) (frames : List Sent) → frames ≡ [] → is_out link ≡ true → is_out (sends event frames (takes (Took reply.frame link.is_open) reply left link)) ≡ false
taken_not_out event link reply left frames none out =
    ap (λ (more : List Sent). is_out (sends event more (takes (Took reply.frame link.is_open) reply left link))) none
    ∙ (ap (λ (sents : List Sent). count_reps sents == length (link.taken ++ reply ∷ []) + 1) (append-nil link.sent)
    ∙ ne_to (count_reps link.sent) (length (link.taken ++ reply ∷ []) + 1)
    (let count : count_reps link.sent ≡ length link.taken + 1 = eq_from (count_reps link.sent) (length link.taken + 1) out in
    let more : length (link.taken ++ reply ∷ []) ≡ length link.taken + 1 = length-append link.taken (reply ∷ []) in
    omega (arith, count, more)))

last_any : (test : ℕ → Bool) (numbers rest : List ℕ) (number : ℕ) → numbers ≡ rest ++ number ∷ [] → test number ≡ true → list_any test numbers ≡ true
last_any test numbers rest number is here =
    ap (list_any test) is ∙ (list_any-append test rest (number ∷ []) ∙ or_right (list_any test rest) (test number || false) (or_left (test number) false here))

-- WHAT IS OUT -------------------------------------------------------------------------------------

-- a call without the mark that is awaited is the next one
awaited_next : (phase : Phase) (sent : Sent) (count : ℕ) → is_awaited phase sent ≡ true → ((state : Living) → phase ≡ Running state → state.track.call ≡ count) → implies (is_unmarked sent) (sent.call == count) ≡ true
awaited_next phase sent count awaited runs = by phase sent.frame awaited runs
  where
    by : (phase : Phase) (frame : Up) → is_awaited phase (record sent { frame = frame }) ≡ true → ((state : Living) → phase ≡ Running state → state.track.call ≡ count) → implies (is_unmarked_frame frame) (sent.call == count) ≡ true
    by (Running state) (up.Call false kept call) awaited runs =
        eq_to sent.call count (eq_from sent.call state.track.call (and_parts (same_bool false false) (sent.call == state.track.call) awaited).1 ∙ runs state refl)
    by phase (up.Call false kept call) awaited runs = absurd (let none : ⊥ = cc in none)
    by phase frame awaited runs = refl

-- what is wanted is held on one of these, and what is out there is next
abbrev wanted_on : List Link → List ℕ → ℕ → Option Wanted → Bool
wanted_on links numbers count wanted = option_map_or (λ one. any_link (λ link. is_wanted link one && is_next count link) links numbers) wanted true

abbrev next_test : ℕ → List Sent → List Reply → Bool
next_test count sents taken = implies (count_reps sents == length taken + 1) (option_map_or (λ sent. implies (is_unmarked sent) (sent.call == count)) (last_or None (filter is_rep sents)) true)

next_alike : (count : ℕ) (wanted : Wanted) (a b : Link) → IsFrozen a b → (is_wanted a wanted && is_next count a) ≡ true → (is_wanted b wanted && is_next count b) ≡ true
next_alike count wanted a b same here =
    let parts = and_parts (is_wanted a wanted) (is_next count a) here in
    and_from (is_wanted b wanted) (is_next count b) (wanted_alike wanted a b same parts.0)
    (ap (λ (sents : List Sent). next_test count sents b.taken) same.sent ∙ (ap (next_test count a.sent) same.taken ∙ parts.1))

-- EVENTS ------------------------------------------------------------------------------------------

module _ (t : Traced) (inv : Orderly t) (next : want_next t ≡ true) (new : Traced) (setting : new.setting ≡ t.setting) (items left : List Served) (kind : Noted) (happens : Happens t.setting (at_event t.machine) items left kind new.machine) where
  abbrev now : Machine
  now = at_event t.machine

  abbrev links : List Link
  links = t.machine.links

  wanted_still : (numbers : List ℕ) → list_all (is_gone t.machine.links (courses_of t)) numbers ≡ true → (count : ℕ) (wanted : Option Wanted) → wanted_on t.machine.links numbers count wanted ≡ true → wanted_on new.machine.links numbers count wanted ≡ true
  wanted_still numbers gone count None here = refl
  wanted_still numbers gone count (Some wanted) here = any_still t inv new setting items left kind happens (λ link. is_wanted link wanted && is_next count link) (next_alike count wanted) numbers gone here

  module _ (who : ℕ) (step : HasStepped t.setting now who new.machine) where
    abbrev phase : Phase
    phase = step.before.talk.phase

    abbrev step_on : Input → Step
    step_on input = talk_step t.setting.terms step.before.talk input now.tick

    abbrev first : Doing
    first = first_doing t.setting now inv.script.talks who new.machine step

    abbrev act : Act
    act = (first_step t.setting now inv.script.talks who new.machine step).done.act

    abbrev before : Course
    before = course_before t inv new setting items left kind happens who step

    abbrev after : Course
    after = course_kept t inv new setting items left kind happens who step

    abbrev count_before : ℕ
    count_before = length before.report.calls

    abbrev count_after : ℕ
    count_after = length after.report.calls

    abbrev spoken_as : List Up → List Sent
    spoken_as frames = map (sent_by (owner_at now who) (call_in first.talk.phase)) frames

    abbrev spoken : List Sent
    spoken = spoken_as (frames_of step.pool (unwrap_or step.connection 0) act)

    -- behind its step it wants what it did, or nothing, or what is held on the connection that it
    -- lost
    pub data WantsNow : Type 0 where
      AsItWas : wanted_in step.after.talk.phase ≡ wanted_in phase → act.shown ≡ None → WantsNow
      NoLonger : wanted_in step.after.talk.phase ≡ None → WantsNow
      NowLost : (number : ℕ) (link : Link) (wanted : Wanted) → step.before.connection ≡ Some number → brought step.input ≡ None → step.after.connection ≡ None → link_at new.machine.links number ≡ Some link
          → (is_wanted link wanted && is_next count_after link) ≡ true → wanted_in step.after.talk.phase ≡ Some wanted → WantsNow

    -- where no call is shown there are as many as before
    count_same : act.shown ≡ None → count_after ≡ count_before
    count_same none =
        ap (λ (shown : List Shown). length (map shown_call shown)) (shown_after t.setting now inv.script.talks who new.machine step ∙ by (shown_step t.setting now inv.script.talks who new.machine step))
      where
        by : ShownStep (account_now t.setting.terms step.before).shown (account_now t.setting.terms first).shown act.shown → (account_now t.setting.terms first).shown ≡ (account_now t.setting.terms step.before).shown
        by (NoneMore same) = same
        by (OneMore one is same) = absurd (let never : None ≡ Some one = sym none ∙ is in let nothing : ⊥ = cc in nothing)

    goes_held : (connection : ℕ) (link : Link) → step.before.connection ≡ Some connection → link_at t.machine.links connection ≡ Some link → same_held (goes_by phase) link.held ≡ true
    goes_held connection link has there =
        by_its t.machine.links step.before connection link has there (doing_course (is_by_held t) t who step.client step.before inv.hold.by_held step.here (in_course t inv who new.machine step connection has))

    ended_is : (connection : ℕ) (link : Link) → link_at t.machine.links connection ≡ Some link → link.is_open ≡ false → same_event link.ended (unwrap_or link.ended 0) ≡ true
    ended_is connection link there shut = ended_by link.is_open link.ended shut (and_parts (same_bool link.is_open (is_none link.ended)) _ (at_link (ends_rightly t) links connection link inv.basic.ended there)).0

    -- what is out on the connection that it had
    out_is : (connection : ℕ) (link : Link) → step.before.connection ≡ Some connection → link_at t.machine.links connection ≡ Some link → is_out link ≡ true
    out_is connection link has there =
        (and_parts (is_out link) _ ((held_now t inv).out who step.client step.before connection link step.here (in_course t inv who new.machine step connection has) has there)).0

    out_next : (connection : ℕ) (link : Link) → step.before.connection ≡ Some connection → link_at t.machine.links connection ≡ Some link → act.shown ≡ None → is_next count_after link ≡ true
    out_next connection link has there none =
        or_right (not (is_out link)) (option_map_or (λ sent. implies (is_unmarked sent) (sent.call == count_after)) (out_frame link) true)
        (ap (λ (found : Option Sent). option_map_or (λ sent. implies (is_unmarked sent) (sent.call == count_after)) found true) out ∙ awaited_next phase on.last count_after on.awaited runs)
      where
        on : OnIt t.machine.links (record { client = who; place = length step.client.past }) step.before.connection step.before.talk.phase
        on = before_on t now who new.machine step step.here inv.hold.held inv.wire.grammar connection has

        number_is : on.number ≡ connection
        number_is = let e : Some on.number ≡ Some connection = sym on.has ∙ has in let same : on.number ≡ connection = cc in same

        link_is : on.link ≡ link
        link_is = let e : Some on.link ≡ Some link = sym on.there ∙ (ap (link_at t.machine.links) number_is ∙ there) in let same : on.link ≡ link = cc in same

        out : out_frame link ≡ Some on.last
        out =
            ap out_frame (sym link_is)
            ∙ (last_kept is_rep None None on.link.sent (λ never. refl) (ap (λ (found : Option Sent). option_map_or is_rep found false) on.is ∙ on.answered) ∙ on.is)

        fits_at : (p : Phase) → phase ≡ p
            → Fits t.setting.terms step.before.request.calls (account_now t.setting.terms step.before) (before_fits t.setting now inv.script.talks who new.machine step).gone p
        fits_at p is =
            subst (λ (q : Phase). Fits t.setting.terms step.before.request.calls (account_now t.setting.terms step.before) (before_fits t.setting now inv.script.talks who new.machine step).gone q) is
            (before_fits t.setting now inv.script.talks who new.machine step).fits

        runs : (state : Living) → phase ≡ Running state → state.track.call ≡ count_after
        runs state is = (fits_at (Running state) is).0.tracked.call ∙ (sym (length-map (account_now t.setting.terms step.before).shown shown_call) ∙ sym (count_same none))

    stays_so : (input : Input) → step.input ≡ input → step.after ≡ first → StaysOrNone phase (step_on input) → WantsNow
    stays_so input is same (inl stays) = AsItWas (ap (λ (doing : Doing). wanted_in doing.talk.phase) same ∙ (ap (λ (i : Input). wanted_in (step_on i).0.phase) is ∙ stays.0)) (ap (λ (i : Input). (step_on i).1.shown) is ∙ stays.1)
    stays_so input is same (inr none) = NoLonger (ap (λ (doing : Doing). wanted_in doing.talk.phase) same ∙ (ap (λ (i : Input). wanted_in (step_on i).0.phase) is ∙ none))

    -- its connection is gone
    gone_so : (number : ℕ) (link : Link) (from : Phase) (event : ℕ) → step.before.connection ≡ Some number → brought step.input ≡ None → step.after.connection ≡ None → link_at new.machine.links number ≡ Some link
        → same_event link.ended event ≡ true → is_next count_after link ≡ true → ((x : Ltxid) → goes_by from ≡ Some x → same_held (Some x) link.held ≡ true)
        → ((wanted_in from ≡ wanted_in phase) × (act.shown ≡ None)) ⊎ (wanted_in from ≡ None) → step.after.talk.phase ≡ loses from event → WantsNow
    gone_so number link from event has none gone there ended out held stays is = by (gone_wants from event) stays
      where
        by : (wanted_in (loses from event) ≡ wanted_in from) ⊎ ((x : Ltxid) × ((goes_by from ≡ Some x) × (wanted_in (loses from event) ≡ Some (record { ltxid = x; event = event }))))
            → ((wanted_in from ≡ wanted_in phase) × (act.shown ≡ None)) ⊎ (wanted_in from ≡ None) → WantsNow
        by (inl same) (inl stays) = AsItWas (ap wanted_in is ∙ (same ∙ stays.0)) stays.1
        by (inl same) (inr nothing) = NoLonger (ap wanted_in is ∙ (same ∙ nothing))
        by (inr one) stays =
            let wanted : Wanted = record { ltxid = one.0; event = event } in
            NowLost number link wanted has none gone there
            (and_from (is_wanted link wanted) (is_next count_after link)
            (and_from (option_map_or (same_ltxid one.0) link.held false) (same_event link.ended event) (held_some one.0 link.held (held one.0 one.1.0)) ended) out) (ap wanted_in is ∙ one.1.1)

    -- behind a frame of one that is not open
    behind_so : (connection : ℕ) (link : Link) (reply : Reply) (left : List Reply) → step.before.connection ≡ Some connection → link_at t.machine.links connection ≡ Some link → link.down ≡ reply ∷ left
        → link_at new.machine.links connection ≡ Some (sends now.event spoken (takes (Took reply.frame link.is_open) reply left link)) → step.input ≡ Took reply.frame link.is_open
        → (later : Doing) → step.after ≡ later → Behind t.setting first act.hold link.is_open link.ended later → WantsNow
    behind_so connection link reply left has there down at is _ equal (AsFirst not_lost) =
        stays_so (Took reply.frame link.is_open) is equal (taken_wants t.setting.terms step.before.talk phase reply.frame link.is_open now.tick refl)
    behind_so connection link reply left has there down at is _ equal (LostBehind event tick shut keep) =
        gone_so connection (sends now.event spoken taken) (step_on (Took reply.frame link.is_open)).0.phase (unwrap_or link.ended 0) has (ap brought is) (ap (λ (doing : Doing). doing.connection) equal) at
        (ap (λ (ended : Option ℕ). same_event ended (unwrap_or link.ended 0)) (shut_ended now.event spoken taken shut) ∙ ended_is connection link there shut)
        (ap (λ (out : Bool). implies out (option_map_or (λ sent. implies (is_unmarked sent) (sent.call == count_after)) (out_frame (sends now.event spoken taken)) true))
        (taken_not_out now.event link reply left spoken silent (out_is connection link has there)))
        (λ x goes. ap (same_held (Some x)) (sends_alike (λ (one : Link). one.held ≡ taken.held) now.event spoken taken refl refl)
        ∙ taken_goes t.setting.terms step.before.talk phase reply.frame link.is_open now.tick link.held x refl (goes_held connection link has there)
        (λ state replaying y tell. again_now t inv who connection step.client step.before link reply left step.here (in_course t inv who new.machine step connection has) has there down state replaying y tell)
        (ap (λ (input : Input). (step_on input).1.hold) (sym is) ∙ keep) goes)
        (by (taken_wants t.setting.terms step.before.talk phase reply.frame link.is_open now.tick refl))
        (ap (λ (doing : Doing). doing.talk.phase) equal ∙ ap (λ (input : Input). loses (step_on input).0.phase (unwrap_or link.ended 0)) is)
      where
        taken : Link
        taken = takes (Took reply.frame link.is_open) reply left link

        silent : spoken ≡ []
        silent =
            ap (λ (input : Input). spoken_as (frames_of step.pool (unwrap_or step.connection 0) (step_on input).1)) (is ∙ ap (λ (opens : Bool). Took reply.frame opens) shut)
            ∙ ap spoken_as (dead_sends_none t.setting.terms step.before.talk reply.frame now.tick (give_back_answer step.pool (unwrap_or step.connection 0)))

        by : StaysOrNone phase (step_on (Took reply.frame link.is_open)) → ((wanted_in (step_on (Took reply.frame link.is_open)).0.phase ≡ wanted_in phase) × (act.shown ≡ None)) ⊎ (wanted_in (step_on (Took reply.frame link.is_open)).0.phase ≡ None)
        by (inl stays) = inl (stays.0, ap (λ (i : Input). (step_on i).1.shown) is ∙ stays.1)
        by (inr none) = inr none

    pub wants_now : WantsNow
    wants_now = by spoken step.before.connection step.input step.after refl refl refl refl step.heard_on
      where
        by : (said : List Sent) (had : Option ℕ) (input : Input) (later : Doing) → spoken ≡ said → step.before.connection ≡ had → step.input ≡ input → step.after ≡ later
            → HeardOn t.setting now new.machine who first act.hold said later had input → WantsNow
        by said _ _ later spoke has is equal (OfNone had input none plain same) = stays_so input is (equal ∙ same) (plain_wants t.setting.terms step.before.talk input now.tick plain)
        by said _ _ later spoke has is equal (OfIdle had connection x answer same) = stays_so (Lent connection x) is (equal ∙ same) (plain_wants t.setting.terms step.before.talk (Lent connection x) now.tick refl)
        by said _ _ later spoke has is equal (OfNew had same) = stays_so (Opened (next_number now)) is (equal ∙ same) (plain_wants t.setting.terms step.before.talk (Opened (next_number now)) now.tick refl)
        by said _ _ later spoke has is equal (OfReply had connection link reply left some there down at back) =
            behind_so connection link reply left (has ∙ some) there down (at ∙ ap (λ (frames : List Sent). Some (sends now.event frames (takes (Took reply.frame link.is_open) reply left link))) (sym spoke)) is later equal back
        by said _ _ later spoke has is equal (OfEnded had connection link some there shut at same) =
            let shown : act.shown ≡ None = ap (λ (i : Input). (step_on i).1.shown) is in
            gone_so connection link phase (unwrap_or link.ended 0) (has ∙ some) (ap brought is) (ap (λ (doing : Doing). doing.connection) (equal ∙ same) ∙ (sym step.connects ∙ ap (λ (input : Input). connected step.before.connection input) is)) at
            (ended_is connection link there shut) (out_next connection link (has ∙ some) there shown)
            (λ x goes. ap (λ (found : Option Ltxid). same_held found link.held) (sym goes) ∙ goes_held connection link (has ∙ some) there) (inl (refl, shown))
            (ap (λ (doing : Doing). doing.talk.phase) (equal ∙ same) ∙ ap (λ (i : Input). (step_on i).0.phase) is)

    -- THE REQUEST GOES ON
    -- ---------------------------------------------------------------------------

    goes_so : list_all (is_gone t.machine.links (courses_of t)) (lost_links before) ≡ true → wanted_on new.machine.links (lost_links after) count_after (wanted_in step.after.talk.phase) ≡ true
    goes_so gone = by wants_now
      where
        more : (wanted : Option Wanted) → wanted_on new.machine.links (lost_links before) count_before wanted ≡ true → wanted_on new.machine.links (lost_links after) count_before wanted ≡ true
        more None here = refl
        more (Some wanted) here = any_kept t inv new setting items left kind happens who step (λ link. is_wanted link wanted && is_next count_before link) here

        by : WantsNow → wanted_on new.machine.links (lost_links after) count_after (wanted_in step.after.talk.phase) ≡ true
        by (AsItWas same none) =
            ap (λ (count : ℕ). wanted_on new.machine.links (lost_links after) count (wanted_in step.after.talk.phase)) (count_same none)
            ∙ (ap (wanted_on new.machine.links (lost_links after) count_before) same
            ∙ more (wanted_in phase) (wanted_still (lost_links before) gone count_before (wanted_in phase) (before_so t inv who new.machine step (wants_next t) next (λ request. refl))))
        by (NoLonger none) = ap (wanted_on new.machine.links (lost_links after) count_after) none
        by (NowLost number link wanted has none left_none there here is) =
            ap (wanted_on new.machine.links (lost_links after) count_after) is
            ∙ (ap (any_link (λ one. is_wanted one wanted && is_next count_after one) new.machine.links) (ap (λ (one : Option ℕ). lost_of (is_some one) (held_in step.after.steps)) left_none ∙ held_same t inv who new.machine step none)
            ∙ last_any (λ one. option_map_or (λ found. is_wanted found wanted && is_next count_after found) (link_at new.machine.links one) false) (held_in step.before.steps) _ number
            (last_split (held_in step.before.steps) number (last_is t inv who new.machine step number has)) (ap (λ (found : Option Link). option_map_or (λ one. is_wanted one wanted && is_next count_after one) found false) there ∙ here))

  abbrev wanted_test : List Link → Course → Bool
  wanted_test links course = wanted_on links (lost_links course) (length course.report.calls) (wanted_in course.phase)

  keeps_wanted : KeepsLost t inv new setting items left kind happens wanted_test
  keeps_wanted = record {
    others = λ course gone here. wanted_still (lost_links course) gone (length course.report.calls) (wanted_in course.phase) here;
    begins = λ who place request. refl;
    goes = λ who step keep gone here. goes_so who step gone;
    ends = λ who step over gone here. refl;
  }

pub next_law : IsKeptOfAll want_next
next_law = record {
  at_start = λ document. resting_none (setting_of document) 1 (wants_next (traced_start document)) document.clients;
  at_event = λ before after old new event note items left one inv.
      let by : Followed old.setting old.machine event note items left new.machine = follow_happens old.setting old.machine event note items left new.machine one.follows in
      lost_kept old inv.orderly new one.setting items left by.kind by.happens (wanted_test old inv.orderly inv.lost.next new one.setting items left by.kind by.happens)
      (keeps_wanted old inv.orderly inv.lost.next new one.setting items left by.kind by.happens) inv.lost.gone (happens_step old.setting (at_event old.machine) items left by.kind new.machine by.happens) inv.lost.next;
}

-- so it is held on one
next_wants : (t : Traced) (course : Course) → wants_next t course ≡ true → wants_lost t course ≡ true
next_wants t course here = by (wanted_in course.phase) here
  where
    by : (wanted : Option Wanted) → option_map_or (is_asked_next t course) wanted true ≡ true → option_map_or (is_asked_for t course) wanted true ≡ true
    by None here = refl
    by (Some wanted) here =
        any_weaker (λ link. is_wanted link wanted && is_next (length course.report.calls) link) (λ link. is_wanted link wanted)
        (λ link so. (and_parts (is_wanted link wanted) (is_next (length course.report.calls) link) so).0) t.machine.links (lost_links course) here

pub wanted_law : IsKeptOfAll want_lost
wanted_law = record {
  at_start = λ document. weaker_all (wants_next (traced_start document)) (wants_lost (traced_start document)) (courses_of (traced_start document)) (next_wants (traced_start document)) (next_law.at_start document);
  at_event = λ before after old new event note items left one inv.
      weaker_all (wants_next new) (wants_lost new) (courses_of new) (next_wants new) (next_law.at_event before after old new event note items left one inv);
}
