-- Of Lost: each connection that a request lost is accounted for, at the start and behind each
-- event: its outcome was taken, or the request wants it or ended without knowing it, or no call was
-- sent there.
use Rattle.std.proofs.Common.{◌≡◌, refl, sym, ap, subst, ◌∙◌, Bool, true, false, ℕ, ◌&&◌, ◌||◌, length, List, [], ◌∷◌, ◌++◌, map, Option, Some, None, ◌⊎◌, inl, inr}
use Rattle.std.specs.Prelude.{not, unwrap_or, option_and_then}
use Rattle.std.specs.List.{list_all, list_any}
use Rattle.std.specs.Option.{option_map_or}
use Rattle.std.proofs.lemmas.Bool.{and_parts, and_from, or_right, or_left}
use Rattle.std.proofs.lemmas.List.{append-nil}
use Rattle.std.proofs.lemmas.List.Folds.{list_any-append}
use Rattle.svc_values.specs.declared.entry.Ltxid.{Ltxid}
use Rattle.svc_values.specs.declared.frame.Up.{Up}
use Rattle.svc_values.specs.SameLaws.{same_ltxid_decides}
use Rattle.outage_schedule.specs.declared.item.Served.{Served}
use Rattle.outage_schedule.specs.declared.request.Outcome.{Outcome}
use Rattle.pool_core.specs.meaning.Slots.{give_back_answer}
use Rattle.run_clauses.specs.meaning.Reports.{failure_of}
use Rattle.client_model.specs.declared.act.Act.{Act}
use Rattle.client_model.specs.declared.act.Failed.{Failed}
use Rattle.client_model.specs.declared.act.Hold.{Hold}
use Rattle.client_model.specs.declared.act.Hold.TheVariants as hold
use Rattle.client_model.specs.declared.input.Input.{Input}
use Rattle.client_model.specs.declared.input.Input.TheVariants.{Start, Waiting, Lent, Opened, TryFailed, Took, Gone}
use Rattle.client_model.specs.meaning.Talk.{Step, loses, talk_step}
use Rattle.client_model.specs.meaning.Terms.{Phase, Greeting, Asked, Running, Replaying}
use Rattle.world_model.specs.meaning.Acting.{frames_of, sent_by, call_in, owner_at}
use Rattle.world_model.specs.meaning.Clients.{Doing}
use Rattle.world_model.specs.records.Conversing.{connected}
use Rattle.world_model.specs.meaning.Frames.{Owner, Sent, Reply}
use Rattle.world_model.specs.records.Hold.{goes_by, is_awaited}
use Rattle.world_model.specs.Orderly.{Orderly}
use Rattle.world_model.specs.meaning.Links.{Link, link_at, sends, takes}
use Rattle.invariant_laws.specs.Lost.{lost_links, is_gone, submitted_on, ends_unknown, is_wanted, want_next}
use Rattle.world_model.specs.meaning.Machines.{Machine}
use Rattle.world_model.specs.meaning.Matching.{Noted}
use Rattle.world_model.specs.Parts.{is_unmarked}
use Rattle.world_model.specs.Sames.{owned_by}
use Rattle.invariant_laws.specs.Shown.{answers_stand}
use Rattle.world_model.specs.Traced.{Traced, Course, courses_of}
use Rattle.world_model.specs.Wanted.{Wanted, wanted_in}
use Rattle.world_model.proofs.Offered.{append_all, weaker_all, dead_sends_none, HasStepped, GoesOn, AtOnce, LostToo, HeardOn, OfNone, OfIdle, OfNew, OfReply, OfEnded, Behind, AsFirst, LostBehind, is_frame, at_event, Happens, first_step, first_doing}
use Rattle.invariant_laws.proofs.losses.AskedAnswers.{never_ahead}
use Rattle.invariant_laws.proofs.losses.KeptEvents.{kept_unfailed}
use Rattle.invariant_laws.proofs.losses.KeptFailed.{kept_hold}
use Rattle.invariant_laws.proofs.rows.KeptRows.{before_on}
use Rattle.invariant_laws.proofs.losses.KeptWanted.{WantsNow, AsItWas, NoLonger, NowLost, wants_now}
use Rattle.invariant_laws.proofs.losses.LostKept.{all_still, course_before, course_kept, course_ended, KeepsLost}
use Rattle.invariant_laws.proofs.losses.LostLists.{LostMore, NoneLost, OneLost}
use Rattle.invariant_laws.proofs.losses.LostSteps.{wanted as wanted_now, connection_is, kept_lost, over_lost, over_failed, over_lets, IsLeft}
use Rattle.invariant_laws.proofs.losses.OutcomesTold.{told_more, fits_input, input_fits, outcomes_are}
use Rattle.invariant_laws.proofs.rows.RowCourses.{OnIt, ask_opens, connect_opens}
use Rattle.invariant_laws.proofs.rows.RowLast.{is_opening, opening_none}
use Rattle.invariant_laws.proofs.talks.TalkPending.{Becomes, StillWanted, WasTold, NotKnown, becomes, wants_on, is_live, live_wants_none, live_goes, taken_live, lost_wants}
use Rattle.invariant_laws.proofs.losses.AccountedLinks.{is_accounted, accounted_on, is_told_of, Later, TakenNow, WantsYet, accounted_none, accounted_wanted, accounted_alike, accounted_later, none_submitted}

-- a connection is left by its loss alone
stays_had : (had : Option ℕ) (number : ℕ) (input : Input) → had ≡ Some number → is_frame input ≡ false → connected had input ≡ None → ⊥
stays_had had number Start has plain none = let never : Some number ≡ None = sym has ∙ none in let nothing : ⊥ = cc in nothing
stays_had had number Waiting has plain none = let never : Some number ≡ None = sym has ∙ none in let nothing : ⊥ = cc in nothing
stays_had had number (Lent connection x) has plain none = let nothing : ⊥ = cc in nothing
stays_had had number (Opened connection) has plain none = let nothing : ⊥ = cc in nothing
stays_had had number TryFailed has plain none = let never : Some number ≡ None = sym has ∙ none in let nothing : ⊥ = cc in nothing
stays_had had number (Took frame alive) has plain none = let nothing : ⊥ = cc in nothing
stays_had had number (Gone event) has plain none = let nothing : ⊥ = cc in nothing

-- EVENTS ------------------------------------------------------------------------------------------

module _ (t : Traced) (inv : Orderly t) (answers : answers_stand t ≡ true) (next : want_next t ≡ true) (new : Traced) (setting : new.setting ≡ t.setting) (items left : List Served) (kind : Noted) (happens : Happens t.setting (at_event t.machine) items left kind new.machine) where
  abbrev now : Machine
  now = at_event t.machine

  module _ (who : ℕ) (step : HasStepped t.setting now who new.machine) where
    abbrev phase : Phase
    phase = step.before.talk.phase

    abbrev mine : Owner
    mine = record { client = who; place = length step.client.past }

    abbrev step_on : Input → Step
    step_on input = talk_step t.setting.terms step.before.talk input now.tick

    abbrev first : Doing
    first = first_doing t.setting now inv.script.talks who new.machine step

    abbrev act : Act
    act = (first_step t.setting now inv.script.talks who new.machine step).done.act

    abbrev before : Course
    before = course_before t inv new setting items left kind happens who step

    abbrev kept : Course
    kept = course_kept t inv new setting items left kind happens who step

    abbrev ended : Course
    ended = course_ended t inv new setting items left kind happens who step

    becomes_now : (wanted : Wanted) → wanted_in phase ≡ Some wanted → Becomes phase step.input wanted (step_on step.input)
    becomes_now wanted is =
        becomes t.setting.terms step.before.talk step.input now.tick wanted (wanted_now t inv who new.machine step) (input_fits t inv who new.machine step) (never_ahead t inv answers who new.machine step) is

    told_so : (after : Course) → after.report.outcomes ≡ before.report.outcomes ++ told_more step.input phase → (wanted : Wanted) (outcome : Outcome) → told_more step.input phase ≡ outcome ∷ [] → outcome.ltxid ≡ wanted.ltxid
        → list_any (is_told_of wanted.ltxid) after.report.outcomes ≡ true
    told_so after is wanted outcome told same =
        ap (list_any (is_told_of wanted.ltxid)) (is ∙ ap (λ (more : List Outcome). before.report.outcomes ++ more) told)
        ∙ (list_any-append (is_told_of wanted.ltxid) before.report.outcomes (outcome ∷ [])
        ∙ or_right (list_any (is_told_of wanted.ltxid) before.report.outcomes) (is_told_of wanted.ltxid outcome || false)
        (or_left (is_told_of wanted.ltxid outcome) false ((same_ltxid_decides outcome.ltxid wanted.ltxid).1 same)))

    -- where it goes on
    later_kept : step.held ≡ hold.Keep → (wanted : Wanted) → wanted_in phase ≡ Some wanted → Later kept wanted
    later_kept keep wanted is = by (becomes_now wanted is)
      where
        goes : (after : Doing) (held : Hold) → GoesOn t.setting first act.hold after held → wanted_in first.talk.phase ≡ Some wanted → wanted_in after.talk.phase ≡ Some wanted
        goes _ _ AtOnce still = still
        goes _ _ (LostToo event tick gone held) still = wants_on first.talk.phase gone wanted still

        by : Becomes phase step.input wanted (step_on step.input) → Later kept wanted
        by (StillWanted still held) =
            WantsYet (λ link here. ap (λ (found : Option Wanted). option_map_or (is_wanted link) found false) (goes step.after step.held step.goes_on still) ∙ here)
        by (WasTold outcome told same) = TakenNow (told_so kept (outcomes_are t inv who new.machine step) wanted outcome told same)
        by (NotKnown ends) =
            let none : (step_on step.input).1.failed ≡ None = kept_unfailed t.setting.terms step.before.talk step.input now.tick (kept_hold t.setting first act.hold step.after step.held step.goes_on keep) in
            absurd (let never : false ≡ true = sym (ap (λ (failure : Option Failed). ends_unknown (option_and_then failure_of failure)) none) ∙ ends in let nothing : ⊥ = cc in nothing)

    -- where it is over
    later_ended : (step.held ≡ hold.Keep → ⊥) → (wanted : Wanted) → wanted_in phase ≡ Some wanted → Later ended wanted
    later_ended lets wanted is = by (becomes_now wanted is)
      where
        by : Becomes phase step.input wanted (step_on step.input) → Later ended wanted
        by (StillWanted still held) = absurd (over_lets t inv who new.machine step lets held)
        by (WasTold outcome told same) = TakenNow (told_so ended (outcomes_are t inv who new.machine step) wanted outcome told same)
        by (NotKnown ends) = WantsYet (λ link here. ap (λ (failure : Option Failed). ends_unknown (option_and_then failure_of failure)) (over_failed t inv who new.machine step lets) ∙ ends)

    -- THE CONNECTION THAT IT LOSES
    -- ------------------------------------------------------------------

    abbrev spoken_as : List Up → List Sent
    spoken_as frames = map (sent_by (owner_at now who) (call_in first.talk.phase)) frames

    abbrev spoken : List Sent
    spoken = spoken_as (frames_of step.pool (unwrap_or step.connection 0) act)

    -- nothing more was sent on it, and the phase is that of its loss
    record IsLost (number : ℕ) (link : Link) : Type 0 where
      pub behind : Link
      pub there : link_at new.machine.links number ≡ Some behind
      pub sent : behind.sent ≡ link.sent
      pub from : Phase
      pub event : ℕ
      pub is : step.after.talk.phase ≡ loses from event
      pub goes : is_live phase ≡ true → (x : Ltxid) × (goes_by from ≡ Some x)

    taken_lost : (number : ℕ) (link : Link) (reply : Reply) (later : List Reply) → step.before.connection ≡ Some number → step.after.connection ≡ None → step.held ≡ hold.Keep → step.input ≡ Took reply.frame link.is_open
        → link_at new.machine.links number ≡ Some (sends now.event spoken (takes (Took reply.frame link.is_open) reply later link)) → (after : Doing) → step.after ≡ after → Behind t.setting first act.hold link.is_open link.ended after → IsLost number link
    taken_lost number link reply later has none keep is at _ equal (AsFirst not_lost) =
        absurd (let stays : None ≡ Some number = sym none ∙ (connection_is t inv who new.machine step equal ∙ (ap (connected step.before.connection) is ∙ has)) in let never : ⊥ = cc in never)
    taken_lost number link reply later has none keep is at _ equal (LostBehind event tick shut held) = record {
      behind = sends now.event spoken (takes (Took reply.frame link.is_open) reply later link);
      there = at;
      sent = ap (λ (frames : List Sent). (sends now.event frames (takes (Took reply.frame link.is_open) reply later link)).sent) silent ∙ append-nil link.sent;
      from = first.talk.phase;
      event = unwrap_or link.ended 0;
      is = ap (λ (doing : Doing). doing.talk.phase) equal;
      goes = λ live.
          let found = taken_live t.setting.terms step.before.talk phase reply.frame link.is_open now.tick refl live (subst (λ (input : Input). fits_input phase input ≡ true) is (input_fits t inv who new.machine step))
          (ap (λ (input : Input). (step_on input).1.hold) (sym is) ∙ held) in
          (found.0, ap (λ (input : Input). goes_by (step_on input).0.phase) is ∙ found.1);
    }
      where
        silent : spoken ≡ []
        silent =
            ap (λ (input : Input). spoken_as (frames_of step.pool (unwrap_or step.connection 0) (step_on input).1)) (is ∙ ap (λ (opens : Bool). Took reply.frame opens) shut)
            ∙ ap spoken_as (dead_sends_none t.setting.terms step.before.talk reply.frame now.tick (give_back_answer step.pool (unwrap_or step.connection 0)))

    lost_now : (number : ℕ) (link : Link) → step.before.connection ≡ Some number → link_at t.machine.links number ≡ Some link → step.after.connection ≡ None → step.held ≡ hold.Keep → IsLost number link
    lost_now number link has there none keep = by spoken step.before.connection step.input step.after refl refl refl refl step.heard_on
      where
        same_number : (had : Option ℕ) (connection : ℕ) → step.before.connection ≡ had → had ≡ Some connection → connection ≡ number
        same_number had connection is some = let found : Some connection ≡ Some number = sym some ∙ (sym is ∙ has) in let same : connection ≡ number = cc in same

        same_link : (connection : ℕ) (other : Link) → connection ≡ number → link_at t.machine.links connection ≡ Some other → other ≡ link
        same_link connection other same at = let found : Some other ≡ Some link = sym at ∙ (ap (link_at t.machine.links) same ∙ there) in let equal : other ≡ link = cc in equal

        left_none : (had : Option ℕ) (input : Input) (later : Doing) → step.before.connection ≡ had → step.input ≡ input → step.after ≡ first → connected had input ≡ None
        left_none had input later has_is is equal = ap (λ (one : Option ℕ). connected one input) (sym has_is) ∙ (ap (connected step.before.connection) (sym is) ∙ (sym (connection_is t inv who new.machine step equal) ∙ none))

        by : (said : List Sent) (had : Option ℕ) (input : Input) (later : Doing) → spoken ≡ said → step.before.connection ≡ had → step.input ≡ input → step.after ≡ later → HeardOn t.setting now new.machine who first act.hold said later had input
            → IsLost number link
        by said _ _ later spoke had_is is equal (OfNone had input brings plain same) = absurd (stays_had had number input (sym had_is ∙ has) plain (left_none had input later had_is is (equal ∙ same)))
        by said _ _ later spoke had_is is equal (OfIdle had connection x answer same) = absurd (let gone = left_none had (Lent connection x) later had_is is (equal ∙ same) in let never : ⊥ = cc in never)
        by said _ _ later spoke had_is is equal (OfNew had same) = absurd (let gone = left_none had (Opened _) later had_is is (equal ∙ same) in let never : ⊥ = cc in never)
        by said _ _ later spoke had_is is equal (OfReply had connection other reply rest some at down after_it back) =
            let same : connection ≡ number = same_number had connection had_is some in
            let equals : other ≡ link = same_link connection other same at in
            subst (IsLost number) equals
            (taken_lost number other reply rest has none keep is
            (ap (link_at new.machine.links) (sym same) ∙ (after_it ∙ ap (λ (frames : List Sent). Some (sends now.event frames (takes (Took reply.frame other.is_open) reply rest other))) (sym spoke))) later equal back)
        by said _ _ later spoke had_is is equal (OfEnded had connection other some at shut after_it same) =
            let same_one : connection ≡ number = same_number had connection had_is some in
            let equals : other ≡ link = same_link connection other same_one at in
            subst (IsLost number) equals (record {
              behind = other;
              there = ap (link_at new.machine.links) (sym same_one) ∙ after_it;
              sent = refl;
              from = phase;
              event = unwrap_or other.ended 0;
              is = ap (λ (doing : Doing). doing.talk.phase) (equal ∙ same) ∙ ap (λ (i : Input). (step_on i).0.phase) is;
              goes = λ live. live_goes phase live;
            })

    -- what was out on the connection that it had
    on_had : (number : ℕ) → step.before.connection ≡ Some number → OnIt t.machine.links mine step.before.connection step.before.talk.phase
    on_had number has = before_on t now who new.machine step step.here inv.hold.held inv.wire.grammar number has

    lost_had : (number : ℕ) (has : step.before.connection ≡ Some number) → step.after.connection ≡ None → step.held ≡ hold.Keep → IsLost number (on_had number has).link
    lost_had number has none keep = lost_now number on.link has there none keep
      where
        on : OnIt t.machine.links mine step.before.connection step.before.talk.phase
        on = on_had number has

        there : link_at t.machine.links number ≡ Some on.link
        there = let found : Some on.number ≡ Some number = sym on.has ∙ has in let same : on.number ≡ number = cc in ap (link_at t.machine.links) (sym same) ∙ on.there

    -- it sent no call there, or was on a session
    pub none_or_live : (number : ℕ) → step.before.connection ≡ Some number → step.after.connection ≡ None → step.held ≡ hold.Keep
        → (option_map_or (λ link. not (submitted_on kept link)) (link_at new.machine.links number) false ≡ true) ⊎ (is_live phase ≡ true)
    none_or_live number has none keep = by phase refl on.awaited
      where
        on : OnIt t.machine.links mine step.before.connection step.before.talk.phase
        on = on_had number has

        lost : IsLost number on.link
        lost = lost_had number has none keep

        opened : is_opening on.last.frame ≡ true → option_map_or (λ link. not (submitted_on kept link)) (link_at new.machine.links number) false ≡ true
        opened opens =
            ap (λ (found : Option Link). option_map_or (λ link. not (submitted_on kept link)) found false) lost.there
            ∙ (ap (λ (sents : List Sent). not (list_any (λ sent. owned_by mine sent && is_unmarked sent) sents)) lost.sent ∙ ap not (none_submitted mine on.link.sent (opening_none mine on.link on.last on.is opens on.right)))

        by : (p : Phase) → phase ≡ p → is_awaited p on.last ≡ true → (option_map_or (λ link. not (submitted_on kept link)) (link_at new.machine.links number) false ≡ true) ⊎ (is_live phase ≡ true)
        by (Greeting asked) is awaited = inl (opened (connect_opens on.last.frame awaited))
        by (Asked asking) is awaited = inl (opened (ask_opens asking.ltxid on.last.frame awaited))
        by (Running state) is awaited = inr (ap is_live is)
        by (Replaying state) is awaited = inr (ap is_live is)
        by p is awaited = absurd (let nothing : ⊥ = cc in nothing)

    new_accounted : (number : ℕ) → step.before.connection ≡ Some number → step.after.connection ≡ None → step.held ≡ hold.Keep → option_map_or (is_accounted kept) (link_at new.machine.links number) false ≡ true
    new_accounted number has none keep = by (none_or_live number has none keep)
      where
        lost : IsLost number (on_had number has).link
        lost = lost_had number has none keep

        lived : is_live phase ≡ true → is_accounted kept lost.behind ≡ true
        lived live = cases (wants_now t inv next new setting items left kind happens who step)
          where
            wants : (wanted : Wanted) × (wanted_in step.after.talk.phase ≡ Some wanted)
            wants = let goes = lost.goes live in let found = lost_wants lost.from lost.event goes.0 goes.1 in (found.0, ap wanted_in lost.is ∙ found.1)

            cases : WantsNow t inv next new setting items left kind happens who step → is_accounted kept lost.behind ≡ true
            cases (AsItWas same shown) = absurd (let never : Some wants.0 ≡ None = sym wants.1 ∙ (same ∙ live_wants_none phase live) in let nothing : ⊥ = cc in nothing)
            cases (NoLonger none_now) = absurd (let never : Some wants.0 ≡ None = sym wants.1 ∙ none_now in let nothing : ⊥ = cc in nothing)
            cases (NowLost other link wanted had brings left_none at here is) =
                let found : Some other ≡ Some number = sym had ∙ has in
                let same : other ≡ number = cc in
                let both : Some link ≡ Some lost.behind = sym at ∙ (ap (link_at new.machine.links) same ∙ lost.there) in
                let equal : link ≡ lost.behind = cc in
                accounted_wanted kept lost.behind
                (ap (λ (one : Option Wanted). option_map_or (is_wanted lost.behind) one false) is
                ∙ subst (λ (one : Link). is_wanted one wanted ≡ true) equal (and_parts (is_wanted link wanted) _ here).0)

        at : (found : Option Link) → option_map_or (λ link. not (submitted_on kept link)) found false ≡ true → option_map_or (is_accounted kept) found false ≡ true
        at None quiet = quiet
        at (Some link) quiet = accounted_none kept link quiet

        by : (option_map_or (λ link. not (submitted_on kept link)) (link_at new.machine.links number) false ≡ true) ⊎ (is_live phase ≡ true) → option_map_or (is_accounted kept) (link_at new.machine.links number) false ≡ true
        by (inl quiet) = at (link_at new.machine.links number) quiet
        by (inr live) = ap (λ (found : Option Link). option_map_or (is_accounted kept) found false) lost.there ∙ lived live

    -- ALL THAT IT LOST
    -- ------------------------------------------------------------------------------

    -- those that were lost before the step
    still_accounted : (after : Course) → after.owner ≡ before.owner → after.report.outcomes ≡ before.report.outcomes ++ told_more step.input phase → ((wanted : Wanted) → wanted_in phase ≡ Some wanted → Later after wanted)
        → list_all (is_gone t.machine.links (courses_of t)) (lost_links before) ≡ true → accounted_on t.machine.links before ≡ true
        → list_all (λ number. option_map_or (is_accounted after) (link_at new.machine.links number) false) (lost_links before) ≡ true
    still_accounted after owner outcomes later gone all =
        weaker_all (λ number. option_map_or (is_accounted before) (link_at new.machine.links number) false) (λ number. option_map_or (is_accounted after) (link_at new.machine.links number) false) (lost_links before)
        (λ number here. by (link_at new.machine.links number) here)
        (all_still t inv new setting items left kind happens (is_accounted before) (accounted_alike before) (lost_links before) gone all)
      where
        by : (found : Option Link) → option_map_or (is_accounted before) found false ≡ true → option_map_or (is_accounted after) found false ≡ true
        by None here = here
        by (Some link) here = accounted_later before after (told_more step.input phase) owner outcomes refl later link here

    goes_accounted : step.held ≡ hold.Keep → (later : List ℕ) → LostMore (IsLeft t inv who new.machine step) step.before.connection (lost_links before) later
        → list_all (λ number. option_map_or (is_accounted kept) (link_at new.machine.links number) false) (lost_links before) ≡ true → list_all (λ number. option_map_or (is_accounted kept) (link_at new.machine.links number) false) later ≡ true
    goes_accounted keep _ NoneLost all = all
    goes_accounted keep _ (OneLost number has lost) all =
        append_all (λ n. option_map_or (is_accounted kept) (link_at new.machine.links n) false) (lost_links before) (number ∷ []) all
        (and_from (option_map_or (is_accounted kept) (link_at new.machine.links number) false) true (new_accounted number has lost.none keep) refl)

    ends_accounted : (later : List ℕ) → LostMore (λ (connection : ℕ). ⊥) step.before.connection (lost_links before) later
        → list_all (λ number. option_map_or (is_accounted ended) (link_at new.machine.links number) false) (lost_links before) ≡ true → list_all (λ number. option_map_or (is_accounted ended) (link_at new.machine.links number) false) later ≡ true
    ends_accounted _ NoneLost all = all
    ends_accounted _ (OneLost number has lost) all = absurd lost

  pub keeps_accounted : KeepsLost t inv new setting items left kind happens accounted_on
  keeps_accounted = record {
    others = λ course gone here. all_still t inv new setting items left kind happens (is_accounted course) (accounted_alike course) (lost_links course) gone here;
    begins = λ who place request. refl;
    goes = λ who step keep gone here.
        goes_accounted who step keep (lost_links (course_kept t inv new setting items left kind happens who step)) (kept_lost t inv who new.machine step)
        (still_accounted who step (course_kept t inv new setting items left kind happens who step) refl (outcomes_are t inv who new.machine step) (later_kept who step keep) gone here);
    ends = λ who step over gone here.
        ends_accounted who step (lost_links (course_ended t inv new setting items left kind happens who step)) (over_lost t inv who new.machine step over)
        (still_accounted who step (course_ended t inv new setting items left kind happens who step) refl (outcomes_are t inv who new.machine step) (later_ended who step over) gone here);
  }
