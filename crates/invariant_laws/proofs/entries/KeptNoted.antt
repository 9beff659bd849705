-- Of Once: what a client notes of its sendings is what they are, at the start and behind each
-- event.
use Rattle.std.proofs.Common.{◌≡◌, refl, sym, ap, subst, ◌∙◌, Bool, true, false, ℕ, ◌+◌, ◌&&◌, cond, length, fold, map, List, [], ◌∷◌, ◌++◌, Option, Some, None, length-append, arith}
use Rattle.std.specs.Prelude.{◌==◌, slice_get, is_some}
use Rattle.std.specs.Cmp.Lexicographic.{pointwise}
use Rattle.std.specs.List.{list_all, list_any}
use Rattle.std.specs.Option.{option_map_or, option_or}
use Rattle.std.proofs.lemmas.Bool.{and_parts, and_from}
use Rattle.std.proofs.lemmas.List.{map-append}
use Rattle.std.proofs.lemmas.List.Sums.{fold-append}
use Rattle.svc_values.specs.declared.call.Call.{Call}
use Rattle.svc_values.specs.declared.entry.Ltxid.{Ltxid}
use Rattle.svc_values.specs.declared.frame.Up.{Up}
use Rattle.svc_values.specs.declared.frame.Up.TheVariants as up
use Rattle.svc_values.specs.declared.value.Value.{Value}
use Rattle.outage_schedule.specs.declared.request.ShownCall.{ShownCall}
use Rattle.pool_core.specs.meaning.Slots.{give_back_answer}
use Rattle.client_model.specs.declared.act.Hold.{Hold}
use Rattle.client_model.specs.declared.act.Hold.TheVariants as hold
use Rattle.client_model.specs.declared.act.Shown.{Shown}
use Rattle.client_model.specs.declared.input.Input.{Input}
use Rattle.client_model.specs.meaning.Account.{Account, account_of, unheard, after_step}
use Rattle.client_model.specs.meaning.Conversation.{Done}
use Rattle.client_model.specs.meaning.States.{Living}
use Rattle.client_model.specs.meaning.Talk.{talk_step, takes}
use Rattle.client_model.specs.meaning.Terms.{Terms, Phase, Idle, Unbegun, Queued, Seeking, Greeting, Asked, Running, Replaying}
use Rattle.client_model.specs.meaning.Tried.{Sending as Noted, Trying, trying_of, tries_on, replied, over_after, sent_under, told_ltxid}
use Rattle.client_model.specs.Tried.{sent_in}
use Rattle.client_model.proofs.Offered.{Fits, tries_under_held}
use Rattle.run_clauses.specs.meaning.Reports.{shown_call}
use Rattle.world_model.specs.meaning.Acting.{closing}
use Rattle.world_model.specs.meaning.Clients.{Client, Step, Doing, client_at, after_hold}
use Rattle.world_model.specs.records.Conversing.{inputs_of, Talks}
use Rattle.world_model.specs.meaning.Frames.{Owner}
use Rattle.world_model.specs.records.Hold.{goes_by, same_held, is_by_held, are_by_held}
use Rattle.world_model.specs.Orderly.{Orderly}
use Rattle.invariant_laws.specs.KeptLaws.{StaysTrue}
use Rattle.world_model.specs.meaning.Machines.{Machine}
use Rattle.invariant_laws.specs.Once.{agree_on, is_noted, note_sendings, notes_sendings, transaction_at}
use Rattle.world_model.specs.Parts.{Scan, sent_on, is_unmarked_frame}
use Rattle.world_model.specs.meaning.Settings.{Setting, setting_of}
use Rattle.world_model.specs.Traced.{Traced, course_now, courses_of_clients}
use Rattle.world_model.specs.Words.{dones_of}
use Rattle.world_model.proofs.Offered.{client_set, dead_sends_none, HasStepped, GoesOn, AtOnce, LostToo, HeardOn, OfNone, OfIdle, OfNew, OfReply, OfEnded, AsFirst, LostBehind, all_step, by_its, Followed, follow_happens, at_event, doing_course, by_held_law, resting_none, opening, scan_by, heard_scan, after_sendings, account_now, first_step, first_doing, before_talks, first_talks_on, first_fits, is_running, frame_fits, send_fits, eq_from, eq_to}
use Rattle.invariant_laws.proofs.sendings.FateSteps.{Says, Silent, CallsOne, says_at, silent_fold, called_fold, has_call}
use Rattle.invariant_laws.proofs.losses.LostSteps.{before_so}
use Rattle.invariant_laws.proofs.entries.NotedSteps.{Agrees, noted_to, replied_agrees, further_agrees, over_more, silent_noted, note, called_noted, called_sent, noted_as, replied_same, sent_more, head_held}
use Rattle.invariant_laws.proofs.talks.Placing.{Moving, Quietly, Stepping, moving, said as spoken_frames}
use Rattle.invariant_laws.proofs.rows.RowSteps.{ShownStep, NoneMore, OneMore, shown_step, shown_more, shown_after, before_fits}
use Rattle.invariant_laws.proofs.sendings.SendingsMade.{made, Speaks, speaks, held_same}
use Rattle.invariant_laws.proofs.sendings.SendingsTaken.{taken_among, scan_among}
use Rattle.invariant_laws.proofs.talks.TalkShows.{ShowsBy, ByReply, ByOutcome, IsTaken, taken_shows, shows_taken}

-- WHAT IS SENT ------------------------------------------------------------------------------------

fits_runs : (phase : Phase) (begun : Bool) (settings : List (List ℕ × Value)) (call : Call) → list_all (frame_fits phase) (opening begun settings ++ up.Call false [] call ∷ []) ≡ true → is_running phase ≡ true
fits_runs phase true settings call all = (and_parts (0 == 0) (is_running phase) (and_parts (frame_fits phase (up.Call false [] call)) true all).0).1
fits_runs phase false settings call all = (and_parts (0 == 0) (is_running phase) (and_parts (frame_fits phase (up.Call false [] call)) true all).0).1

running_state : (phase : Phase) → is_running phase ≡ true → (state : Living) × (phase ≡ Running state)
running_state (Running state) runs = (state, refl)
running_state Idle runs = absurd (let none : ⊥ = cc in none)
running_state Unbegun runs = absurd (let none : ⊥ = cc in none)
running_state (Queued from) runs = absurd (let none : ⊥ = cc in none)
running_state (Seeking lost) runs = absurd (let none : ⊥ = cc in none)
running_state (Greeting lost) runs = absurd (let none : ⊥ = cc in none)
running_state (Asked asking) runs = absurd (let none : ⊥ = cc in none)
running_state (Replaying state) runs = absurd (let none : ⊥ = cc in none)

none_front : (xs ys : List Up) → xs ++ ys ≡ [] → list_any is_unmarked_frame xs ≡ true → ⊥
none_front [] ys none any = let never : ⊥ = cc in never
none_front (x ∷ xs) ys none any = let never : ⊥ = cc in never

goes_kept : {first after : Doing} {held kept : Hold} (setting : Setting) → GoesOn setting first held after kept → held ≡ hold.Keep → kept ≡ hold.Keep
goes_kept setting AtOnce is = is
goes_kept setting (LostToo event tick ended keeps) is = refl

-- what is known of the calls that were shown behind a step
pub data ShownAs (before : List ShownCall) (shown : Option Shown) : List ShownCall → Type 0 where
  NoneShown : shown ≡ None → ShownAs before shown before
  OneShown : (one : Shown) → shown ≡ Some one → ShownAs before shown (before ++ shown_call one ∷ [])

module _ (t : Traced) (inv : Orderly t) (new : Traced) (by_held : are_by_held new ≡ true) (who : ℕ) (step : HasStepped t.setting (at_event t.machine) who new.machine) where
  abbrev m : Machine
  m = at_event t.machine

  abbrev terms : Terms
  terms = t.setting.terms

  abbrev mine : Owner
  mine = record { client = who; place = length step.client.past }

  abbrev one : Step
  one = first_step t.setting m inv.script.talks who new.machine step

  abbrev first : Doing
  first = first_doing t.setting m inv.script.talks who new.machine step

  abbrev calls_are : List Call
  calls_are = step.before.request.calls

  abbrev dones : List Done
  dones = dones_of step.before.steps

  abbrev account_before : Account
  account_before = account_now terms step.before

  abbrev shown_before : List ShownCall
  shown_before = map shown_call account_before.shown

  abbrev scan_before : Scan
  scan_before = scan_by mine step.before.steps

  abbrev scan_now : Scan
  scan_now = heard_scan t.setting m inv.script.talks who new.machine step

  abbrev trying_before : Trying
  trying_before = trying_of dones

  abbrev held_now : Option Ltxid
  held_now = option_or (told_ltxid one.done.input one.done.act.shown) trying_before.held

  abbrev over_now : ℕ
  over_now = over_after trying_before.over one.done.act.shown

  abbrev noted_now : List Noted
  noted_now = replied one.done.input one.done.act.shown trying_before.sendings

  -- THE CALL THAT IS SHOWN ------------------------------------------------------------------------

  fits_at : (p : Phase) → step.before.talk.phase ≡ p → Fits terms calls_are account_before (before_fits t.setting m inv.script.talks who new.machine step).gone p
  fits_at p is =
      subst (λ (q : Phase). Fits terms calls_are account_before (before_fits t.setting m inv.script.talks who new.machine step).gone q) is
      (before_fits t.setting m inv.script.talks who new.machine step).fits

  shown_left : (shown : Shown) → one.done.act.shown ≡ Some shown → (call : Call) × (slice_get calls_are (length account_before.shown) ≡ Some call)
  shown_left shown is = by (taken_shows terms step.before.talk step.before.talk.phase taken.frame taken.alive m.tick shown (sym (ap (λ (input : Input). (talk_step terms step.before.talk input m.tick).1.shown) taken.is) ∙ is))
    where
      taken : IsTaken step.input
      taken = shows_taken terms step.before.talk m.tick shown step.input is

      by : ShowsBy step.before.talk.phase taken.frame shown → (call : Call) × (slice_get calls_are (length account_before.shown) ≡ Some call)
      by (ByReply state runs same) = let fits = fits_at (Running state) runs in (fits.0.left.one, ap (slice_get calls_are) (sym fits.0.tracked.call) ∙ fits.0.left.is)
      by (ByOutcome asking asked same committed) = let fits = fits_at (Asked asking) asked in (fits.0.left.one, ap (slice_get calls_are) (sym fits.0.tracked.call) ∙ fits.0.left.is)

  pub shown_as : ShownAs shown_before one.done.act.shown (map shown_call (account_now terms first).shown)
  shown_as = by one.done.act.shown refl (shown_step t.setting m inv.script.talks who new.machine step)
    where
      by : (shown : Option Shown) → one.done.act.shown ≡ shown → ShownStep account_before.shown (account_now terms first).shown shown → ShownAs shown_before shown (map shown_call (account_now terms first).shown)
      by None is (NoneMore same) = subst (λ (list : List Shown). ShownAs shown_before None (map shown_call list)) (sym same) (NoneShown refl)
      by None is (OneMore shown never more) = absurd (let none : ⊥ = cc in none)
      by (Some shown) is some =
          let at = shown_left shown is in
          subst (ShownAs shown_before (Some shown)) (sym (ap (map shown_call) (shown_more t.setting m inv.script.talks who new.machine step shown at.0 is at.1) ∙ map-append shown_call account_before.shown (shown ∷ []))) (OneShown shown refl)

  -- THE CALL THAT IS SENT -------------------------------------------------------------------------

  module _ (begun : Bool) (settings : List (List ℕ × Value)) (call : Call) (sends_it : one.done.act.send ≡ opening begun settings ++ up.Call false [] call ∷ []) (keeps : one.done.act.hold ≡ hold.Keep) where
    calls : list_any is_unmarked_frame one.done.act.send ≡ true
    calls = ap (list_any is_unmarked_frame) sends_it ∙ has_call begun settings call

    pub runs : (state : Living) × (first.talk.phase ≡ Running state)
    runs = running_state first.talk.phase (fits_runs first.talk.phase begun settings call (subst (λ (send : List Up). list_all (frame_fits first.talk.phase) send ≡ true) sends_it (send_fits terms step.before.talk step.input m.tick)))

    -- no loss is heard behind it
    pub after_is : step.after ≡ first
    after_is = by step.input step.after refl step.heard_on
      where
        by : {kept : Hold} {had : Option ℕ} (input : Input) (after : Doing) → step.input ≡ input → HeardOn t.setting m new.machine who first kept (spoken_frames t.setting m who new.machine step) after had input → after ≡ first
        by _ after is (OfNone had input none plain same) = same
        by _ after is (OfIdle had connection x answer same) = same
        by _ after is (OfNew had same) = same
        by _ after is (OfReply had connection link reply left some there down_is next (AsFirst opens)) = refl
        by _ after is (OfReply had connection link reply left some there down_is next (LostBehind event tick shut kept)) =
            absurd (none_front (takes terms step.before.talk step.before.talk.phase reply.frame false m.tick).1.send (closing (takes terms step.before.talk step.before.talk.phase reply.frame false m.tick).1.hold (give_back_answer step.pool connection)) (dead_sends_none terms step.before.talk reply.frame m.tick (give_back_answer step.pool connection))
            (subst (λ (opens : Bool). list_any is_unmarked_frame (takes terms step.before.talk step.before.talk.phase reply.frame opens m.tick).1.send ≡ true) shut
            (subst (λ (i : Input). list_any is_unmarked_frame (talk_step terms step.before.talk i m.tick).1.send ≡ true) is calls)))
        by _ after is (OfEnded had connection link some there shut next same) = same

    abbrev pub stepped : Client
    stepped = after_hold t.setting who step.client step.after hold.Keep

    pub there : client_at new.machine.clients who ≡ Some stepped
    there =
        ap (λ (all : List Client). client_at all who) step.clients_are
        ∙ (client_set m.clients who step.client (after_hold t.setting who step.client step.after step.held) step.here ∙ ap (λ (h : Hold). Some (after_hold t.setting who step.client step.after h)) (goes_kept t.setting step.goes_on keeps))

    spoke : Speaks t inv who new.machine step
    spoke = speaks t inv who new.machine step calls

    -- it goes by what is held on the connection
    held_by : scan_now.held ≡ Some runs.0.ltxid
    held_by =
        let on : same_held (goes_by step.after.talk.phase) spoke.next.held ≡ true =
        by_its new.machine.links step.after spoke.connection spoke.next (ap (λ (d : Doing). d.connection) after_is ∙ spoke.has) spoke.there (doing_course (is_by_held new) new who stepped step.after by_held there refl) in
        let phase : goes_by step.after.talk.phase ≡ Some runs.0.ltxid = ap goes_by (ap (λ (d : Doing). d.talk.phase) after_is ∙ runs.1) in
        sym spoke.held ∙ sym (held_same (Some runs.0.ltxid) spoke.next.held (subst (λ (by : Option Ltxid). same_held by spoke.next.held ≡ true) phase on))

    -- and so does what it notes
    account_held : (account_now terms first).held ≡ Some runs.0.ltxid
    account_held =
        let fits = first_fits t.setting m inv.script.talks who new.machine step in
        (subst (λ (p : Phase). Fits terms calls_are (account_now terms first) fits.gone p) runs.1 fits.fits).0.held

    dones_first : dones_of first.steps ≡ dones ++ one.done ∷ []
    dones_first = map-append (λ (s : Step). s.done) step.before.steps (one ∷ [])

    noted_so : (doing : Doing) (due : Bool) → Talks terms due doing → map noted_as (trying_of (dones_of doing.steps)).sendings ≡ sent_in terms doing.request.calls unheard [] (dones_of doing.steps)
    noted_so doing due talks =
        subst (λ (list : List Done). map noted_as (trying_of list).sendings ≡ sent_in terms doing.request.calls unheard [] list) (sym talks.converses.acts)
        (tries_under_held terms doing.request.settings doing.request.calls (inputs_of doing.steps) talks.converses.may)

    noted_before : map noted_as noted_now ≡ sent_in terms calls_are unheard [] dones
    noted_before = replied_same one.done.input one.done.act.shown trying_before.sendings ∙ noted_so step.before false (before_talks t.setting m inv.script.talks who new.machine step)

    noted_behind : map noted_as (option_map_or (λ x. note call over_now x ∷ noted_now) held_now noted_now) ≡ (call, (account_now terms first).held) ∷ sent_in terms calls_are unheard [] dones
    noted_behind =
        ap (map noted_as) (sym (called_noted held_now over_now begun settings call noted_now) ∙ ap (fold (sent_under held_now over_now) noted_now) (sym sends_it))
        ∙ (sym (ap (λ (trying : Trying). map noted_as trying.sendings) (ap trying_of dones_first ∙ fold-append tries_on (trying_of []) dones (one.done ∷ [])))
        ∙ (noted_so first _ (first_talks_on t.setting m inv.script.talks who new.machine step)
        ∙ (ap (sent_in terms calls_are unheard []) dones_first
        ∙ (sent_more terms calls_are unheard [] dones one.done
        ∙ (ap (fold _ (sent_in terms calls_are unheard [] dones)) sends_it
        ∙ (called_sent _ begun settings call (sent_in terms calls_are unheard [] dones)
        ∙ ap (λ (a : Account). (call, a.held) ∷ sent_in terms calls_are unheard [] dones)
        (sym (ap (λ (d : List Done). account_of terms calls_are d) dones_first ∙ fold-append (after_step terms calls_are) unheard dones (one.done ∷ [])))))))))

    pub noted_held : held_now ≡ scan_now.held
    noted_held = head_held call over_now held_now (account_now terms first).held noted_now (sent_in terms calls_are unheard [] dones) noted_before noted_behind ∙ (account_held ∙ sym held_by)

  -- BEHIND THE STEP -------------------------------------------------------------------------------

  record Behind_now (shown : List ShownCall) : Type 0 where
    count : scan_now.shown ≡ length shown
    over : over_now ≡ transaction_at shown (length shown)
    agrees : Agrees shown noted_now scan_now.sendings

  heard_so : scan_before.shown ≡ length shown_before → trying_before.over ≡ transaction_at shown_before (length shown_before) → Agrees shown_before trying_before.sendings scan_before.sendings → (shown : List ShownCall) → ShownAs shown_before one.done.act.shown shown → Behind_now shown
  heard_so count over agrees _ (NoneShown none) = record {
    count =
        let more : scan_before.shown + cond (is_some one.done.act.shown) 1 0 ≡ scan_before.shown + 0 = ap (λ (s : Option Shown). scan_before.shown + cond (is_some s) 1 0) none in
        let total : scan_before.shown + 0 ≡ length shown_before = omega (arith, count) in
        more ∙ total;
    over = ap (over_after trying_before.over) none ∙ over;
    agrees = replied_agrees shown_before one.done.input one.done.act.shown trying_before.sendings scan_before.sendings agrees;
  }
  heard_so count over agrees _ (OneShown shown is) = record {
    count =
        let more : scan_before.shown + cond (is_some one.done.act.shown) 1 0 ≡ scan_before.shown + 1 = ap (λ (s : Option Shown). scan_before.shown + cond (is_some s) 1 0) is in
        let long : length (shown_before ++ shown_call shown ∷ []) ≡ length shown_before + 1 = length-append shown_before (shown_call shown ∷ []) in
        let total : scan_before.shown + 1 ≡ length (shown_before ++ shown_call shown ∷ []) = omega (arith, count, long) in
        more ∙ total;
    over = ap (over_after trying_before.over) is ∙ over_more shown_before shown trying_before.over over;
    agrees = replied_agrees (shown_before ++ shown_call shown ∷ []) one.done.input one.done.act.shown trying_before.sendings scan_before.sendings
        (further_agrees shown_before (shown_call shown ∷ []) trying_before.sendings scan_before.sendings
        (subst (λ (n : ℕ). list_all (taken_among n) scan_before.sendings ≡ true) count (scan_among (scan_by mine []) step.before.steps refl)) agrees);
  }

  pushed_so : (shown : List ShownCall) → Behind_now shown → Agrees shown (fold (sent_under held_now over_now) noted_now one.done.act.send) (fold (sent_on scan_now) scan_now.sendings one.done.act.send)
  pushed_so shown now = by one.done.act.send one.done.act.hold refl refl (says_at terms step.before.talk step.input m.tick)
    where
      by : (send : List Up) (held : Hold) → one.done.act.send ≡ send → one.done.act.hold ≡ held → Says send held → Agrees shown (fold (sent_under held_now over_now) noted_now send) (fold (sent_on scan_now) scan_now.sendings send)
      by _ _ is holds (Silent send held none) =
          subst (λ (noted : List Noted). Agrees shown noted (fold (sent_on scan_now) scan_now.sendings send)) (sym (silent_noted held_now over_now send noted_now none))
          (subst (Agrees shown noted_now) (sym (silent_fold scan_now send scan_now.sendings none)) now.agrees)
      by _ _ is holds (CallsOne begun settings call) =
          subst (λ (noted : List Noted). Agrees shown noted (fold (sent_on scan_now) scan_now.sendings (opening begun settings ++ up.Call false [] call ∷ []))) (sym (called_noted held_now over_now begun settings call noted_now))
          (subst (Agrees shown (option_map_or (λ x. note call over_now x ∷ noted_now) held_now noted_now)) (sym (called_fold scan_now begun settings call scan_now.sendings))
          (both held_now scan_now.held (noted_held begun settings call is holds)))
        where
          both : (noted sent : Option Ltxid) → noted ≡ sent → Agrees shown (option_map_or (λ x. note call over_now x ∷ noted_now) noted noted_now) (option_map_or (λ x. made scan_now call x ∷ scan_now.sendings) sent scan_now.sendings)
          both None None same = now.agrees
          both (Some x) (Some y) same =
              let equal : x ≡ y = cc in
              and_from (is_noted shown (note call over_now x) (made scan_now call y)) (pointwise (is_noted shown) noted_now scan_now.sendings)
              (noted_to shown (note call over_now x) (made scan_now call y) (record { ltxid = equal; call = refl; reply = refl; transaction = now.over ∙ ap (transaction_at shown) (sym now.count) })) now.agrees
          both None (Some y) same = absurd (let none : ⊥ = cc in none)
          both (Some x) None same = absurd (let none : ⊥ = cc in none)

  after_trying : trying_of (dones_of step.after.steps) ≡ tries_on trying_before one.done
  after_trying = by step.goes_on ∙ (ap trying_of (map-append (λ (s : Step). s.done) step.before.steps (one ∷ [])) ∙ fold-append tries_on (trying_of []) dones (one.done ∷ []))
    where
      by : {after : Doing} {kept : Hold} → GoesOn t.setting first one.done.act.hold after kept → trying_of (dones_of after.steps) ≡ trying_of (dones_of first.steps)
      by AtOnce = refl
      by (LostToo event tick ended is) = ap trying_of (map-append (λ (s : Step). s.done) first.steps (_ ∷ [])) ∙ fold-append tries_on (trying_of []) (dones_of first.steps) (_ ∷ [])

  after_count : (scan_by mine step.after.steps).shown ≡ scan_now.shown
  after_count = by step.goes_on ∙ ap (λ (scan : Scan). scan.shown) (fold-append _ (scan_by mine []) step.before.steps (one ∷ []))
    where
      by : {after : Doing} {kept : Hold} → GoesOn t.setting first one.done.act.hold after kept → (scan_by mine after.steps).shown ≡ (scan_by mine first.steps).shown
      by AtOnce = refl
      by (LostToo event tick ended is) = ap (λ (scan : Scan). scan.shown) (fold-append _ (scan_by mine []) first.steps (_ ∷ [])) ∙ none (scan_by mine first.steps).shown
        where
          none : (n : ℕ) → n + 0 ≡ n
          none n = omega arith

  pub mine_noted : agree_on shown_before trying_before scan_before ≡ true → agree_on (map shown_call (account_now terms step.after).shown) (trying_of (dones_of step.after.steps)) (scan_by mine step.after.steps) ≡ true
  mine_noted here =
      let shown : List ShownCall = map shown_call (account_now terms step.after).shown in
      let same : shown ≡ map shown_call (account_now terms first).shown = ap (map shown_call) (shown_after t.setting m inv.script.talks who new.machine step) in
      let parts = and_parts (scan_before.shown == length shown_before) ((trying_before.over == transaction_at shown_before (length shown_before)) && pointwise (is_noted shown_before) trying_before.sendings scan_before.sendings) here in
      let two = and_parts (trying_before.over == transaction_at shown_before (length shown_before)) (pointwise (is_noted shown_before) trying_before.sendings scan_before.sendings) parts.1 in
      let now : Behind_now shown = heard_so (eq_from scan_before.shown (length shown_before) parts.0) (eq_from trying_before.over (transaction_at shown_before (length shown_before)) two.0) two.1 shown (subst (ShownAs shown_before one.done.act.shown) (sym same) shown_as) in
      let over : (trying_of (dones_of step.after.steps)).over ≡ transaction_at shown (length shown) = ap (λ (trying : Trying). trying.over) after_trying ∙ now.over in
      and_from ((scan_by mine step.after.steps).shown == length shown) (((trying_of (dones_of step.after.steps)).over == transaction_at shown (length shown)) && pointwise (is_noted shown) (trying_of (dones_of step.after.steps)).sendings (scan_by mine step.after.steps).sendings)
      (eq_to (scan_by mine step.after.steps).shown (length shown) (after_count ∙ now.count))
      (and_from ((trying_of (dones_of step.after.steps)).over == transaction_at shown (length shown)) (pointwise (is_noted shown) (trying_of (dones_of step.after.steps)).sendings (scan_by mine step.after.steps).sendings)
      (eq_to (trying_of (dones_of step.after.steps)).over (transaction_at shown (length shown)) over)
      (subst (λ (noted : List Noted). Agrees shown noted (scan_by mine step.after.steps).sendings) (sym (ap (λ (trying : Trying). trying.sendings) after_trying))
      (subst (Agrees shown (fold (sent_under held_now over_now) noted_now one.done.act.send)) (sym (after_sendings t.setting m inv.script.talks who new.machine step)) (pushed_so shown now))))

-- ALL REQUESTS ------------------------------------------------------------------------------------

by_step : (t : Traced) (inv : Orderly t) (new : Traced) → are_by_held new ≡ true → Moving t.setting (at_event t.machine) new.machine → note_sendings t ≡ true → list_all notes_sendings (courses_of_clients t.setting 1 new.machine.clients) ≡ true
by_step t inv new by_held (Quietly same stays) all = subst (λ (clients : List Client). list_all notes_sendings (courses_of_clients t.setting 1 clients) ≡ true) (sym same) all
by_step t inv new by_held (Stepping who step) all =
    let here : notes_sendings (course_now t.setting who (length step.client.past) step.before) ≡ true = before_so t inv who new.machine step notes_sendings all (λ request. refl) in
    all_step t.setting notes_sendings notes_sendings (record { client = who; place = length step.client.past }) (λ course differs so. so) (at_event t.machine) who new.machine step refl
    (λ keep. mine_noted t inv new by_held who step here) (λ over. mine_noted t inv new by_held who step here) all

pub noted_law : StaysTrue note_sendings
noted_law = record {
  at_start = λ document. resting_none (setting_of document) 1 notes_sendings document.clients;
  at_event = λ before after old new event note items left one inv here.
      let by : Followed old.setting old.machine event note items left new.machine = follow_happens old.setting old.machine event note items left new.machine one.follows in
      subst (λ (setting : Setting). list_all notes_sendings (courses_of_clients setting 1 new.machine.clients) ≡ true) (sym one.setting)
      (by_step old inv new (by_held_law.at_event before after old new event note items left one inv) (moving old.setting (at_event old.machine) items left by.kind new.machine by.happens) here);
}
