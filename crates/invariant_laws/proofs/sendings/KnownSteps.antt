-- What is known of the sendings of a request behind an input: of the one that is answered, and of
-- those before it.
use Rattle.std.proofs.Common.{◌≡◌, refl, sym, ap, subst, ◌∙◌, Bool, true, false, ℕ, ◌&&◌, ◌||◌, cond, filter, length, List, [], ◌∷◌, ◌++◌, map, Option, Some, None, inl, inr}
use Rattle.std.specs.Prelude.{◌==◌, not, slice_get, is_none, unwrap_or}
use Rattle.std.specs.List.{list_all, list_any}
use Rattle.std.specs.Option.{option_map_or}
use Rattle.std.proofs.lemmas.Bool.{and_parts, and_from}
use Rattle.std.proofs.lemmas.List.{length-map}
use Rattle.svc_values.specs.declared.answer.Answer.{Answer}
use Rattle.svc_values.specs.declared.answer.Answer.TheVariants as answer
use Rattle.svc_values.specs.declared.call.Call.{Call}
use Rattle.svc_values.specs.declared.entry.Ltxid.{Ltxid}
use Rattle.svc_values.specs.declared.frame.Down.{Down}
use Rattle.svc_values.specs.declared.frame.Down.TheVariants as down
use Rattle.svc_values.specs.declared.frame.Up.{Up}
use Rattle.svc_values.specs.declared.frame.Up.TheVariants as up
use Rattle.svc_values.specs.meaning.Calls.{has_commit}
use Rattle.svc_values.specs.meaning.Endings.{ends_committed}
use Rattle.svc_values.specs.meaning.Same.{same_answers, same_call}
use Rattle.svc_values.specs.SameLaws.{same_answers_decide, same_call_decides}
use Rattle.outage_schedule.specs.declared.item.Served.{Served}
use Rattle.outage_schedule.specs.declared.request.Outcome.{Outcome}
use Rattle.outage_schedule.specs.declared.request.ShownCall.{ShownCall}
use Rattle.run_clauses.specs.meaning.Reports.{shown_call}
use Rattle.run_clauses.specs.meaning.Tried.{holds}
use Rattle.client_model.specs.declared.act.Hold.{Hold as Holding}
use Rattle.client_model.specs.declared.act.Shown.{Shown}
use Rattle.client_model.specs.declared.input.Input.{Input}
use Rattle.client_model.specs.declared.input.Input.TheVariants.{Lent, Opened, Took, Gone}
use Rattle.client_model.specs.meaning.Account.{Account}
use Rattle.client_model.specs.meaning.States.{Asking, Living}
use Rattle.client_model.specs.meaning.Talk.{talk_step}
use Rattle.client_model.specs.meaning.Terms.{Phase, Asked, Running}
use Rattle.client_model.proofs.Offered.{Fits}
use Rattle.world_model.specs.meaning.Clients.{Step, Doing}
use Rattle.world_model.specs.meaning.Frames.{Owner, Sent}
use Rattle.world_model.specs.records.Hold.{are_by_held, is_call, is_awaited}
use Rattle.invariant_laws.specs.Invariant.{Invariant}
use Rattle.world_model.specs.Orderly.{Orderly}
use Rattle.world_model.specs.meaning.Machines.{Machine}
use Rattle.world_model.specs.meaning.Matching.{Noted}
use Rattle.invariant_laws.specs.Once.{all_but_last, is_known, is_open_or_committed, is_placed, is_settled, later_settled, tells_completed, transaction_at}
use Rattle.world_model.specs.Parts.{Sending, Scan, answered, is_unmarked_frame, with_taken}
use Rattle.world_model.specs.records.Script.{is_call_of, is_sending_of}
use Rattle.world_model.specs.Traced.{Traced, Course}
use Rattle.world_model.specs.Words.{brought, held_in}
use Rattle.world_model.proofs.Offered.{filter_all, filter_passes, weaker_all, HasStepped, HeardOn, OfNone, OfIdle, OfNew, OfReply, OfEnded, is_frame, at_event, implied, Happens, moves_next_number as next_number, scan_by, heard_scan, account_now, first_step, first_doing, eq_from, eq_to, not_both}
use Rattle.invariant_laws.proofs.sendings.ApartSteps.{commits}
use Rattle.invariant_laws.proofs.rows.EndedCalls.{shows_last}
use Rattle.invariant_laws.proofs.sendings.FateLinks.{OutOf}
use Rattle.invariant_laws.proofs.sendings.FateSteps.{Taking, out}
use Rattle.invariant_laws.proofs.sendings.FateTops.{last_open, last_pair, scan_on}
use Rattle.invariant_laws.proofs.entries.KeptNoted.{ShownAs, NoneShown, OneShown, shown_as}
use Rattle.invariant_laws.proofs.losses.KeptTold.{shown_is}
use Rattle.invariant_laws.proofs.sendings.KnownLists.{IsAnswered, known_to, known_more, known_still}
use Rattle.invariant_laws.proofs.losses.LostKept.{both_all, course_before}
use Rattle.invariant_laws.proofs.losses.OutcomesTold.{told_more}
use Rattle.invariant_laws.proofs.talks.Placing.{said as spoken_frames}
use Rattle.invariant_laws.proofs.rows.RowSteps.{before_fits}
use Rattle.invariant_laws.proofs.sendings.SettledLists.{is_later, later_all}
use Rattle.invariant_laws.proofs.talks.TalkCompletes.{completed_as}
use Rattle.invariant_laws.proofs.talks.TalkShows.{ShowsBy, ByReply, ByOutcome, IsTaken, taken_shows, shows_taken}
use Rattle.invariant_laws.proofs.talks.TalkTop.{top_open}

-- WHAT IS TOLD ------------------------------------------------------------------------------------

-- an input without a reply that is shown answers none
unshown : (input : Input) (sendings : List Sending) → answered input None sendings ≡ sendings
unshown (Took (down.Reply answers draws x) alive) sendings = refl
unshown input sendings = refl

and_false : (a : Bool) → ((a && false) || false) ≡ false
and_false true = refl
and_false false = refl

-- no outcome is told as completed but one that says so
told_none : (input : Input) (phase : Phase) → ((asking : Asking) (alive : Bool) → input ≡ Took (down.OutcomeIs true true) alive → phase ≡ Asked asking → ⊥) → (x : Ltxid) → list_any (tells_completed x) (told_more input phase) ≡ false
told_none (Took (down.OutcomeIs true true) alive) (Asked asking) never x = absurd (never asking alive refl refl)
told_none (Took (down.OutcomeIs true false) alive) (Asked asking) never x = and_false _
told_none (Took (down.OutcomeIs false completed) alive) (Asked asking) never x = and_false _
told_none input phase never x = refl

-- of a call of the script, the place tells which
same_script : (calls : List Call) (held : List ℕ) (a b : Sending) → is_placed calls held a ≡ true → is_placed calls held b ≡ true → a.at ≡ b.at → a.call ≡ b.call
same_script calls held a b one other place = by (slice_get calls b.at) (ap (λ (at : ℕ). option_map_or (same_call a.call) (slice_get calls at) false) (sym place) ∙ (and_parts (option_map_or (same_call a.call) (slice_get calls a.at) false) _ one).0) (and_parts (option_map_or (same_call b.call) (slice_get calls b.at) false) _ other).0
  where
    by : (found : Option Call) → option_map_or (same_call a.call) found false ≡ true → option_map_or (same_call b.call) found false ≡ true → a.call ≡ b.call
    by None one other = absurd (let none : ⊥ = cc in none)
    by (Some call) one other = (same_call_decides a.call call).0 one ∙ sym ((same_call_decides b.call call).0 other)

-- one that is open, and settled, is blocked
open_blocked : (t : Traced) (shown : List ShownCall) (transaction : ℕ) (sending : Sending) → is_later t shown transaction sending ≡ true → transaction_at shown sending.at ≡ transaction → sending.taken ≡ None → holds t.blocked sending.ltxid ≡ true
open_blocked t shown transaction sending here same untaken =
    by (is_open_or_committed sending) (holds t.blocked sending.ltxid) (ap (λ (taken : Option (List Answer)). option_map_or ends_committed taken true) untaken)
    (implied (transaction_at shown sending.at == transaction) (is_settled t sending) (eq_to (transaction_at shown sending.at) transaction same) here)
  where
    by : (is_open held : Bool) → is_open ≡ true → (not is_open || held) ≡ true → held ≡ true
    by true held is here = here
    by false held is here = absurd (let none : ⊥ = cc in none)

module _ (t : Traced) (whole : Invariant t) (new : Traced) (setting : new.setting ≡ t.setting) (items left : List Served) (kind : Noted) (happens : Happens t.setting (at_event t.machine) items left kind new.machine)
    (by_held : are_by_held new ≡ true) (who : ℕ) (step : HasStepped t.setting (at_event t.machine) who new.machine) where
  abbrev m : Machine
  m = at_event t.machine

  inv : Orderly t
  inv = whole.orderly

  abbrev mine : Owner
  mine = record { client = who; place = length step.client.past }

  abbrev before : Course
  before = course_before t whole.orderly new setting items left kind happens who step

  abbrev one : Step
  one = first_step t.setting m whole.orderly.script.talks who new.machine step

  abbrev first : Doing
  first = first_doing t.setting m whole.orderly.script.talks who new.machine step

  abbrev account_before : Account
  account_before = account_now t.setting.terms step.before

  abbrev calls : List ShownCall
  calls = map shown_call account_before.shown

  abbrev script : List Call
  script = step.before.request.calls

  abbrev held : List ℕ
  held = held_in step.before.steps

  abbrev sendings : List Sending
  sendings = (scan_by mine step.before.steps).sendings

  abbrev scan_now : Scan
  scan_now = heard_scan t.setting m whole.orderly.script.talks who new.machine step

  -- WHERE THE LAST SENDING IS ---------------------------------------------------------------------

  unmarked_call : (index : ℕ) (sent : Sent) (frame : Up) → is_call false index sent frame ≡ true → (is_unmarked_frame frame ≡ true) × (sent.call ≡ index)
  unmarked_call index sent (up.Call false kept call) is = (refl, eq_from sent.call index is)
  unmarked_call index sent (up.Call true kept call) is = absurd (let none : ⊥ = cc in none)
  unmarked_call index sent frame is = absurd (let none : ⊥ = cc in none)

  -- a request that runs and takes a frame sent the next call last
  top_at : (state : Living) → step.before.talk.phase ≡ Running state → (taking : Taking t whole.orderly whole.once.apart new who step) → (top : Sending) (rest : List Sending) → sendings ≡ top ∷ rest → top.at ≡ length calls
  top_at state runs taking top rest are =
      let out_now : OutOf mine step.before.talk.phase taking.link = out t whole.orderly whole.once.apart new who step taking in
      let called = unmarked_call state.track.call out_now.sent out_now.sent.frame (subst (λ (p : Phase). is_awaited p out_now.sent ≡ true) runs out_now.awaited) in
      let opened =
      and_parts (top.connection == (scan_by mine step.before.steps).connection) (is_none top.taken)
      (subst (λ (list : List Sending). top_open (scan_by mine step.before.steps).connection list ≡ true) are (last_open t whole.orderly who new.machine step state runs)) in
      let place : top.connection ≡ taking.connection = eq_from top.connection (scan_by mine step.before.steps).connection opened.0 ∙ scan_on t whole.orderly who new.machine step state runs taking.connection taking.has taking.link taking.there in
      let pair : is_sending_of out_now.sent top ≡ true =
      last_pair t whole.orderly who new.machine step state runs taking.connection taking.has taking.link taking.there top rest are (eq_to top.connection taking.connection place) out_now.sent out_now.last out_now.own called.0 in
      let fits : Fits t.setting.terms script account_before (before_fits t.setting m whole.orderly.script.talks who new.machine step).gone (Running state) =
      subst (λ (p : Phase). Fits t.setting.terms script account_before (before_fits t.setting m whole.orderly.script.talks who new.machine step).gone p) runs (before_fits t.setting m whole.orderly.script.talks who new.machine step).fits in
      sym (eq_from out_now.sent.call top.at (and_parts (out_now.sent.call == top.at) (is_call_of top.call out_now.sent.frame) pair).0) ∙ (called.1 ∙ (fits.0.tracked.call ∙ sym (length-map account_before.shown shown_call)))

  pub taking_at : (frame : Down) (alive : Bool) → step.input ≡ Took frame alive → Taking t whole.orderly whole.once.apart new who step
  taking_at frame alive heard = by step.before.connection step.input step.after refl refl step.heard_on
    where
      by : {kept : Holding} (had : Option ℕ) (input : Input) (after : Doing) → step.before.connection ≡ had → step.input ≡ input → HeardOn t.setting m new.machine who first kept (spoken_frames t.setting m who new.machine step) after had input → Taking t whole.orderly whole.once.apart new who step
      by _ _ after was is (OfNone had input none plain same) = absurd (let frame_is : is_frame (Took frame alive) ≡ false = ap is_frame (sym heard ∙ is) ∙ plain in let never : ⊥ = cc in never)
      by _ _ after was is (OfIdle had connection x answer same) = absurd (let never : Took frame alive ≡ Lent connection x = sym heard ∙ is in let none : ⊥ = cc in none)
      by _ _ after was is (OfNew had same) = absurd (let brings : brought (Took frame alive) ≡ brought (Opened (next_number m)) = ap brought (sym heard ∙ is) in let none : ⊥ = cc in none)
      by _ _ after was is (OfReply had connection link reply later some there down_is next back) =
          record { connection = connection; link = link; reply = reply; later = later; has = was ∙ some; there = there; down_is = down_is; heard = is; after = next }
      by _ _ after was is (OfEnded had connection link some there shut next same) = absurd (let never : Took frame alive ≡ Gone (unwrap_or link.ended 0) = sym heard ∙ is in let none : ⊥ = cc in none)

  -- WHAT IS HEARD ---------------------------------------------------------------------------------

  -- the calls that were shown then, and the sendings: nothing more; the last one answered; or the
  -- next call shown by an outcome
  pub data HeardAs : List ShownCall → List Sending → Type 0 where
    Quietly : one.done.act.shown ≡ None → HeardAs calls sendings
    Replied : (shown : Shown) (state : Living) (taking : Taking t whole.orderly whole.once.apart new who step) (top : Sending) (rest : List Sending) → step.before.talk.phase ≡ Running state → taking.reply.frame ≡ down.Reply shown.answers shown.draws shown.ltxid → sendings ≡ top ∷ rest → top.at ≡ length calls
        → HeardAs (calls ++ shown_call shown ∷ []) (record top { taken = Some shown.answers } ∷ rest)
    Completed : (shown : Shown) (asking : Asking) (alive : Bool) → step.input ≡ Took (down.OutcomeIs true true) alive → step.before.talk.phase ≡ Asked asking → shown.answers ≡ answer.Committed ∷ [] → HeardAs (calls ++ shown_call shown ∷ []) sendings

  showing : (shown : Shown) → one.done.act.shown ≡ Some shown → HeardAs (calls ++ shown_call shown ∷ []) scan_now.sendings
  showing shown is = by (taken_shows t.setting.terms step.before.talk step.before.talk.phase taken.frame taken.alive m.tick shown (sym (ap (λ (input : Input). (talk_step t.setting.terms step.before.talk input m.tick).1.shown) taken.is) ∙ is))
    where
      taken : IsTaken step.input
      taken = shows_taken t.setting.terms step.before.talk m.tick shown step.input is

      heard : (frame : Down) → taken.frame ≡ frame → scan_now.sendings ≡ answered (Took frame taken.alive) (Some shown) sendings
      heard frame same = ap (λ (input : Input). answered input one.done.act.shown sendings) (taken.is ∙ ap (λ (f : Down). Took f taken.alive) same) ∙ ap (λ (s : Option Shown). answered (Took frame taken.alive) s sendings) is

      taking : Taking t whole.orderly whole.once.apart new who step
      taking = taking_at taken.frame taken.alive taken.is

      reply_is : taking.reply.frame ≡ taken.frame
      reply_is = let both : Took taking.reply.frame taking.link.is_open ≡ Took taken.frame taken.alive = sym taking.heard ∙ taken.is in let same : taking.reply.frame ≡ taken.frame = cc in same

      by_reply : (state : Living) → step.before.talk.phase ≡ Running state → taken.frame ≡ down.Reply shown.answers shown.draws shown.ltxid → (list : List Sending) → sendings ≡ list → HeardAs (calls ++ shown_call shown ∷ []) (with_taken shown.answers list)
      by_reply state runs same [] are =
          absurd (let never : false ≡ true = subst (λ (list : List Sending). top_open (scan_by mine step.before.steps).connection list ≡ true) are (last_open t whole.orderly who new.machine step state runs) in let none : ⊥ = cc in none)
      by_reply state runs same (top ∷ rest) are = Replied shown state taking top rest runs (reply_is ∙ same) are (top_at state runs taking top rest are)

      by : ShowsBy step.before.talk.phase taken.frame shown → HeardAs (calls ++ shown_call shown ∷ []) scan_now.sendings
      by (ByReply state runs same) = subst (HeardAs (calls ++ shown_call shown ∷ [])) (sym (heard (down.Reply shown.answers shown.draws shown.ltxid) same)) (by_reply state runs same sendings refl)
      by (ByOutcome asking asked same committed) =
          subst (HeardAs (calls ++ shown_call shown ∷ [])) (sym (heard (down.OutcomeIs true true) same)) (Completed shown asking taken.alive (taken.is ∙ ap (λ (f : Down). Took f taken.alive) same) asked committed)

  pub heard_as : HeardAs (map shown_call (account_now t.setting.terms first).shown) scan_now.sendings
  heard_as = by (map shown_call (account_now t.setting.terms first).shown) (shown_as t whole.orderly new by_held who step)
    where
      by : (shown : List ShownCall) → ShownAs calls one.done.act.shown shown → HeardAs shown scan_now.sendings
      by _ (NoneShown none) = subst (HeardAs calls) (sym (ap (λ (s : Option Shown). answered step.input s sendings) none ∙ unshown step.input sendings)) (Quietly none)
      by _ (OneShown shown is) = showing shown is

  -- BEHIND AN INPUT -------------------------------------------------------------------------------

  abbrev known_so : List ShownCall → List Outcome → List Sending → Bool
  known_so shown outcomes list = list_all (is_known new.blocked shown outcomes) (filter commits list)

  -- one is answered: of those of its place the others are blocked
  replied : (shown : Shown) (others : List Outcome) (top : Sending) (rest : List Sending) → top.at ≡ length calls → list_all (is_placed script held) (top ∷ rest) ≡ true → all_but_last new calls (filter commits (top ∷ rest)) ≡ true
      → known_so calls before.report.outcomes (top ∷ rest) ≡ true → known_so (calls ++ shown_call shown ∷ []) others (record top { taken = Some shown.answers } ∷ rest) ≡ true
  replied shown others top rest place placed settled known = by (has_commit top.call) refl settled known
    where
      places : (is_placed script held top ≡ true) × (list_all (is_placed script held) rest ≡ true)
      places = and_parts (is_placed script held top) (list_all (is_placed script held) rest) placed

      -- with a commit
      rest_settled : later_settled new calls (transaction_at calls top.at) (filter commits rest) ≡ true → list_all (is_known new.blocked calls before.report.outcomes) (filter commits rest) ≡ true → list_all (is_known new.blocked (calls ++ shown_call shown ∷ []) others) (filter commits rest) ≡ true
      rest_settled later known =
          weaker_all (λ s. is_later new calls (transaction_at calls top.at) s && is_known new.blocked calls before.report.outcomes s) (is_known new.blocked (calls ++ shown_call shown ∷ []) others) (filter commits rest)
          (λ s both.
          let parts = and_parts (is_later new calls (transaction_at calls top.at) s) (is_known new.blocked calls before.report.outcomes s) both in
          known_more new.blocked calls (shown_call shown) before.report.outcomes others s (λ none at. inl (open_blocked new calls (transaction_at calls top.at) s parts.0 (ap (transaction_at calls) (at ∙ sym place)) none)) parts.1)
          (both_all (is_later new calls (transaction_at calls top.at)) (is_known new.blocked calls before.report.outcomes) (filter commits rest) (sym (later_all new calls (transaction_at calls top.at) (filter commits rest)) ∙ later) known)

      -- without one none of the others at its place has one
      rest_other : has_commit top.call ≡ false → list_all (is_known new.blocked calls before.report.outcomes) (filter commits rest) ≡ true → list_all (is_known new.blocked (calls ++ shown_call shown ∷ []) others) (filter commits rest) ≡ true
      rest_other plain known =
          weaker_all (λ s. (is_placed script held s && commits s) && is_known new.blocked calls before.report.outcomes s) (is_known new.blocked (calls ++ shown_call shown ∷ []) others) (filter commits rest)
          (λ s both.
          let parts = and_parts (is_placed script held s && commits s) (is_known new.blocked calls before.report.outcomes s) both in
          let mine_so = and_parts (is_placed script held s) (commits s) parts.0 in
          known_more new.blocked calls (shown_call shown) before.report.outcomes others s
          (λ none at. absurd (not_both (has_commit s.call) mine_so.1 (ap has_commit (same_script script held s top mine_so.0 places.0 (at ∙ sym place)) ∙ plain))) parts.1)
          (both_all (λ s. is_placed script held s && commits s) (is_known new.blocked calls before.report.outcomes) (filter commits rest)
          (both_all (is_placed script held) commits (filter commits rest) (filter_all (is_placed script held) commits rest places.1) (filter_passes commits rest)) known)

      by : (test : Bool) → has_commit top.call ≡ test → all_but_last new calls (cond test (top ∷ filter commits rest) (filter commits rest)) ≡ true → list_all (is_known new.blocked calls before.report.outcomes) (cond test (top ∷ filter commits rest) (filter commits rest)) ≡ true
          → list_all (is_known new.blocked (calls ++ shown_call shown ∷ []) others) (cond test (record top { taken = Some shown.answers } ∷ filter commits rest) (filter commits rest)) ≡ true
      by false is settled known = rest_other is known
      by true is settled known =
          let later = and_parts (later_settled new calls (transaction_at calls top.at) (filter commits rest)) (all_but_last new calls (filter commits rest)) settled in
          let parts = and_parts (is_known new.blocked calls before.report.outcomes top) (list_all (is_known new.blocked calls before.report.outcomes) (filter commits rest)) known in
          and_from (is_known new.blocked (calls ++ shown_call shown ∷ []) others (record top { taken = Some shown.answers })) (list_all (is_known new.blocked (calls ++ shown_call shown ∷ []) others) (filter commits rest))
          (known_to new.blocked (calls ++ shown_call shown ∷ []) others (record top { taken = Some shown.answers })
          (IsAnswered shown.answers refl (shows_last (same_answers shown.answers) calls (shown_call shown) top.at place ((same_answers_decide shown.answers shown.answers).1 refl))))
          (rest_settled later.0 parts.1)

  module _ (placed : list_all (is_placed script held) sendings ≡ true) (settled : all_but_last new calls (filter commits sendings) ≡ true) (known : known_so calls before.report.outcomes sendings ≡ true) where
    abbrev more : List Outcome
    more = told_more step.input step.before.talk.phase

    pub heard_known : known_so (map shown_call (account_now t.setting.terms first).shown) (before.report.outcomes ++ more) scan_now.sendings ≡ true
    heard_known = by (map shown_call (account_now t.setting.terms first).shown) scan_now.sendings heard_as
      where
        never : one.done.act.shown ≡ None → (asking : Asking) (alive : Bool) → step.input ≡ Took (down.OutcomeIs true true) alive → step.before.talk.phase ≡ Asked asking → ⊥
        never none asking alive is asked =
            let shows : ◌≡◌ {A = Option Shown} None (Some (completed_as asking)) = sym none ∙ shown_is t whole new setting items left kind happens who step asking alive is asked in
            let nothing : ⊥ = cc in
            nothing

        by : (shown : List ShownCall) (list : List Sending) → HeardAs shown list → known_so shown (before.report.outcomes ++ more) list ≡ true
        by _ _ (Quietly none) =
            weaker_all (is_known new.blocked calls before.report.outcomes) (is_known new.blocked calls (before.report.outcomes ++ more)) (filter commits sendings)
            (λ s here. known_still new.blocked calls before.report.outcomes more s (told_none step.input step.before.talk.phase (never none)) here) known
        by _ _ (Replied shown state taking top rest runs says are place) =
            replied shown (before.report.outcomes ++ more) top rest place (subst (λ (list : List Sending). list_all (is_placed script held) list ≡ true) are placed) (subst (λ (list : List Sending). all_but_last new calls (filter commits list) ≡ true) are settled)
            (subst (λ (list : List Sending). known_so calls before.report.outcomes list ≡ true) are known)
        by _ _ (Completed shown asking alive heard asked committed) =
            weaker_all (is_known new.blocked calls before.report.outcomes) (is_known new.blocked (calls ++ shown_call shown ∷ []) (before.report.outcomes ++ more)) (filter commits sendings)
            (λ s here. known_more new.blocked calls (shown_call shown) before.report.outcomes (before.report.outcomes ++ more) s (λ none at. inr (shows_last ends_committed calls (shown_call shown) s.at at (ap ends_committed committed))) here) known
