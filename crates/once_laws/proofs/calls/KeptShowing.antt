-- What a request took as the reply to a call that it sent without the mark is what it was shown of
-- that call, wherever a run has come to.
use Rattle.std.proofs.Common.{◌≡◌, ◌≢◌, refl, sym, ap, subst, ◌∙◌, Bool, true, false, ℕ, suc, ◌&&◌, length, append_assoc, List, [], ◌∷◌, ◌++◌, map, Option, Some, None}
use Rattle.std.specs.Prelude.{◌==◌, not, slice_get, option_map}
use Rattle.std.specs.List.{list_all}
use Rattle.std.specs.Option.{option_or, option_map_or}
use Rattle.std.proofs.lemmas.Bool.{and_from, or_right}
use Rattle.std.proofs.lemmas.List.{map-append}
use Rattle.svc_values.specs.declared.answer.Answer.{Answer}
use Rattle.svc_values.specs.declared.call.Call.{Call}
use Rattle.svc_values.specs.declared.draw.Draw.{Draw}
use Rattle.svc_values.specs.declared.entry.Ltxid.{Ltxid}
use Rattle.svc_values.specs.declared.frame.Up.{Up}
use Rattle.svc_values.specs.declared.frame.Up.TheVariants as up
use Rattle.svc_values.specs.declared.frame.Down.{Down}
use Rattle.svc_values.specs.declared.frame.Down.TheVariants as down
use Rattle.svc_values.specs.meaning.Identifiers.{same_ltxid}
use Rattle.svc_values.specs.meaning.Same.{same_answers, same_draws}
use Rattle.svc_values.specs.SameLaws.{same_answers_decide, same_draws_decide}
use Rattle.outage_schedule.specs.declared.document.Request.{Request}
use Rattle.outage_schedule.specs.declared.event.Event.{Event}
use Rattle.outage_schedule.specs.declared.item.Served.{Served}
use Rattle.outage_schedule.specs.declared.note.Note.{Note}
use Rattle.outage_schedule.specs.declared.request.ShownCall.{ShownCall}
use Rattle.client_model.specs.declared.act.Shown.{Shown}
use Rattle.client_model.specs.declared.input.Input.{Input}
use Rattle.client_model.specs.declared.input.Input.TheVariants.{Took}
use Rattle.client_model.specs.meaning.States.{Living}
use Rattle.client_model.specs.meaning.Talk.{talk_step, takes as taken_by, next_call, on_reply, talk_shown}
use Rattle.client_model.specs.meaning.Terms.{Terms, Phase, Talk, Running}
use Rattle.client_model.proofs.Offered.{Fits}
use Rattle.run_clauses.specs.meaning.Reports.{shown_call}
use Rattle.server_model.specs.Seen.{Seen}
use Rattle.world_model.specs.meaning.Acting.{sent_by}
use Rattle.world_model.specs.meaning.Clients.{Client, Doing, Step, begun, past_of}
use Rattle.world_model.specs.meaning.Frames.{Owner, Sent}
use Rattle.invariant_laws.specs.Invariant.{Invariant}
use Rattle.world_model.specs.Orderly.{Orderly}
use Rattle.invariant_laws.specs.KeptLaws.{RunsKeepInvariant}
use Rattle.world_model.specs.meaning.Links.{Link, new_link, link_at, sends}
use Rattle.world_model.specs.meaning.Machines.{Machine}
use Rattle.world_model.specs.meaning.Matching.{Noted}
use Rattle.invariant_laws.specs.Once.{are_apart}
use Rattle.world_model.specs.OneEvent.{OneEvent}
use Rattle.world_model.specs.Parts.{is_unmarked_frame}
use Rattle.world_model.specs.Reached.{traced_start, Begins, GoesOn}
use Rattle.invariant_laws.specs.SameLaws.{HoldsAtEnds, HoldsInRuns}
use Rattle.world_model.specs.Sames.{is_of, owned_by, same_up}
use Rattle.once_laws.specs.Showing.{is_as_told, shows_reply, is_shown_reply, shows_taken, show_replies}
use Rattle.world_model.specs.Traced.{Traced, Course, course_now, course_over, courses_of_clients, courses_of}
use Rattle.world_model.specs.records.Wire.{is_answered_in_order}
use Rattle.world_model.specs.Words.{held_in}
use Rattle.world_model.proofs.Offered.{at_link, append_all, at_all, weaker_all, HasStepped, HasMore, all_step, sends_alike, Followed, follow_happens, at_event, doing_course, held_now, get_mapped, by_index, ShownMore, get_last, finishing_reached, ltxid_self, account_now, shown_later, first_step, request_after, behind_first, doing_strange, ComesFrom, IsNew, IsOld, all_turn, some_same}
use Rattle.invariant_laws.proofs.Offered.{sent_parts, unmarked_same, OutOf, owned_same, Taking, out, call_left, Becomes, SameOut, Moving, Quietly, Stepping, moving, before_fits, shown_after, shown_more, next_shows}
use Rattle.once_laws.proofs.calls.ShowsReplies.{runs_unmarked, still_shown, strange_shown, strange_taken}
use Rattle.once_laws.proofs.calls.TakenOn.{answers_out, TookOn, NoneTaken, OneTaken, took_on}

-- on a new connection nothing was taken
new_shows : (course : Course) (event : ℕ) (frames : List Sent) → shows_taken course (sends event frames new_link) ≡ true
new_shows course event frames = sends_alike (λ (l : Link). shows_taken course l ≡ true) event frames new_link refl refl

-- A STEP ------------------------------------------------------------------------------------------

module _ (t : Traced) (inv : Orderly t) (apart : are_apart t ≡ true) (new : Traced) (who : ℕ) (step : HasStepped t.setting (at_event t.machine) who new.machine) where
  abbrev m : Machine
  m = at_event t.machine

  abbrev terms : Terms
  terms = t.setting.terms

  abbrev mine : Owner
  mine = record { client = who; place = length step.client.past }

  abbrev before_course : Course
  before_course = course_now t.setting who (length step.client.past) step.before

  abbrev one : Step
  one = first_step t.setting m inv.script.talks who new.machine step

  abbrev shown_before : List Shown
  shown_before = (account_now terms step.before).shown

  module _ (taking : Taking t inv apart new who step) where
    at_out : OutOf mine step.before.talk.phase taking.link
    at_out = out t inv apart new who step taking

    -- the reply is to its own frame
    alike : (taking.reply.to.owner ≡ at_out.sent.owner) × ((taking.reply.to.call ≡ at_out.sent.call) × (same_up taking.reply.to.frame at_out.sent.frame ≡ true))
    alike =
        sent_parts taking.reply.to at_out.sent
        (answers_out taking.link taking.reply taking.later at_out.sent at_out.out at_out.frame taking.down_is (at_link is_answered_in_order t.machine.links taking.connection taking.link inv.wire.in_order taking.there))

    not_its : (course : Course) → course.owner ≢ mine → is_shown_reply course taking.reply ≡ true
    not_its course differs = strange_shown course taking.reply (by (owned_by course.owner taking.reply.to) refl)
      where
        by : (own : Bool) → owned_by course.owner taking.reply.to ≡ own → not own ≡ true
        by false is = refl
        by true is = absurd (differs (owned_same course.owner mine at_out.sent (ap (is_of course.owner) (sym alike.0) ∙ is) at_out.own))

    -- where the request runs, the reply is shown
    module _ (state : Living) (runs : step.before.talk.phase ≡ Running state) (answers : List Answer) (draws : List Draw) (x : Ltxid) (says : taking.reply.frame ≡ down.Reply answers draws x) where
      abbrev told : Shown
      told = record { answers = answers; draws = draws; ltxid = x }

      shows : one.done.act.shown ≡ Some told
      shows =
          let left = call_left t inv who new.machine step state runs in
          let after : Talk = talk_shown terms step.before.talk left.0 answers in
          let input : step.input ≡ Took (down.Reply answers draws x) taking.link.is_open = taking.heard ∙ ap (λ (f : Down). Took f taking.link.is_open) says in
          ap (λ (i : Input). (talk_step terms step.before.talk i m.tick).1.shown) input
          ∙ (ap (λ (p : Phase). (taken_by terms step.before.talk p (down.Reply answers draws x) taking.link.is_open m.tick).1.shown) runs
          ∙ (ap (λ (call : Option Call). (on_reply terms step.before.talk state answers draws x taking.link.is_open m.tick call).1.shown) left.1
          ∙ next_shows terms after _ taking.link.is_open [] (Some told) m.tick (next_call after)))

      abbrev fits : Fits terms step.before.request.calls (account_now terms step.before) (before_fits t.setting m inv.script.talks who new.machine step).gone (Running state)
      fits = subst (λ (p : Phase). Fits terms step.before.request.calls (account_now terms step.before) (before_fits t.setting m inv.script.talks who new.machine step).gone p) runs (before_fits t.setting m inv.script.talks who new.machine step).fits

      counted : state.track.call ≡ length shown_before
      counted = fits.0.tracked.call

      grown : (account_now terms step.after).shown ≡ shown_before ++ told ∷ []
      grown =
          shown_after t.setting m inv.script.talks who new.machine step
          ∙ shown_more t.setting m inv.script.talks who new.machine step told fits.0.left.one shows (ap (slice_get step.before.request.calls) (sym counted) ∙ fits.0.left.is)

    now_shown : (d : Course) → d.report.calls ≡ map shown_call (account_now terms step.after).shown → is_shown_reply d taking.reply ≡ true
    now_shown d calls =
        or_right (not (owned_by d.owner taking.reply.to)) (shows_reply d.report.calls taking.reply.to.call taking.reply.to.frame taking.reply.frame) (by taking.reply.to.frame taking.reply.frame refl refl)
      where
        found : (state : Living) → step.before.talk.phase ≡ Running state → at_out.sent.call ≡ state.track.call → (answers : List Answer) (draws : List Draw) (x : Ltxid) → taking.reply.frame ≡ down.Reply answers draws x
            → option_map_or (is_as_told answers draws x) (slice_get d.report.calls taking.reply.to.call) false ≡ true
        found state runs at answers draws x says =
            let shown : Shown = told state runs answers draws x says in
            let place : taking.reply.to.call ≡ length shown_before = alike.1.0 ∙ (at ∙ counted state runs answers draws x says) in
            let there : slice_get d.report.calls taking.reply.to.call ≡ Some (shown_call shown) =
            ap (λ (list : List ShownCall). slice_get list taking.reply.to.call) (calls ∙ ap (map shown_call) (grown state runs answers draws x says))
            ∙ (ap (slice_get (map shown_call (shown_before ++ shown ∷ []))) place ∙ get_mapped shown_call (shown_before ++ shown ∷ []) (length shown_before) shown (get_last shown_before shown)) in
            subst (λ (one : Option ShownCall). option_map_or (is_as_told answers draws x) one false ≡ true) (sym there)
            (and_from (same_answers answers answers) (same_draws draws draws && same_ltxid x x) ((same_answers_decide answers answers).1 refl)
            (and_from (same_draws draws draws) (same_ltxid x x) ((same_draws_decide draws draws).1 refl) (ltxid_self x)))

        by : (frame : Up) (reply : Down) → taking.reply.to.frame ≡ frame → taking.reply.frame ≡ reply → shows_reply d.report.calls taking.reply.to.call frame reply ≡ true
        by (up.Call false kept call) (down.Reply answers draws x) to says =
            let unmarked : is_unmarked_frame at_out.sent.frame ≡ true = sym (unmarked_same taking.reply.to.frame at_out.sent.frame alike.1.1) ∙ ap is_unmarked_frame to in
            let state = runs_unmarked step.before.talk.phase at_out.sent at_out.awaited unmarked in
            found state.0 state.1.0 state.1.1 answers draws x says
        by frame reply to says = refl

  -- on one connection
  took : (course : Course) → ((taking : Taking t inv apart new who step) → is_shown_reply course taking.reply ≡ true) → (link next : Link) → TookOn t inv apart new who step link next → shows_taken course link ≡ true → shows_taken course next ≡ true
  took course taken link next (NoneTaken same) old = ap (list_all (is_shown_reply course)) same ∙ old
  took course taken link next (OneTaken taking is more) old =
      ap (list_all (is_shown_reply course)) more ∙ append_all (is_shown_reply course) link.taken (taking.reply ∷ []) old (and_from (is_shown_reply course taking.reply) true (taken taking) refl)

  module _ (items left : List Served) (kind : Noted) (comes : (number : ℕ) (next : Link) → link_at new.machine.links number ≡ Some next → ComesFrom m items left kind number next) where
    all_took : (course : Course) → ((taking : Taking t inv apart new who step) → is_shown_reply course taking.reply ≡ true) → list_all (shows_taken course) t.machine.links ≡ true → list_all (shows_taken course) new.machine.links ≡ true
    all_took course taken old = by_index (shows_taken course) new.machine.links (λ index next there. by index next there (comes (suc index) next there))
      where
        by : (index : ℕ) (next : Link) → slice_get new.machine.links index ≡ Some next → ComesFrom m items left kind (suc index) next → shows_taken course next ≡ true
        by index next there (IsNew owner same) = ap (shows_taken course) same ∙ new_shows course m.event (sent_by owner 0 up.Connect ∷ [])
        by index next there (IsOld link was turn) = took course taken link next (took_on t inv apart new who step (suc index) link next was there) (at_all (shows_taken course) t.machine.links index link old was)

    -- of its own request
    own_shown : (d : Course) → d.owner ≡ mine → d.report.calls ≡ map shown_call (account_now terms step.after).shown → list_all (shows_taken before_course) t.machine.links ≡ true → list_all (shows_taken d) new.machine.links ≡ true
    own_shown d owner calls old = all_took d (λ taking. now_shown taking d calls) (weaker_all (shows_taken before_course) (shows_taken d) t.machine.links still old)
      where
        all_more : HasMore step.before.steps step.after.steps
        all_more = record {
          more = one ∷ (behind_first t.setting m inv.script.talks who new.machine step).more;
          are = (behind_first t.setting m inv.script.talks who new.machine step).are
              ∙ append_assoc step.before.steps (one ∷ []) (behind_first t.setting m inv.script.talks who new.machine step).more;
        }

        later : ShownMore terms step.before.request.calls (account_now terms step.before) (account_now terms step.after)
        later = shown_later terms step.before step.after (request_after t.setting m inv.script.talks who new.machine step) all_more

        still : (link : Link) → shows_taken before_course link ≡ true → shows_taken d link ≡ true
        still link =
            weaker_all (is_shown_reply before_course) (is_shown_reply d) link.taken
            (still_shown before_course d (map shown_call later.more) owner (calls ∙ (ap (λ (shown : List Shown). map shown_call shown) later.are ∙ map-append shown_call shown_before later.more)))

    -- before the step
    before_shown : show_replies t ≡ true → list_all (shows_taken before_course) t.machine.links ≡ true
    before_shown old = by step.client.now refl step.client.next step.does
      where
        by : (now : Option Doing) → step.client.now ≡ now → (next : Option Request) → option_or now (option_map (begun terms m.event m.tick) next) ≡ Some step.before → list_all (shows_taken before_course) t.machine.links ≡ true
        by (Some doing) is next does =
            let same : doing ≡ step.before = cc in doing_course (λ (course : Course). list_all (shows_taken course) t.machine.links) t who step.client step.before old step.here (is ∙ ap Some same)
        by None is next does =
            by_index (shows_taken before_course) t.machine.links
            (λ index link at.
            strange_taken before_course link
            (doing_strange t who step.client (suc index) link inv.script.owned step.here (ap (λ (doing : Option Doing). option_map_or (λ d. length (held_in d.steps) == 0) doing true) is) at)
            (at_link is_answered_in_order t.machine.links (suc index) link inv.wire.in_order at))

    step_shown : show_replies t ≡ true → list_all (λ (course : Course). list_all (shows_taken course) new.machine.links) (courses_of_clients t.setting 1 new.machine.clients) ≡ true
    step_shown old =
        let before = before_shown old in
        all_step t.setting (λ (course : Course). list_all (shows_taken course) t.machine.links) (λ (course : Course). list_all (shows_taken course) new.machine.links) mine
        (λ course differs. all_took course (λ taking. not_its taking course differs)) m who new.machine step refl
        (λ keep. own_shown (course_now t.setting who (length step.client.past) step.after) refl refl before)
        (λ over. own_shown (course_over who (length step.client.past) (past_of terms step.after)) refl refl before) old

-- EVENTS ------------------------------------------------------------------------------------------

by_move : (t : Traced) (inv : Orderly t) (apart : are_apart t ≡ true) (new : Traced) (items left : List Served) (kind : Noted)
    → ((number : ℕ) (next : Link) → link_at new.machine.links number ≡ Some next → ComesFrom (at_event t.machine) items left kind number next) → Moving t.setting (at_event t.machine) new.machine → show_replies t ≡ true
    → list_all (λ (course : Course). list_all (shows_taken course) new.machine.links) (courses_of_clients t.setting 1 new.machine.clients) ≡ true
by_move t inv apart new items left kind comes (Stepping who step) old = step_shown t inv apart new who step items left kind comes old
by_move t inv apart new items left kind comes (Quietly same stays) old =
    subst (λ (clients : List Client). list_all (λ (course : Course). list_all (shows_taken course) new.machine.links) (courses_of_clients t.setting 1 clients) ≡ true) (sym same)
    (weaker_all (λ (course : Course). list_all (shows_taken course) t.machine.links) (λ (course : Course). list_all (shows_taken course) new.machine.links) (courses_of t)
    (λ course so. by_index (shows_taken course) new.machine.links (λ index next there. by course so index next there (comes (suc index) next there))) old)
  where
    by : (course : Course) → list_all (shows_taken course) t.machine.links ≡ true → (index : ℕ) (next : Link) → slice_get new.machine.links index ≡ Some next → ComesFrom (at_event t.machine) items left kind (suc index) next → shows_taken course next ≡ true
    by course so index next there (IsNew owner equal) = ap (shows_taken course) equal ∙ new_shows course (at_event t.machine).event (sent_by owner 0 up.Connect ∷ [])
    by course so index next there (IsOld link was turn) =
        let becomes : Becomes SameOut new.machine.links (suc index) link = stays (suc index) link was in
        let next_is : becomes.next ≡ next = some_same (link_at new.machine.links (suc index)) becomes.next next becomes.there there in
        let taken : next.taken ≡ link.taken = ap (λ (l : Link). l.taken) (sym next_is) ∙ becomes.so.taken in
        ap (list_all (is_shown_reply course)) taken ∙ at_all (shows_taken course) t.machine.links index link so was

start_shown : (courses : List Course) → list_all (λ (course : Course). list_all (shows_taken course) []) courses ≡ true
start_shown [] = refl
start_shown (course ∷ courses) = start_shown courses

event_shown : (before after : Seen) (old new : Traced) (event : Event) (note : Note) (items left : List Served) → OneEvent before old event note items left after new → Invariant old → show_replies old ≡ true → show_replies new ≡ true
event_shown before after old new event note items left one inv shown =
    let by : Followed old.setting old.machine event note items left new.machine = follow_happens old.setting old.machine event note items left new.machine one.follows in
    subst (λ (setting : _). list_all (λ (course : Course). list_all (shows_taken course) new.machine.links) (courses_of_clients setting 1 new.machine.clients) ≡ true) (sym one.setting)
    (by_move old inv.orderly inv.once.apart new items left by.kind (all_turn old.setting (at_event old.machine) (held_now old inv.orderly) items left by.kind new.machine by.happens)
    (moving old.setting (at_event old.machine) items left by.kind new.machine by.happens) shown)

pub runs_show : RunsKeepInvariant → HoldsInRuns show_replies
runs_show keeps document _ _ _ _ _ calls (Begins seen start history horizon coupled) = start_shown (courses_of (traced_start document))
runs_show keeps document _ _ _ _ _ calls (GoesOn events notes items more before after old new event note reached one forgets) =
    event_shown before after old new event note more [] one (keeps document events notes items before old calls reached) (runs_show keeps document events notes items before old calls reached)

pub whole_runs_show : RunsKeepInvariant → HoldsAtEnds show_replies
whole_runs_show keeps document notes items seen t calls run =
    let so = finishing_reached document run.place notes items seen t run.finishing in runs_show keeps document so.0 notes items seen t calls so.1
