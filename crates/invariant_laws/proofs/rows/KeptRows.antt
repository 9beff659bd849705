-- Of Shown: the calls that a request sent on each connection are in a row, at the start and behind
-- each event.
use Rattle.std.proofs.Common.{◌≡◌, ◌≢◌, refl, sym, ap, subst, ◌∙◌, Bool, true, false, ℕ, ◌+◌, ◌&&◌, ◌||◌, length, List, [], ◌∷◌, ◌++◌, map, Option, Some, None}
use Rattle.std.specs.Prelude.{◌==◌, not, is_none, unwrap_or, option_map}
use Rattle.std.specs.List.{list_all, list_any, last_or}
use Rattle.std.specs.Option.{option_or, option_map_or}
use Rattle.std.proofs.lemmas.Bool.{and_parts}
use Rattle.std.proofs.lemmas.List.{append-nil}
use Rattle.outage_schedule.specs.declared.document.Request.{Request}
use Rattle.client_model.specs.declared.act.Hold.{Hold}
use Rattle.client_model.specs.declared.input.Input.{Input}
use Rattle.client_model.specs.declared.input.Input.TheVariants.{Lent}
use Rattle.client_model.specs.meaning.Account.{Account}
use Rattle.client_model.specs.Conversation.{is_wanted, is_gone, may_come}
use Rattle.client_model.specs.Laws.{track_of}
use Rattle.client_model.specs.meaning.States.{Asking}
use Rattle.client_model.specs.meaning.Talk.{wants_of}
use Rattle.client_model.specs.meaning.Terms.{Phase, Queued, Asked}
use Rattle.run_clauses.specs.meaning.Reports.{shown_call}
use Rattle.world_model.specs.meaning.Acting.{frames_of, sent_by, call_in, owner_at}
use Rattle.world_model.specs.meaning.Clients.{Doing, Client, begun, client_at, past_of}
use Rattle.world_model.specs.records.Conversing.{AllTalk}
use Rattle.world_model.specs.meaning.Frames.{Owner, Sent}
use Rattle.world_model.specs.records.Hold.{is_awaited, waits_on, is_held, are_held}
use Rattle.invariant_laws.specs.KeptLaws.{StaysTrue}
use Rattle.world_model.specs.meaning.Links.{Link, link_at}
use Rattle.world_model.specs.meaning.Machines.{Machine}
use Rattle.world_model.specs.meaning.Outside.{closed_by_drain}
use Rattle.world_model.specs.Parts.{implies, is_out, is_answered}
use Rattle.world_model.specs.records.Ready.{is_ready_client}
use Rattle.world_model.specs.Sames.{owned_by}
use Rattle.world_model.specs.records.Script.{owned_rightly, same_digests, recorded_from, keeps, is_kept, account}
use Rattle.world_model.specs.meaning.Settings.{Setting, setting_of}
use Rattle.invariant_laws.specs.Shown.{calls_on, is_current, is_row, in_rows, in_row, first_of, is_scripts}
use Rattle.world_model.specs.Traced.{Traced, Course, course_now, course_over, courses_of_clients, courses_of}
use Rattle.world_model.specs.records.Wire.{stage_of, is_right, in_grammar}
use Rattle.world_model.specs.Words.{held_in}
use Rattle.world_model.proofs.Offered.{at_link, weaker_all, HasStepped, GoesOn, AtOnce, LostToo, MayStep, Still, Closed, Stepped, happens_step, all_step, Followed, follow_happens, at_event, doing_course, spoken_passes, each_passes, before_sent, resting_none, any_of_all, IsDoing, left_held, sent_on_held, course_sent, slot_wanted, sents_pass, PassesAt, passes_from, passes_to, grown_at, link_passes, is_strange, sent_lists, account_now, first_step, first_doing, step_owner, request_after, before_talks, slot_strange, other_owner, eq_from}
use Rattle.invariant_laws.proofs.rows.RowCourses.{row_test, others_row, row_append, strange_row, OnIt, awaits_last}
use Rattle.invariant_laws.proofs.rows.RowHeld.{mine_rows}
use Rattle.invariant_laws.proofs.rows.RowLast.{row_of}
use Rattle.invariant_laws.proofs.rows.RowSteps.{shown_after}

-- OF A REQUEST ------------------------------------------------------------------------------------

abbrev pub rows_at : Course → List (List Sent) → ℕ → Bool
rows_at course lists number = sents_pass (row_test course number) lists number

abbrev pub course_rows : List Link → Course → Bool
course_rows links course = list_all (λ number. option_map_or (λ link. is_row course (is_current course number) (calls_on course link)) (link_at links number) false) (held_in course.steps)

pub by_rows : (links : List Link) (course : Course) (numbers : List ℕ)
    → list_all (λ number. option_map_or (λ link. is_row course (is_current course number) (calls_on course link)) (link_at links number) false) numbers ≡ list_all (rows_at course (sent_lists links)) numbers
by_rows links course [] = refl
by_rows links course (number ∷ numbers) =
    ap (λ (test : Bool). test && list_all (λ number. option_map_or (λ link. is_row course (is_current course number) (calls_on course link)) (link_at links number) false) numbers) (link_passes (row_test course number) links number)
    ∙ ap (λ (rest : Bool). rows_at course (sent_lists links) number && rest) (by_rows links course numbers)

-- where what was sent has no call of it more
still_rows : (a b : List Link) (course : Course) → ((at : ℕ) → rows_at course (sent_lists a) at ≡ true → rows_at course (sent_lists b) at ≡ true) → course_rows a course ≡ true → course_rows b course ≡ true
still_rows a b course still old =
    by_rows b course (held_in course.steps) ∙ weaker_all (rows_at course (sent_lists a)) (rows_at course (sent_lists b)) (held_in course.steps) still (sym (by_rows a course (held_in course.steps)) ∙ old)

no_more : (course : Course) (at : ℕ) (sents more : List Sent) → row_of course.owner more ≡ [] → row_test course at sents ≡ true → row_test course at (sents ++ more) ≡ true
no_more course at sents more none row =
    subst (λ (calls : List Sent). is_row course (is_current course at) calls ≡ true)
    (sym (row_append course.owner sents more ∙ (ap (λ (rest : List Sent). row_of course.owner sents ++ rest) none ∙ append-nil (row_of course.owner sents)))) row

-- of another request than the one that steps
others_rows : (setting : Setting) (m : Machine) (talks : AllTalk setting.terms m.clients) (number : ℕ) (n : Machine) (step : HasStepped setting m number n) (course : Course) → course.owner ≢ record { client = number; place = length step.client.past }
    → course_rows m.links course ≡ true → course_rows n.links course ≡ true
others_rows setting m talks number n step course differs = still_rows m.links n.links course still
  where
    said : List Sent
    said = map (sent_by (owner_at m number) (call_in (first_doing setting m talks number n step).talk.phase)) (frames_of step.pool (unwrap_or step.connection 0) (first_step setting m talks number n step).done.act)

    none : row_of course.owner said ≡ []
    none =
        others_row course.owner (owner_at m number) (call_in (first_doing setting m talks number n step).talk.phase) (frames_of step.pool (unwrap_or step.connection 0) (first_step setting m talks number n step).done.act)
        (other_owner course.owner (owner_at m number) (λ same. differs (same ∙ step_owner setting m talks number n step)))

    still : (at : ℕ) → rows_at course (sent_lists m.links) at ≡ true → rows_at course (sent_lists n.links) at ≡ true
    still at here =
        let is : PassesAt (row_test course at) (sent_lists m.links) at = passes_from (row_test course at) (sent_lists m.links) at here in
        subst (λ (lists : List (List Sent)). rows_at course lists at ≡ true) (sym step.sent_are)
        (spoken_passes (row_test course at) said (λ sents so. no_more course at sents said none so) step.lists (unwrap_or step.connection 0) at
        (passes_to (row_test course at) step.lists at is.sents (grown_at (sent_lists m.links) step.lists at is.sents step.grows is.there) is.passes))

-- THE REQUEST THAT STEPS, BEFORE IT DOES ----------------------------------------------------------

module _ (t : Traced) (m : Machine) (number : ℕ) (n : Machine) (step : HasStepped t.setting m number n) (here : client_at t.machine.clients number ≡ Some step.client) where
  abbrev mine : Owner
  mine = record { client = number; place = length step.client.past }

  abbrev course : Course
  course = course_now t.setting number (length step.client.past) step.before

  pub before_rows : in_rows t ≡ true → course_rows t.machine.links course ≡ true
  before_rows old = by step.client.now refl step.client.next step.does
    where
      by : (now : Option Doing) → step.client.now ≡ now → (next : Option Request) → option_or now (option_map (begun t.setting.terms m.event m.tick) next) ≡ Some step.before → course_rows t.machine.links course ≡ true
      by (Some one) is next does = let same : one ≡ step.before = cc in doing_course (course_rows t.machine.links) t number step.client step.before old here (is ∙ ap Some same)
      by None is (Some request) does =
          let same : begun t.setting.terms m.event m.tick request ≡ step.before = cc in
          subst (λ (d : Doing). course_rows t.machine.links (course_now t.setting number (length step.client.past) d) ≡ true) same refl
      by None is None does = absurd (let none : ⊥ = cc in none)

  -- its connection is one that it held
  pub was_held : AllTalk t.setting.terms m.clients → (at : ℕ) → step.before.connection ≡ Some at → list_any (λ other. other == at) (held_in step.before.steps) ≡ true
  was_held talks at has = left_held None at step.before.steps (λ one never same. let none : ⊥ = cc in none) ((before_talks t.setting m talks number n step).has ∙ has)

  -- and the calls that it sent there are its script's
  pub held_scripts : AllTalk t.setting.terms m.clients → in_rows t ≡ true → (at : ℕ) (link : Link) → step.before.connection ≡ Some at → link_at t.machine.links at ≡ Some link → list_all (λ sent. is_scripts course sent sent.frame) (row_of mine link.sent) ≡ true
  held_scripts talks rows at link has there =
      let row : option_map_or (λ l. is_row course (is_current course at) (calls_on course l)) (link_at t.machine.links at) false ≡ true =
      any_of_all (λ k. option_map_or (λ l. is_row course (is_current course k) (calls_on course l)) (link_at t.machine.links k) false) (held_in step.before.steps) at (before_rows rows) (was_held talks at has) in
      let here : is_row course (is_current course at) (row_of mine link.sent) ≡ true = subst (λ (found : Option Link). option_map_or (λ l. is_row course (is_current course at) (calls_on course l)) found false ≡ true) there row in
      let one = and_parts (in_row (option_map_or (λ sent. sent.call) (first_of (row_of mine link.sent)) 0) (row_of mine link.sent)) _ here in
      (and_parts (list_all (λ sent. is_scripts course sent sent.frame) (row_of mine link.sent)) _ one.1).0

  -- what it keeps to be repeated, where it asked for an outcome
  asked_keeps : (asking : Asking) → step.before.talk.phase ≡ Asked asking → asking.track.why ≡ None → is_kept t course ≡ true
      → length asking.track.recorder.calls + recorded_from (map shown_call (account_now t.setting.terms step.before).shown) ≡ asking.track.call
  asked_keeps asking is why holds =
      let told : Account = account t course in
      let keeps_so : keeps t course told asking.track ≡ true = subst (λ (phase : Phase). option_map_or (keeps t course told) (track_of phase) true ≡ true) is holds in
      let one = and_parts (asking.track.call == length told.shown) _ keeps_so in
      let two = and_parts _ _ one.1 in
      let three = and_parts (implies (is_none asking.track.why) (same_digests asking.track.recorder.calls told.since_purge && (length asking.track.recorder.calls + recorded_from course.report.calls == asking.track.call))) _ two.1 in
      let recorded = subst (λ (w : Option _). implies (is_none w) (same_digests asking.track.recorder.calls told.since_purge && (length asking.track.recorder.calls + recorded_from course.report.calls == asking.track.call)) ≡ true) why three.0 in
      eq_from (length asking.track.recorder.calls + recorded_from course.report.calls) asking.track.call
      (and_parts (same_digests asking.track.recorder.calls told.since_purge) (length asking.track.recorder.calls + recorded_from course.report.calls == asking.track.call) recorded).1

  pub before_kept : list_all (is_kept t) (courses_of t) ≡ true → (asking : Asking) → step.before.talk.phase ≡ Asked asking → asking.track.why ≡ None
      → length asking.track.recorder.calls + recorded_from (map shown_call (account_now t.setting.terms step.before).shown) ≡ asking.track.call
  before_kept old asking phase why = by step.client.now refl step.client.next step.does
    where
      by : (now : Option Doing) → step.client.now ≡ now → (next : Option Request) → option_or now (option_map (begun t.setting.terms m.event m.tick) next) ≡ Some step.before
          → length asking.track.recorder.calls + recorded_from (map shown_call (account_now t.setting.terms step.before).shown) ≡ asking.track.call
      by (Some one) is next does = let same : one ≡ step.before = cc in asked_keeps asking phase why (doing_course (is_kept t) t number step.client step.before old here (is ∙ ap Some same))
      by None is (Some request) does =
          let same : begun t.setting.terms m.event m.tick request ≡ step.before = cc in
          let e : Queued None ≡ Asked asking = ap (λ (d : Doing). d.talk.phase) same ∙ phase in
          absurd (let never : ⊥ = cc in never)
      by None is None does = absurd (let none : ⊥ = cc in none)

  -- what is out on its connection
  pub before_on : are_held t ≡ true → in_grammar t ≡ true → (connection : ℕ) → step.before.connection ≡ Some connection → OnIt t.machine.links mine step.before.connection step.before.talk.phase
  before_on held grammar connection has = by step.client.now refl step.client.next step.does
    where
      found : (link : Option Link) → link_at t.machine.links connection ≡ link → option_map_or (waits_on course) link false ≡ true → OnIt t.machine.links mine step.before.connection step.before.talk.phase
      found None there waits = absurd (let none : ⊥ = cc in none)
      found (Some link) there waits =
          awaits_last t.machine.links mine step.before.connection step.before.talk.phase connection link has there (at_link (λ l. is_right (stage_of l)) t.machine.links connection link grammar there)
          (and_parts (is_out link) (option_map_or (λ sent. is_answered sent.frame && (owned_by mine sent && is_awaited step.before.talk.phase sent)) (last_or None link.sent) false) waits).1

      by : (now : Option Doing) → step.client.now ≡ now → (next : Option Request) → option_or now (option_map (begun t.setting.terms m.event m.tick) next) ≡ Some step.before → OnIt t.machine.links mine step.before.connection step.before.talk.phase
      by (Some one) is next does =
          let same : one ≡ step.before = cc in
          let so : is_held t course ≡ true = doing_course (is_held t) t number step.client step.before held here (is ∙ ap Some same) in
          let waits = (and_parts _ (option_map_or (λ k. option_map_or (waits_on course) (link_at t.machine.links k) false) step.before.connection true) so).1 in
          found (link_at t.machine.links connection) refl (subst (λ (c : Option ℕ). option_map_or (λ k. option_map_or (waits_on course) (link_at t.machine.links k) false) c true ≡ true) has waits)
      by None is (Some request) does =
          let same : begun t.setting.terms m.event m.tick request ≡ step.before = cc in
          let e : None ≡ Some connection = ap (λ (d : Doing). d.connection) same ∙ has in
          absurd (let never : ⊥ = cc in never)
      by None is None does = absurd (let none : ⊥ = cc in none)

-- the connection that it has behind the step is the one on which it spoke
left_on : (setting : Setting) (first : Doing) (held : Hold) (after : Doing) (kept : Hold) → GoesOn setting first held after kept → (at : ℕ) → after.connection ≡ Some at → first.connection ≡ Some at
left_on setting first held _ _ AtOnce at has = has
left_on setting first held _ _ (LostToo event tick ended is) at has = absurd (let none : ⊥ = cc in none)

-- EVENTS ------------------------------------------------------------------------------------------

module _ (t : Traced) (m n : Machine) (clients : m.clients ≡ t.machine.clients) (links : m.links ≡ t.machine.links) (talks : AllTalk t.setting.terms m.clients)
    (ready : list_all (is_ready_client t.setting.terms) m.clients ≡ true) (owned : owned_rightly (courses_of t) 1 t.machine.links ≡ true)
    (kept : list_all (is_kept t) (courses_of t) ≡ true) (sent : list_all (course_sent t.machine.links) (courses_of t) ≡ true) (held : are_held t ≡ true) (grammar : in_grammar t ≡ true) (old : in_rows t ≡ true) where
  steps_rows : (number : ℕ) (step : HasStepped t.setting m number n) (d : Course) → d.owner ≡ record { client = number; place = length step.client.past } → d.steps ≡ step.after.steps
      → d.report.calls ≡ map shown_call (account_now t.setting.terms step.after).shown → d.request ≡ step.after.request → ((at : ℕ) → d.connection ≡ Some at → step.after.connection ≡ Some at) → course_rows n.links d ≡ true
  steps_rows number step d owner steps report request connection =
      by_rows n.links d (held_in d.steps)
      ∙ subst (λ (o : Owner). list_all (λ at. sents_pass (λ s. is_row d (is_current d at) (row_of o s)) (sent_lists n.links) at) (held_in d.steps) ≡ true) (sym owner)
      (subst (λ (s : List _). list_all (λ at. sents_pass (λ s. is_row d (is_current d at) (row_of mine_owner s)) (sent_lists n.links) at) (held_in s) ≡ true) (sym steps)
      (mine_rows t.setting m talks number n step (before_kept t m number n step here kept) d (report ∙ ap (λ shown. map shown_call shown) (shown_after t.setting m talks number n step))
      (ap (λ (r : Request). r.calls) (request ∙ request_after t.setting m talks number n step))
      (λ at has. subst (λ (all : List Link). OnIt all mine_owner step.before.connection step.before.talk.phase) (sym links) (before_on t m number n step here held grammar at has)) strange
      (λ at has. left_on t.setting (first_doing t.setting m talks number n step) _ step.after step.held step.goes_on at (connection at has))
      (subst (λ (all : List Link). list_all (rows_at (course_now t.setting number (length step.client.past) step.before) (sent_lists all)) (held_in step.before.steps) ≡ true) (sym links)
      (sym (by_rows t.machine.links (course_now t.setting number (length step.client.past) step.before) (held_in step.before.steps)) ∙ before_rows t m number n step here old))
      (subst (λ (all : List Link). sent_on_held mine_owner step.before.steps (sent_lists all) ≡ true) (sym links) (before_sent t m number n step here sent))))
    where
      mine_owner : Owner
      mine_owner = record { client = number; place = length step.client.past }

      here : client_at t.machine.clients number ≡ Some step.client
      here = subst (λ (all : List Client). client_at all number ≡ Some step.client) clients step.here

      strange : (connection : ℕ) (link : Link) (ltxid : _) → step.input ≡ Lent connection ltxid → link_at m.links connection ≡ Some link → row_of mine_owner link.sent ≡ []
      strange connection link ltxid is there =
          let may : may_come false (wants_of t.setting.terms step.before.talk m.tick) (Lent connection ltxid) ≡ true = subst (λ (i : Input). may_come false (wants_of t.setting.terms step.before.talk m.tick) i ≡ true) is step.may in
          let wanted = (and_parts (is_wanted (wants_of t.setting.terms step.before.talk m.tick) (Lent connection ltxid)) (is_gone (Lent connection ltxid) || not false) may).0 in
          let doing : IsDoing t.setting m number step.before _ = record { client = step.client; here = step.here; does = step.does; wants = slot_wanted (wants_of t.setting.terms step.before.talk m.tick) connection ltxid wanted } in
          strange_row mine_owner link.sent
          (subst (λ (owner : Owner). is_strange owner link ≡ true) (step_owner t.setting m talks number n step) (slot_strange t m number step.before connection link clients links ready owned doing there))

  may_row : MayStep t.setting m n → list_all (course_rows n.links) (courses_of_clients t.setting 1 n.clients) ≡ true
  may_row (Still same sents) =
      subst (λ (c : List Client). list_all (course_rows n.links) (courses_of_clients t.setting 1 c) ≡ true) (sym (same ∙ clients))
      (weaker_all (course_rows t.machine.links) (course_rows n.links) (courses_of t)
      (λ course. still_rows t.machine.links n.links course (λ at here. subst (λ (lists : List (List Sent)). rows_at course lists at ≡ true) (sym (sents ∙ ap sent_lists links)) here)) old)
  may_row (Closed same sents) =
      subst (λ (c : List Client). list_all (course_rows n.links) (courses_of_clients t.setting 1 c) ≡ true) (sym (same ∙ clients))
      (weaker_all (course_rows t.machine.links) (course_rows n.links) (courses_of t) (λ course. still_rows t.machine.links n.links course (closed course)) old)
    where
      closed : (course : Course) (at : ℕ) → rows_at course (sent_lists t.machine.links) at ≡ true → rows_at course (sent_lists n.links) at ≡ true
      closed course at here =
          subst (λ (lists : List (List Sent)). rows_at course lists at ≡ true) (sym sents)
          (each_passes (row_test course at) (closed_by_drain ∷ []) (λ all so. no_more course at all (closed_by_drain ∷ []) refl so) (sent_lists m.links) m.pool.idle at
          (subst (λ (all : List Link). rows_at course (sent_lists all) at ≡ true) (sym links) here))
  may_row (Stepped number step) =
      all_step t.setting (course_rows m.links) (course_rows n.links) (record { client = number; place = length step.client.past }) (others_rows t.setting m talks number n step) m number n step refl
      (λ keep. steps_rows number step (course_now t.setting number (length step.client.past) step.after) refl refl refl refl (λ at has. has))
      (λ over. steps_rows number step (course_over number (length step.client.past) (past_of t.setting.terms step.after)) refl refl refl refl (λ at has. absurd (let none : ⊥ = cc in none)))
      (subst (λ (all : List Link). list_all (course_rows all) (courses_of_clients t.setting 1 m.clients) ≡ true) (sym links)
      (subst (λ (c : List Client). list_all (course_rows t.machine.links) (courses_of_clients t.setting 1 c) ≡ true) (sym clients) old))

pub rows_law : StaysTrue in_rows
rows_law = record {
  at_start = λ document. resting_none (setting_of document) 1 (course_rows []) document.clients;
  at_event = λ before after old new event note items left one inv rows.
      let by : Followed old.setting old.machine event note items left new.machine = follow_happens old.setting old.machine event note items left new.machine one.follows in
      subst (λ (setting : Setting). list_all (course_rows new.machine.links) (courses_of_clients setting 1 new.machine.clients) ≡ true) (sym one.setting)
      (may_row old (at_event old.machine) new.machine refl refl inv.script.talks inv.script.ready inv.script.owned inv.script.kept inv.script.sent inv.hold.held inv.wire.grammar rows
      (happens_step old.setting (at_event old.machine) items left by.kind new.machine by.happens));
}
