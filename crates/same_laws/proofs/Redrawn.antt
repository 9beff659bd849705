-- Wherever a run has come to, a repeated call drew the granted values that were shown of it.
use Rattle.std.proofs.Common.{◌≡◌, refl, sym, ap, subst, ◌∙◌, ℕ, ◌&&◌, Bool, true, false, List, [], ◌∷◌, ◌++◌, map, filter, length, Option, Some, None, ◌⊎◌, inl, inr, arith, fold}
use Rattle.std.specs.Prelude.{◌==◌, Contains, is_none, is_some, slice_get}
use Rattle.std.specs.List.{list_all, list_any}
use Rattle.std.specs.Option.{option_map_or}
use Rattle.std.proofs.lemmas.Bool.{and_parts, or_cases}
use Rattle.std.proofs.lemmas.List.{map-append}
use Rattle.svc_values.specs.declared.answer.Answer.{Answer}
use Rattle.svc_values.specs.declared.call.Call.{Call}
use Rattle.svc_values.specs.declared.draw.Draw.{Draw}
use Rattle.svc_values.specs.declared.entry.SessionId.{SessionId}
use Rattle.svc_values.specs.declared.frame.Down.TheVariants as down
use Rattle.svc_values.specs.declared.frame.Up.{Up}
use Rattle.svc_values.specs.declared.frame.Up.TheVariants as up
use Rattle.svc_values.specs.meaning.Calls.{is_lone_commit}
use Rattle.svc_values.specs.meaning.Endings.{ends_committed}
use Rattle.svc_values.specs.meaning.Identifiers.{same_session}
use Rattle.svc_values.specs.meaning.Same.{same_answers, same_bool, same_call, same_draws}
use Rattle.svc_values.specs.meaning.SettingsList.{NamedValues}
use Rattle.svc_values.specs.SameLaws.{same_answers_decide, same_call_decides, same_draws_decide}
use Rattle.outage_schedule.specs.declared.document.Document.{Document}
use Rattle.outage_schedule.specs.declared.event.Event.{Event}
use Rattle.outage_schedule.specs.declared.item.Item.{Item}
use Rattle.outage_schedule.specs.declared.item.Item.TheVariants as item
use Rattle.outage_schedule.specs.declared.item.Served.{Served}
use Rattle.outage_schedule.specs.declared.note.Note.{Note}
use Rattle.outage_schedule.specs.declared.request.ShownCall.{ShownCall}
use Rattle.run_clauses.specs.meaning.ServiceBase.{service_base}
use Rattle.server_model.specs.meaning.Base.{Base}
use Rattle.server_model.specs.Items.{items_of}
use Rattle.server_model.specs.Laws.{RunsLegal}
use Rattle.server_model.specs.meaning.Legal.{legal}
use Rattle.server_model.specs.meaning.NewValues.{grants}
use Rattle.server_model.specs.meaning.Outcomes.{Telling, Says}
use Rattle.server_model.specs.Redraws.{HasServed, settings_behind}
use Rattle.server_model.specs.Runs.{Happened, Server, Served as ServedFrame}
use Rattle.server_model.specs.Seen.{Seen}
use Rattle.server_model.proofs.Offered.{legal_redraws, marked_stores_none}
use Rattle.world_model.specs.records.Basic.{first_is_connect, is_named}
use Rattle.invariant_laws.specs.Begins.{begins_followed, carries_on, settings_before}
use Rattle.world_model.specs.Coupled.{Coupled}
use Rattle.world_model.specs.meaning.Frames.{Sent, Handled}
use Rattle.invariant_laws.specs.Invariant.{Invariant}
use Rattle.invariant_laws.specs.KeptLaws.{RunsKeepInvariant}
use Rattle.world_model.specs.meaning.Links.{Link, link_at}
use Rattle.world_model.specs.Parts.{implies}
use Rattle.world_model.specs.Reached.{Reached}
use Rattle.world_model.specs.records.Ready.{all_requests_right}
use Rattle.once_laws.specs.Redrawn.{redraws, one_redraws, redraws_on, repeats_redraw, RepeatsRedraw, WholeRepeatsRedraw}
use Rattle.invariant_laws.specs.Same.{granted_by}
use Rattle.invariant_laws.specs.SameLaws.{RunsServe}
use Rattle.world_model.specs.Sames.{owned_by}
use Rattle.world_model.specs.records.Script.{carries_draws, has_shown_draws}
use Rattle.invariant_laws.specs.SessionHistory.{served_in, told_of}
use Rattle.invariant_laws.specs.Shown.{all_from, calls_on, has_completed, is_call, is_current, is_from, is_row, is_scripts, is_shown_item, item_shows, link_shows, rows_on, shows_commit}
use Rattle.world_model.specs.Traced.{Traced, Course, courses_of}
use Rattle.world_model.specs.records.Wire.{handled_from, is_right, is_sent_front, stage_of}
use Rattle.world_model.specs.Words.{held_in}
use Rattle.world_model.proofs.Offered.{at_link, at_all, carries, finishing_reached, reached_coupled, reached_start, eq_from}
use Rattle.once_laws.proofs.Offered.{follows, commit_ends, from_at, InRow, held_so, row_at, carries_alike, pass_split, sent_split}
use Rattle.same_laws.proofs.ServedCalls.{Among, IsCall, all_split, any_split, call_is, contains_split, handled_split, served_at}
use Rattle.same_laws.proofs.ToldSettings.{history_settings, set_told, told_mapped}
use Rattle.same_laws.proofs.ServedSettings.{call_settings}

-- A RUN -------------------------------------------------------------------------------------------

module _ (keeps : RunsKeepInvariant) (serve : RunsServe) (runs_legal : RunsLegal) (document : Document) (events : List Event) (notes : List Note) (items : List Served) (seen : Seen) (t : Traced) (calls : all_requests_right document ≡ true)
    (reached : Reached document events notes items seen t) where
  abbrev whole : Invariant t
  whole = keeps document events notes items seen t calls reached

  abbrev coupled : Coupled seen t
  coupled = reached_coupled document events notes items seen t reached

  abbrev server : Server
  server = coupled.history.server

  legal_so_far : legal seen.start (items_of seen.history) server.core.entries server.core.alerts ≡ true
  legal_so_far = runs_legal seen.start seen.history server coupled.sound coupled.history.runs coupled.stops

  -- a connection that served something has a session
  its_session : (link : Link) → is_named link ≡ true → (front : List Handled) (one : Handled) (rest : List Handled) → link.served ≡ front ++ one ∷ rest → (session : SessionId) × (link.session ≡ Some session)
  its_session link named front one rest is =
      by link.session refl (pass_split (λ h. option_map_or (same_session h.served.session) link.session false) front one rest (subst (λ (all : List Handled). list_all (λ h. option_map_or (same_session h.served.session) link.session false) all ≡ true) is owned))
    where
      owned : list_all (λ h. option_map_or (same_session h.served.session) link.session false) link.served ≡ true
      owned =
          let one = and_parts (same_bool (is_some link.session) (first_is_connect link.served)) _ named in
          let two = and_parts (implies (is_none link.session) (length link.served == 0)) _ one.1 in
          (and_parts (list_all (λ h. option_map_or (same_session h.served.session) link.session false) link.served) _ two.1).0

      by : (found : Option SessionId) → link.session ≡ found → option_map_or (same_session one.served.session) found false ≡ true → (session : SessionId) × (link.session ≡ Some session)
      by None there named = absurd (let none : ⊥ = cc in none)
      by (Some session) there named = (session, there)

  -- a call of the history, which ran in these settings
  record KnownCall (mark : Bool) (kept : List Draw) (call : Call) (answers : List Answer) (draws : List Draw) (known : NamedValues) : Type 0 where
    served : HasServed seen.history mark kept call answers draws
    told : settings_behind (items_of served.before) served.session ≡ known

  -- a call of the request that a connection served is in the history, and ran in the settings of
  -- its index
  record OfCall (course : Course) (one : Handled) (mark : Bool) (call : Call) (answers : List Answer) (draws : List Draw) : Type 0 where
    kept : List Draw
    is_known : KnownCall mark kept call answers draws (settings_before course.request one.sent.call)
    frame : one.sent.frame ≡ up.Call mark kept call

  in_its_row : (course : Course) (current : Bool) (number : ℕ) (link : Link) → link_at t.machine.links number ≡ Some link → is_row course current (calls_on course link) ≡ true → InRow course link.served
  in_its_row = row_at t whole.orderly

  served_call : (course : Course) (number : ℕ) (link : Link) → link_at t.machine.links number ≡ Some link → InRow course link.served → carries_on course link ≡ true → (front : List Handled) (one : Handled) (rest : List Handled) → link.served ≡ front ++ one ∷ rest → owned_by course.owner one.sent ≡ true
      → (mark : Bool) (call : Call) (answers : List Answer) (draws : List Draw) → one.served.item ≡ item.Call mark call answers draws → OfCall course one mark call answers draws
  served_call course number link there row begun front one rest is own mark call answers draws item_is =
      let handled = handled_split 0 front one rest (subst (λ (all : List Handled). handled_from 0 all ≡ true) is row.handled) in
      let told : IsCall one mark call answers draws = call_is handled.0 one mark call answers draws item_is handled.1 in
      let its = its_session link (at_link is_named t.machine.links number link whole.orderly.basic.named there) front one rest is in
      let frame : Up = up.Call mark told.kept call in
      let said : Telling = Says (down.Reply answers draws told.next) in
      let has : served_in seen.history its.0 ≡ map told_of front ++ (frame, said) ∷ map told_of rest =
      serve document events notes items seen t calls reached number link its.0 there its.1 ∙ ap (map told_of) is ∙ map-append told_of front (one ∷ rest)
      ∙ (λ i. map told_of front ++ (told.frame i, told.told i) ∷ map told_of rest) in
      let at = served_at seen.history its.0 (map told_of front) frame said (map told_of rest) has in
      record {
        kept = told.kept;
        is_known = record {
          served = record { before = at.before; session = its.0; now = at.now; next = told.next; behind = at.behind; is = at.is };
          told =
              history_settings its.0 at.before 0 [] ∙ ap (fold set_told []) at.served_before ∙ told_mapped front []
              ∙ call_settings course link (at_link is_sent_front t.machine.links number link whole.orderly.wire.sent there) (at_link (λ l. is_right (stage_of l)) t.machine.links number link whole.orderly.wire.grammar there) row begun
              (at_link begins_followed t.machine.links number link whole.followed there) front one rest is mark told.kept call told.frame own;
        };
        frame = told.frame;
      }

  -- where a shown call was served first, unless a commit was told by its outcome alone
  record FirstTime (course : Course) (index : ℕ) (call : Call) (shown : ShownCall) : Type 0 where
    kept : List Draw
    is_known : KnownCall false kept call shown.answers shown.draws (settings_before course.request index)

  first_time : (course : Course) → list_all (λ number. option_map_or (λ link. is_row course (is_current course number) (calls_on course link)) (link_at t.machine.links number) false) (held_in course.steps) ≡ true → list_all (carries_on course) t.machine.links ≡ true
      → (index : ℕ) (call : Call) (shown : ShownCall) → is_from (has_completed course) t course index (Some call) shown ≡ true → ends_committed shown.answers ≡ false → FirstTime course index call shown
  first_time course rows begun index call shown from other =
      by (or_cases (list_any (link_shows t course index call shown) (held_in course.steps)) (is_lone_commit call && (shows_commit shown && has_completed course)) from)
    where
      at_item : (number : ℕ) (link : Link) → link_at t.machine.links number ≡ Some link → is_row course (is_current course number) (calls_on course link) ≡ true → (among : Among (item_shows course index call shown) link.served)
          → owned_by course.owner among.one.sent ≡ true → among.one.sent.call ≡ index → (i : Item) → among.one.served.item ≡ i → is_shown_item call shown i ≡ true → FirstTime course index call shown
      at_item number link there row among own at (item.Call false served answers draws) item_is is =
          let of =
          served_call course number link there (in_its_row course (is_current course number) number link there row) (at_link (carries_on course) t.machine.links number link begun there) among.front among.one among.rest among.is own false served answers draws item_is in
          let parts = and_parts (same_call served call) (same_answers answers shown.answers && same_draws draws shown.draws) is in
          let more = and_parts (same_answers answers shown.answers) (same_draws draws shown.draws) parts.1 in
          record {
            kept = of.kept;
            is_known =
                subst (λ (k : ℕ). KnownCall false of.kept call shown.answers shown.draws (settings_before course.request k)) at
                (subst (λ (c : Call). KnownCall false of.kept c shown.answers shown.draws (settings_before course.request among.one.sent.call)) ((same_call_decides served call).0 parts.0)
                (subst (λ (a : List Answer). KnownCall false of.kept served a shown.draws (settings_before course.request among.one.sent.call)) ((same_answers_decide answers shown.answers).0 more.0)
                (subst (λ (d : List Draw). KnownCall false of.kept served answers d (settings_before course.request among.one.sent.call)) ((same_draws_decide draws shown.draws).0 more.1) of.is_known)));
          }
      at_item number link there row among own at i item_is is = absurd (let none : ⊥ = cc in none)

      at_link_found : (number : ℕ) (found : Option Link) → link_at t.machine.links number ≡ found → option_map_or (λ link. is_row course (is_current course number) (calls_on course link)) found false ≡ true
          → option_map_or (λ link. list_any (item_shows course index call shown) link.served) found false ≡ true → FirstTime course index call shown
      at_link_found number None there row any = absurd (let none : ⊥ = cc in none)
      at_link_found number (Some link) there row any =
          let among = any_split (item_shows course index call shown) link.served any in
          let parts = and_parts (owned_by course.owner among.one.sent) ((among.one.sent.call == index) && is_shown_item call shown among.one.served.item) among.passes in
          let more = and_parts (among.one.sent.call == index) (is_shown_item call shown among.one.served.item) parts.1 in
          at_item number link there row among parts.0 (eq_from among.one.sent.call index more.0) among.one.served.item refl more.1

      by : (list_any (link_shows t course index call shown) (held_in course.steps) ≡ true) ⊎ ((is_lone_commit call && (shows_commit shown && has_completed course)) ≡ true) → FirstTime course index call shown
      by (inl any) =
          let found = any_split (link_shows t course index call shown) (held_in course.steps) any in
          at_link_found found.one (link_at t.machine.links found.one) refl
          (pass_split (λ number. option_map_or (λ link. is_row course (is_current course number) (calls_on course link)) (link_at t.machine.links number) false) found.front found.one found.rest
          (subst (λ (all : List ℕ). list_all (λ number. option_map_or (λ link. is_row course (is_current course number) (calls_on course link)) (link_at t.machine.links number) false) all ≡ true) found.is rows))
          found.passes
      by (inr lone) =
          let committed : ends_committed shown.answers ≡ true = commit_ends shown (and_parts (shows_commit shown) (has_completed course) (and_parts (is_lone_commit call) (shows_commit shown && has_completed course) lone).1).0 in
          absurd (let clash : true ≡ false = sym committed ∙ other in let none : ⊥ = cc in none)

  -- no call with the mark is answered Committed
  marked_open : (kept : List Draw) (call : Call) (answers : List Answer) (draws : List Draw) → HasServed seen.history true kept call answers draws → ends_committed answers ≡ false
  marked_open kept call answers draws served =
      let one : Happened = ServedFrame served.session served.now (up.Call true kept call) (Says (down.Reply answers draws served.next)) in
      marked_stores_none seen.start seen.history server coupled.history.runs served.session served.now kept call answers draws served.next
      (subst (λ (all : List Happened). Contains all one) (sym served.is) (contains_split served.before one served.behind))

  -- ONE CALL --------------------------------------------------------------------------------------

  module _ (course : Course) (rows : list_all (λ number. option_map_or (λ link. is_row course (is_current course number) (calls_on course link)) (link_at t.machine.links number) false) (held_in course.steps) ≡ true) (begun : list_all (carries_on course) t.machine.links ≡ true)
      (number : ℕ) (link : Link) (there : link_at t.machine.links number ≡ Some link) (row : InRow course link.served) (marks : carries_draws course link ≡ true)
      (from : all_from (has_completed course) t course 0 course.report.calls ≡ true) where
    abbrev sent : is_sent_front link ≡ true
    sent = at_link is_sent_front t.machine.links number link whole.orderly.wire.sent there

    module _ (front : List Handled) (one : Handled) (rest : List Handled) (is : link.served ≡ front ++ one ∷ rest) (own : owned_by course.owner one.sent ≡ true) (kept : List Draw) (call : Call) (frame : one.sent.frame ≡ up.Call true kept call) where
      -- it is the script's
      script_call : slice_get course.request.calls one.sent.call ≡ Some call
      script_call = by (slice_get course.request.calls one.sent.call) refl follow
        where
          follow : option_map_or (same_call call) (slice_get course.request.calls one.sent.call) false ≡ true
          follow =
              sym (ap (λ (mine : Bool). implies (mine && true) (option_map_or (same_call call) (slice_get course.request.calls one.sent.call) false)) own)
              ∙ subst (λ (f : Up). implies (owned_by course.owner one.sent && is_call f) (is_scripts course one.sent f) ≡ true) frame
              (pass_split (follows course) (map (λ h. h.sent) front) one.sent (map (λ h. h.sent) rest) (subst (λ (all : List Sent). list_all (follows course) all ≡ true) (ap (map (λ (h : Handled). h.sent)) is ∙ map-append (λ (h : Handled). h.sent) front (one ∷ rest)) row.scripts))

          by : (found : Option Call) → slice_get course.request.calls one.sent.call ≡ found → option_map_or (same_call call) found false ≡ true → slice_get course.request.calls one.sent.call ≡ Some call
          by None at same = absurd (let none : ⊥ = cc in none)
          by (Some other) at same = at ∙ ap Some (sym ((same_call_decides call other).0 same))

      -- and brought the draws that were shown
      kept_shown : (shown : ShownCall) → slice_get course.report.calls one.sent.call ≡ Some shown → kept ≡ shown.draws
      kept_shown shown at =
          (same_draws_decide kept shown.draws).0
          (sym (ap (λ (found : Option ShownCall). option_map_or (λ (s : ShownCall). same_draws kept s.draws) found false) at)
          ∙ (sym (ap (λ (mine : Bool). implies mine (has_shown_draws course one.sent.call (up.Call true kept call))) own)
          ∙ subst (λ (f : Up). implies (owned_by course.owner one.sent) (has_shown_draws course one.sent.call f) ≡ true) frame (sent_split (carries course) (carries_alike course) link sent marks front one rest is)))

    again_right : (front : List Handled) (one : Handled) (rest : List Handled) → link.served ≡ front ++ one ∷ rest → owned_by course.owner one.sent ≡ true → (call : Call) (answers : List Answer) (draws : List Draw) → one.served.item ≡ item.Call true call answers draws
        → (shown : ShownCall) → slice_get course.report.calls one.sent.call ≡ Some shown → same_answers answers shown.answers ≡ true
        → same_draws (filter (granted_by document) draws) (filter (granted_by document) shown.draws) ≡ true
    again_right front one rest is own call answers draws item_is shown at same =
        let of = served_call course number link there row (at_link (carries_on course) t.machine.links number link begun there) front one rest is own true call answers draws item_is in
        let answers_are : answers ≡ shown.answers = (same_answers_decide answers shown.answers).0 same in
        let known : NamedValues = settings_before course.request one.sent.call in
        let second : KnownCall true shown.draws call shown.answers draws known =
        subst (λ (a : List Answer). KnownCall true shown.draws call a draws known) answers_are
        (subst (λ (k : List Draw). KnownCall true k call answers draws known) (kept_shown front one rest is own of.kept call of.frame shown at) of.is_known) in
        let come : is_from (has_completed course) t course one.sent.call (Some call) shown ≡ true =
        subst (λ (found : Option Call). is_from (has_completed course) t course one.sent.call found shown ≡ true) (script_call front one rest is own of.kept call of.frame)
        (from_at (has_completed course) t course 0 course.report.calls one.sent.call one.sent.call shown (omega arith) from at) in
        let first = first_time course rows begun one.sent.call call shown come (marked_open shown.draws call shown.answers draws second.served) in
        let start : seen.start ≡ service_base document = reached_start document events notes items seen t reached in
        (same_draws_decide (filter (granted_by document) draws) (filter (granted_by document) shown.draws)).1
        (subst (λ (base : Base). filter (grants base) draws ≡ filter (grants base) shown.draws) start
        (legal_redraws seen.start seen.history server.core.entries server.core.alerts legal_so_far false first.kept call shown.answers shown.draws draws first.is_known.served second.served (inl (first.is_known.told ∙ sym second.told))))

    link_right : redraws_on (granted_by document) course link ≡ true
    link_right = all_split (one_redraws (granted_by document) course) link.served (λ front one rest is. right front one rest is)
      where
        right : (front : List Handled) (one : Handled) (rest : List Handled) → link.served ≡ front ++ one ∷ rest → one_redraws (granted_by document) course one ≡ true
        right front one rest is = by (owned_by course.owner one.sent) refl one.served.item refl
          where
            by_shown : owned_by course.owner one.sent ≡ true → (call : Call) (answers : List Answer) (draws : List Draw) → one.served.item ≡ item.Call true call answers draws → (found : Option ShownCall) → slice_get course.report.calls one.sent.call ≡ found
                → option_map_or (λ shown. implies (same_answers answers shown.answers) (same_draws (filter (granted_by document) draws) (filter (granted_by document) shown.draws))) found true ≡ true
            by_shown own call answers draws item_is None at = refl
            by_shown own call answers draws item_is (Some shown) at = by_test (same_answers answers shown.answers) refl
              where
                by_test : (test : Bool) → same_answers answers shown.answers ≡ test → implies test (same_draws (filter (granted_by document) draws) (filter (granted_by document) shown.draws)) ≡ true
                by_test false test_is = refl
                by_test true test_is = again_right front one rest is own call answers draws item_is shown at test_is

            by : (mine : Bool) → owned_by course.owner one.sent ≡ mine → (i : Item) → one.served.item ≡ i → implies mine (redraws (granted_by document) course one.sent i) ≡ true
            by false own i item_is = refl
            by true own (item.Call true call answers draws) item_is = by_shown own call answers draws item_is (slice_get course.report.calls one.sent.call) refl
            by true own i item_is = refl

  -- ALL OF THEM -----------------------------------------------------------------------------------

  all_right : repeats_redraw (granted_by document) t ≡ true
  all_right = held_so t whole.orderly whole.shown.rows (redraws_on (granted_by document)) of_link
    where
      of_link : (index : ℕ) (course : Course) (number : ℕ) (link : Link) → slice_get (courses_of t) index ≡ Some course → link_at t.machine.links number ≡ Some link → InRow course link.served → redraws_on (granted_by document) course link ≡ true
      of_link index course number link at there row =
          link_right course (at_all (rows_on t) (courses_of t) index course whole.shown.rows at) (at_all (λ c. list_all (carries_on c) t.machine.links) (courses_of t) index course whole.settings at) number link there row
          (at_link (carries_draws course) t.machine.links number link (at_all (λ c. list_all (carries_draws c) t.machine.links) (courses_of t) index course whole.orderly.script.marks at) there)
          (at_all (λ c. all_from (has_completed c) t c 0 c.report.calls) (courses_of t) index course whole.shown.shown at)

pub runs_redraw : RunsKeepInvariant → RunsServe → RunsLegal → RepeatsRedraw
runs_redraw keeps serve runs_legal document events notes items seen t calls reached = all_right keeps serve runs_legal document events notes items seen t calls reached

pub whole_runs_redraw : RepeatsRedraw → WholeRepeatsRedraw
whole_runs_redraw redraw document notes items seen t calls run = let so = finishing_reached document run.place notes items seen t run.finishing in redraw document so.0 notes items seen t calls so.1
