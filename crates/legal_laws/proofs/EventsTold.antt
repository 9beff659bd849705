-- What a report tells of its service at one event is what the service did then, but for the numbers
-- of its items and what calls without the mark bring.
use Rattle.std.proofs.Common.{◌≡◌, refl, sym, ap, subst, ◌∙◌, ℕ, ◌+◌, ◌<◌, ◌≤◌, ◌&&◌, Bool, true, false, length, List, [], ◌∷◌, ◌++◌, map, Option, Some, None, option_map, arith}
use Rattle.std.specs.Prelude.{◌==◌, ◌*◌, nat_lt, nat_le, not}
use Rattle.std.specs.List.{list_all}
use Rattle.std.proofs.lemmas.Bool.{and_parts}
use Rattle.std.proofs.lemmas.Bool.Decides.{nat_tests}
use Rattle.std.proofs.lemmas.List.Folds.{list_all-append}
use Rattle.svc_values.specs.declared.call.Call.{Call}
use Rattle.svc_values.specs.declared.entry.SessionId.{SessionId}
use Rattle.svc_values.specs.declared.frame.Down.{Down}
use Rattle.svc_values.specs.meaning.Calls.{sequences_in}
use Rattle.svc_values.specs.meaning.Identifiers.{session_of}
use Rattle.outage_schedule.specs.declared.event.Event.{Event}
use Rattle.outage_schedule.specs.declared.event.Event.TheVariants as event
use Rattle.outage_schedule.specs.declared.item.Served.{Served}
use Rattle.outage_schedule.specs.declared.note.AskResult.{AskResult}
use Rattle.outage_schedule.specs.declared.note.AskResult.TheVariants as told
use Rattle.outage_schedule.specs.declared.note.Note.{Note}
use Rattle.outage_schedule.specs.declared.note.Note.TheVariants as note
use Rattle.outage_schedule.specs.declared.note.NoteRun.{NoteRun}
use Rattle.outage_schedule.specs.declared.note.OutsideNote.{OutsideNote}
use Rattle.run_clauses.specs.meaning.Moments.{HappenedAt, Happened as Moment, RanOutside, Asked as AskedAt, moment_of_note, moments_of_notes, in_order}
use Rattle.server_model.specs.meaning.Items.{Thing, Connected, Began, Called, Item, Did, AskTold, thing_of}
use Rattle.server_model.specs.Items.{item_of as item_did}
use Rattle.server_model.specs.meaning.Outcomes.{Says}
use Rattle.server_model.specs.Runs.{Happened, Served as ServedFrame, Asked}
use Rattle.server_model.specs.ServiceCalls.{RunsAre}
use Rattle.service_calls.specs.Answers.{run_of}
use Rattle.shown_clauses.specs.meaning.Fronts.{first_item}
use Rattle.shown_clauses.specs.meaning.KeptDraws.{is_marked_item, kept_at}
use Rattle.shown_clauses.specs.meaning.LegalItems.{kept_if, item_of, calls_of, things_of, all_did, outside_fits, runs_fit, items_at, after_moment, items_from}
use Rattle.shown_clauses.specs.meaning.Links.{after_item, after_happening}
use Rattle.shown_clauses.specs.meaning.Parts.{Part}
use Rattle.shown_clauses.specs.meaning.Places.{Front, with_note, reach, tick_at, noted_at, after_served}
use Rattle.shown_clauses.specs.meaning.Things.{outcome_of, thing_of as thing_told}
use Rattle.world_model.specs.meaning.Crashing.{is_crashed_item, is_stopped, fallen_link}
use Rattle.world_model.specs.meaning.Frames.{Handled}
use Rattle.world_model.specs.meaning.Links.{Link, link_at, with_link}
use Rattle.world_model.specs.meaning.Machines.{Machine, next_session}
use Rattle.world_model.specs.meaning.ServiceDid.{front_telling}
use Rattle.world_model.specs.ServiceDid.{front_served}
use Rattle.world_model.specs.meaning.Serving.{Front as FrameFront, front_at, is_blocked, is_item_of, is_served_by, is_of_front, is_ordinary, outcome_frame, reply_of, commits_after, handled}
use Rattle.world_model.specs.meaning.Settings.{Setting}
use Rattle.invariant_laws.specs.Shown.{is_marked}
use Rattle.shown_laws.specs.Growth.{next_told}
use Rattle.shown_laws.specs.ServedSent.{none_blocked}
use Rattle.shown_laws.specs.Telling.{seen_told, ticks_told}
use Rattle.shown_laws.specs.Unblocked.{serves_unblocked}
use Rattle.shown_laws.proofs.Offered.{at_event, Does, Goes, ServesNone, Serves, CutsNone, Cuts, ReapsNone, Reaps, IsDown, Crashes, CrashStops, CrashServes, Ticks, Drains, IsServers, at_link, IsFront, front_is, with_own, all_changed, blocked_served, fallen_served}
use Rattle.legal_laws.proofs.BareItems.{bare_thing, bare, bare_items}
use Rattle.legal_laws.proofs.EventsDid.{ByNote, RanCalls}
use Rattle.legal_laws.proofs.FrontMoves.{rest_behind, place_told, front_told, Comes, stays_at, tick_here, noted_here, comes_behind}
use Rattle.legal_laws.proofs.MomentsOrder.{AreLater, served_first, noted_first}
use Rattle.legal_laws.proofs.ThingsTold.{if_marked, Brings, ordinary_told, stopped_told}

-- a thing of the history, as it is judged
abbrev pub bare_of : Happened → Item
bare_of happened = bare (item_did 0 happened)

-- What is told of an event, and the front from which the rest is read; the note has as many runs as
-- it may.
pub record OneTold (parts : List Part) (all : List Note) (schedule : List Event) (notes : List Note) (items : List Served) (first : Note) (more : List Served) (others : List Note) (left : List Served) (front : Front) (happened : List Happened) : Type 0 where
  pub now : List Item
  pub next : Front
  pub split : items_from parts all front (in_order (more ++ left) (moments_of_notes (length notes + 1) (first ∷ others))) ≡ now ++ items_from parts all next (in_order left (moments_of_notes ((length notes + 1) + 1) others))
  pub same : bare_items now ≡ map bare_of happened
  pub comes : Comes next (front_told schedule (notes ++ first ∷ []) (items ++ more) others) (length notes + 1)
  pub fits : outside_fits (first_item (rest_behind notes schedule)) first ≡ true

-- an event `outside` is that of the schedule
abbrev pub IsScheduled : Option Event → Event → Type 0
IsScheduled found one = (calls : List Call) → one ≡ event.Outside calls → found ≡ Some one

none_served : (now : ℕ) (front : Option FrameFront) → front_served now front [] ≡ []
none_served now None = refl
none_served now (Some front) = refl

-- RUNS FROM OUTSIDE -------------------------------------------------------------------------------

calls_told : (at now : ℕ) (session : SessionId) (calls : List Call) (runs : List NoteRun) (happened : List Happened) → RunsAre session now calls (map run_of runs) happened
    → bare_items (all_did at now session (things_of calls runs)) ≡ map bare_of happened
calls_told at now session [] [] happened are = ap (map bare_of) (sym are)
calls_told at now session [] (run ∷ runs) happened are = absurd are
calls_told at now session (call ∷ calls) [] happened are = ap (map bare_of) (sym are)
calls_told at now session (call ∷ calls) (run ∷ runs) happened (x, more, (is, are)) =
    ap (λ (items : List Item). Did 0 now session (Called false [] call run.answers run.draws) ∷ items) (calls_told at now session calls runs more are) ∙ ap (map bare_of) (sym is)

runs_are_few : (session : SessionId) (now : ℕ) (calls : List Call) (runs : List NoteRun) (happened : List Happened) → RunsAre session now calls (map run_of runs) happened → length runs ≤ length calls
runs_are_few session now [] [] happened are = omega arith
runs_are_few session now [] (run ∷ runs) happened are = absurd are
runs_are_few session now (call ∷ calls) [] happened are = omega arith
runs_are_few session now (call ∷ calls) (run ∷ runs) happened (x, more, (is, are)) = let few : length runs ≤ length calls = runs_are_few session now calls runs more are in omega (arith, few)

few_is : (a b : ℕ) → a ≤ b → nat_le a b ≡ true
few_is a b few = grind (arith, nat_tests)

answer_told : (at : ℕ) (x : _) (result : AskResult) → bare (AskTold at x (outcome_of result)) ≡ bare_of (Asked x (Says (outcome_frame result)))
answer_told at x (told.Committed completed) = refl
answer_told at x told.Uncommitted = refl
answer_told at x (told.ServerAhead next) = refl
answer_told at x (told.ClientAhead next) = refl
answer_told at x (told.Forgotten horizon) = refl

-- BLOCKS ------------------------------------------------------------------------------------------

-- the item that was served last on a connection
last_plain : (number : ℕ) (end : Link) (links : List Link) (before : List Handled) (one : Handled) → list_all serves_unblocked links ≡ true → link_at links number ≡ Some end → end.served ≡ before ++ one ∷ []
    → not (is_blocked one.served.item && is_marked one.sent.frame) ≡ true
last_plain number end links before one all there same =
    let plain : Handled → Bool = λ h. not (is_blocked h.served.item && is_marked h.sent.frame) in
    let whole : none_blocked (before ++ one ∷ []) ≡ true = subst (λ (served : List Handled). none_blocked served ≡ true) same (at_link serves_unblocked links number end all there) in
    let parts = and_parts (none_blocked before) (none_blocked (one ∷ [])) (sym (list_all-append plain before (one ∷ [])) ∙ whole) in
    (and_parts (plain one) true parts.1).0

-- each item of an event is of it, so of none before
pub items_now : (notes : List Note) (m : Machine) → m.event ≡ length notes → (setting : Setting) (first : Note) (more : List Served) (n : Machine) → Does setting (at_event m) first more n → AreLater (length notes) more
items_now notes m counted setting first more n does = by first more n does
  where
    now : (event : ℕ) (whose : Bool) → ((event == m.event + 1) && whose) ≡ true → length notes < event
    now event whose is = let same : (event == m.event + 1) ≡ true = (and_parts (event == m.event + 1) whose is).0 in grind (arith, nat_tests, counted, same)

    by : (first : Note) (more : List Served) (n : Machine) → Does setting (at_event m) first more n → AreLater (length notes) more
    by _ _ _ (Serves connection name frame served at ordinary) = (now served.event _ (and_parts (is_of_front (at_event m) frame served) (is_item_of frame.first.frame served.item) ordinary).0, tt)
    by _ _ _ (CrashServes connection failover frame served at ordinary) = (now served.event _ (and_parts (is_of_front (at_event m) frame served) (is_item_of frame.first.frame served.item) ordinary).0, tt)
    by _ _ _ (CrashStops connection after failover frame served at stopped) =
        (now served.event _ (and_parts (is_of_front (at_event m) frame served) (is_crashed_item frame.first.frame served.item && nat_lt after (m.server.per_record * (1 + sequences_in frame.first.frame))) stopped).0, tt)
    by _ _ _ other = tt

-- what is told of a call with the mark that an event serves is what its frame brings
abbrev pub AreBrought : List Part → List Note → List Served → Machine → List Served → Type 0
AreBrought parts notes items m more =
    (connection : ℕ) (frame : FrameFront) (served : Served) → more ≡ served ∷ [] → front_at m.links connection ≡ Some frame → is_ordinary (at_event m) frame served ≡ true
    → Brings frame.first.frame served.item (kept_at parts (seen_told notes items) served.session)

-- ONE EVENT ---------------------------------------------------------------------------------------

module _ (parts : List Part) (all : List Note) (schedule : List Event) (notes : List Note) (items : List Served) (others : List Note) (left : List Served) (m : Machine) (counted : m.event ≡ length notes) (ticks : m.tick ≡ ticks_told notes) (later : AreLater (length notes + 1) left) (front : Front) where
  abbrev pub Grown : Note → List Served → Type 0
  Grown first more = seen_told (notes ++ first ∷ []) (items ++ more) ≡ after_happening (seen_told notes items) (next_told m first more)

  abbrev pub Told : Note → List Served → List Happened → Type 0
  Told first more happened = OneTold parts all schedule notes items first more others left front happened

  abbrev pub ComesTo : Note → Type 0
  ComesTo first = Comes front (front_told schedule notes items (first ∷ others)) (length notes)

  abbrev here : Note → Front
  here first = front_told schedule notes items (first ∷ others)

  abbrev rest : List HappenedAt
  rest = moments_of_notes ((length notes + 1) + 1) others

  comes_here : (first : Note) → ComesTo first → reach (length notes + 1) front ≡ here first
  comes_here first comes =
      let below : length notes < length notes + 1 = omega arith in
      comes (length notes + 1) below ∙ stays_at (length notes + 1) (first ∷ others) (place_told schedule notes items) refl

  -- nothing was served
  unserved_tells : (first : Note) → Grown first [] → with_note (length notes + 1) first (seen_told notes items) ≡ seen_told (notes ++ first ∷ []) (items ++ [])
  unserved_tells first grown = ap (λ (n : ℕ). with_note (n + 1) first (seen_told notes items)) (sym counted) ∙ sym grown

  -- NOTHING TOLD ----------------------------------------------------------------------------------

  quiet : (first : Note) (happened : List Happened) → ComesTo first → Grown first [] → moment_of_note (length notes + 1) first ≡ [] → outside_fits (first_item (rest_behind notes schedule)) first ≡ true → happened ≡ [] → Told first [] happened
  quiet first happened comes grown none fits did = record {
    now = [];
    next = front;
    split = ap (λ (moments : List HappenedAt). items_from parts all front (in_order left (moments ++ rest))) none;
    same = sym (ap (map bare_of) did);
    comes = λ event below. let earlier : length notes < event = omega (arith, below) in comes event earlier ∙ comes_behind schedule notes items [] first others (seen_told notes items) (unserved_tells first grown) event below;
    fits = fits;
  }

  -- A NOTE ALONE ----------------------------------------------------------------------------------

  abbrev alone : Moment → HappenedAt
  alone moment = record { event = length notes + 1; happened = moment }

  noted : (first : Note) (moment : Moment) (happened : List Happened) → ComesTo first → Grown first [] → moment_of_note (length notes + 1) first ≡ alone moment ∷ []
      → ((g : Front) → after_moment g (length notes + 1) moment ≡ g) → outside_fits (first_item (rest_behind notes schedule)) first ≡ true
      → bare_items (items_at parts (here first) (length notes + 1) m.tick moment) ≡ map bare_of happened → Told first [] happened
  noted first moment happened comes grown is stays fits same = record {
    now = items_at parts (here first) (length notes + 1) m.tick moment;
    next = here first;
    split =
        ap (λ (moments : List HappenedAt). items_from parts all front (in_order left (moments ++ rest))) is
        ∙ ap (items_from parts all front) (noted_first (alone moment) left rest later)
        ∙ ap (λ (at : Front). items_at parts at (length notes + 1) (tick_at all at (length notes + 1)) moment ++ items_from parts all (after_moment at (length notes + 1) moment) (in_order left rest)) (comes_here first comes)
        ∙ ap (λ (tick : ℕ). items_at parts (here first) (length notes + 1) tick moment ++ items_from parts all (after_moment (here first) (length notes + 1) moment) (in_order left rest))
        (tick_here all (first ∷ others) (length notes + 1) (place_told schedule notes items) refl ∙ sym ticks)
        ∙ ap (λ (at : Front). items_at parts (here first) (length notes + 1) m.tick moment ++ items_from parts all at (in_order left rest)) (stays (here first));
    same = same;
    comes = λ event below. comes_behind schedule notes items [] first others (seen_told notes items) (unserved_tells first grown) event below;
    fits = fits;
  }

  -- AN ITEM ---------------------------------------------------------------------------------------

  served_told : (first : Note) (served : Served) (frame : FrameFront) (happened : List Happened) → ComesTo first → Grown first (served ∷ []) → moment_of_note (length notes + 1) first ≡ [] → outside_fits (first_item (rest_behind notes schedule)) first ≡ true
      → served.event ≡ length notes + 1 → happened ≡ ServedFrame served.session m.tick frame.first.frame (front_telling frame served) ∷ []
      → bare_thing (thing_told (if_marked (is_marked_item served.item) (kept_at parts (seen_told notes items) served.session)) served.item) ≡ bare_thing (thing_of frame.first.frame (front_telling frame served))
      → Told first (served ∷ []) happened
  served_told first served frame happened comes grown none fits is did thing = record {
    now = item_of parts (here first) m.tick served ∷ [];
    next = after_served (here first) served;
    split =
        ap (λ (moments : List HappenedAt). items_from parts all front (in_order (served ∷ left) (moments ++ rest))) none
        ∙ ap (items_from parts all front) (served_first (length notes + 1) served ((length notes + 1) + 1) left others is one_on)
        ∙ ap (λ (at : Front). item_of parts at (tick_at all at served.event) served ∷ items_from parts all (after_served at served) (in_order left rest)) (ap (λ (e : ℕ). reach e front) is ∙ comes_here first comes)
        ∙ ap (λ (tick : ℕ). item_of parts (here first) tick served ∷ items_from parts all (after_served (here first) served) (in_order left rest))
        (tick_here all (first ∷ others) served.event (place_told schedule notes items) (sym is) ∙ sym ticks);
    same = ap (λ (t : Thing). Did 0 m.tick served.session t ∷ []) (kept (is_marked_item served.item) ∙ thing) ∙ ap (map bare_of) (sym did);
    comes = comes_behind schedule notes items (served ∷ []) first others (after_item served.event (noted_at (here first) served.event) (seen_told notes items) served) tells;
    fits = fits;
  }
    where
      one_on : length notes + 1 ≤ (length notes + 1) + 1
      one_on = omega arith

      kept : (marked : Bool)
          → bare_thing (thing_told (kept_if marked parts (here first) served) served.item) ≡ bare_thing (thing_told (if_marked marked (kept_at parts (seen_told notes items) served.session)) served.item)
      kept true = refl
      kept false = refl

      note_is : noted_at (here first) served.event ≡ first
      note_is = noted_here served.event first others (place_told schedule notes items) (sym is)

      tells : with_note (length notes + 1) first (after_item served.event (noted_at (here first) served.event) (seen_told notes items) served) ≡ seen_told (notes ++ first ∷ []) (items ++ served ∷ [])
      tells =
          (λ i. with_note (length notes + 1) first (after_item (is i) (note_is i) (seen_told notes items) served))
          ∙ ap (λ (n : ℕ). with_note (n + 1) first (after_item (n + 1) first (seen_told notes items) served)) (sym counted)
          ∙ sym grown

  -- the number of an item
  of_event : (event : ℕ) → (event == m.event + 1) ≡ true → event ≡ length notes + 1
  of_event event is = grind (arith, nat_tests, counted)

  frame_did : (connection : ℕ) (frame : FrameFront) (served : Served) (happened : List Happened) → front_at m.links connection ≡ Some frame → happened ≡ front_served m.tick (front_at m.links connection) (served ∷ [])
      → happened ≡ ServedFrame served.session m.tick frame.first.frame (front_telling frame served) ∷ []
  frame_did connection frame served happened at did = did ∙ ap (λ (found : Option FrameFront). front_served m.tick found (served ∷ [])) at

  ordinary_tells : (first : Note) (connection : ℕ) (frame : FrameFront) (served : Served) (end : Link) (links : List Link) (happened : List Happened) → ComesTo first → Grown first (served ∷ []) → moment_of_note (length notes + 1) first ≡ []
      → outside_fits (first_item (rest_behind notes schedule)) first ≡ true → front_at m.links connection ≡ Some frame → is_ordinary (at_event m) frame served ≡ true → happened ≡ front_served m.tick (front_at m.links connection) (served ∷ [])
      → AreBrought parts notes items m (served ∷ []) → list_all serves_unblocked links ≡ true → link_at links connection ≡ Some end
      → end.served ≡ frame.link.served ++ record { sent = frame.first; served = served; reply = reply_of served.session (commits_after frame.link served.item) served.item } ∷ []
      → Told first (served ∷ []) happened
  ordinary_tells first connection frame served end links happened comes grown none fits at ordinary did brought plain there same =
      let parts_of = and_parts (is_of_front (at_event m) frame served) (is_item_of frame.first.frame served.item) ordinary in
      let mine = and_parts (served.event == m.event + 1) (is_served_by m.server frame.link frame.first.frame served.session) parts_of.0 in
      served_told first served frame happened comes grown none fits (of_event served.event mine.0) (frame_did connection frame served happened at did)
      (ordinary_told frame.first.frame served.item served.session (commits_after frame.link served.item) (kept_at parts (seen_told notes items) served.session) parts_of.1
      (last_plain connection end links frame.link.served (record { sent = frame.first; served = served; reply = reply_of served.session (commits_after frame.link served.item) served.item }) plain there same)
      (brought connection frame served refl at ordinary))

  stopped_tells : (first : Note) (connection after : ℕ) (frame : FrameFront) (served : Served) (happened : List Happened) → ComesTo first → Grown first (served ∷ []) → moment_of_note (length notes + 1) first ≡ []
      → outside_fits (first_item (rest_behind notes schedule)) first ≡ true → front_at m.links connection ≡ Some frame → is_stopped (at_event m) after frame served ≡ true → happened ≡ front_served m.tick (front_at m.links connection) (served ∷ [])
      → Told first (served ∷ []) happened
  stopped_tells first connection after frame served happened comes grown none fits at stopped did =
      let within : Bool = nat_lt after (m.server.per_record * (1 + sequences_in frame.first.frame)) in
      let parts_of = and_parts (is_of_front (at_event m) frame served) (is_crashed_item frame.first.frame served.item && within) stopped in
      let mine = and_parts (served.event == m.event + 1) (is_served_by m.server frame.link frame.first.frame served.session) parts_of.0 in
      served_told first served frame happened comes grown none fits (of_event served.event mine.0) (frame_did connection frame served happened at did)
      (stopped_told frame.first.frame served.item served.session (commits_after frame.link served.item) (kept_at parts (seen_told notes items) served.session) (and_parts (is_crashed_item frame.first.frame served.item) within parts_of.1).0)

  -- RUNS ------------------------------------------------------------------------------------------

  ran_tells : (one : Event) (ran : OutsideNote) (happened : List Happened) → ComesTo (note.Outside (Some ran)) → Grown (note.Outside (Some ran)) [] → IsScheduled (first_item (rest_behind notes schedule)) one → RanCalls m one ran happened → Told (note.Outside (Some ran)) [] happened
  ran_tells one ran happened comes grown scheduled did =
      noted (note.Outside (Some ran)) (RanOutside ran) happened comes grown refl (λ g. refl)
      (ap (λ (found : Option Event). runs_fit found ran.runs) found ∙ few_is (length ran.runs) (length did.calls) (runs_are_few (next_session m.server) m.tick did.calls ran.runs did.runs did.are))
      (ap (λ (event : Option Event). bare_items (all_did (length notes + 1) m.tick (session_of ran.ltxid) (Connected ∷ Began [] ∷ things_of (calls_of event) ran.runs))) found
      ∙ ap (λ (session : SessionId). bare_items (all_did (length notes + 1) m.tick session (Connected ∷ Began [] ∷ things_of did.calls ran.runs))) did.session
      ∙ ap (λ (more : List Item). Did 0 m.tick (next_session m.server) Connected ∷ Did 0 m.tick (next_session m.server) (Began []) ∷ more) (calls_told (length notes + 1) m.tick (next_session m.server) did.calls ran.runs did.runs did.are)
      ∙ ap (map bare_of) (sym did.all))
    where
      found : first_item (rest_behind notes schedule) ≡ Some (event.Outside did.calls)
      found = scheduled did.calls did.is ∙ ap Some did.is

  -- EVENTS ----------------------------------------------------------------------------------------

  pub does_tell : (setting : Setting) (one : Event) (first : Note) (more : List Served) (n : Machine) (happened : List Happened) → Does setting (at_event m) first more n → ByNote m one first more happened → ComesTo first → Grown first more
      → IsScheduled (first_item (rest_behind notes schedule)) one → AreBrought parts notes items m more → list_all serves_unblocked n.links ≡ true → Told first more happened
  does_tell setting one _ _ _ happened (Goes client did n goes) is comes grown scheduled brought plain = quiet (note.Go client did) happened comes grown refl refl is
  does_tell setting one _ _ _ happened (ServesNone connection) is comes grown scheduled brought plain =
      quiet (note.Serve connection None) happened comes grown refl refl (is ∙ none_served m.tick (front_at m.links connection))
  does_tell setting one _ _ _ happened (Serves connection name frame served at ordinary) is comes grown scheduled brought plain =
      let on : IsFront m.links connection frame = front_is m.links connection frame at in
      let end : Link = handled (m.event + 1) frame served in
      let reply : Option Down = reply_of served.session (commits_after frame.link served.item) served.item in
      ordinary_tells (note.Serve connection (Some name)) connection frame served end (with_link m.links connection end) happened comes grown refl refl at ordinary is brought plain (with_own m.links connection frame.link end on.there)
      (blocked_served (m.event + 1) frame served reply (is_blocked served.item))
  does_tell setting one _ _ _ happened (CutsNone connection) is comes grown scheduled brought plain = quiet (note.Cut connection None) happened comes grown refl refl is
  does_tell setting one _ _ _ happened (Cuts connection up down reached link at) is comes grown scheduled brought plain = quiet (note.Cut connection (Some reached)) happened comes grown refl refl is
  does_tell setting one _ _ _ happened (ReapsNone connection) is comes grown scheduled brought plain = quiet (note.Reap connection false) happened comes grown refl refl is
  does_tell setting one _ _ _ happened (Reaps connection) is comes grown scheduled brought plain = quiet (note.Reap connection true) happened comes grown refl refl is
  does_tell setting one _ _ _ happened (IsDown connection) is comes grown scheduled brought plain = quiet (note.Crash connection true) happened comes grown refl refl is
  does_tell setting one _ _ _ happened (Crashes connection failover) is comes grown scheduled brought plain =
      quiet (note.Crash connection false) happened comes grown refl refl (is ∙ none_served m.tick (front_at m.links connection))
  does_tell setting one _ _ _ happened (CrashStops connection after failover frame served at stopped) is comes grown scheduled brought plain =
      stopped_tells (note.Crash connection false) connection after frame served happened comes grown refl refl at stopped is
  does_tell setting one _ _ _ happened (CrashServes connection failover frame served at ordinary) is comes grown scheduled brought plain =
      let on : IsFront m.links connection frame = front_is m.links connection frame at in
      let end : Link = handled (m.event + 1) frame served in
      let reply : Option Down = reply_of served.session (commits_after frame.link served.item) served.item in
      let links : List Link = with_link m.links connection end in
      ordinary_tells (note.Crash connection false) connection frame served (fallen_link (m.event + 1) end) (map (fallen_link (m.event + 1)) links) happened comes grown refl refl at ordinary is brought plain
      (all_changed (fallen_link (m.event + 1)) links connection ∙ ap (option_map (fallen_link (m.event + 1))) (with_own m.links connection frame.link end on.there))
      (fallen_served (m.event + 1) end ∙ blocked_served (m.event + 1) frame served reply (is_blocked served.item))
  does_tell setting one _ _ _ happened Ticks is comes grown scheduled brought plain = quiet note.Tick happened comes grown refl refl is
  does_tell setting one _ _ _ happened (Drains closed) is comes grown scheduled brought plain = quiet (note.Drain closed) happened comes grown refl refl is
  does_tell setting one _ _ _ happened (IsServers (note.Up incarnation) server of_server) is comes grown scheduled brought plain = quiet (note.Up incarnation) happened comes grown refl refl is
  does_tell setting one _ _ _ happened (IsServers (note.UpCrash made) server of_server) is comes grown scheduled brought plain = quiet (note.UpCrash made) happened comes grown refl refl is
  does_tell setting one _ _ _ happened (IsServers (note.Outside None) server of_server) is comes grown scheduled brought plain = quiet (note.Outside None) happened comes grown refl refl is
  does_tell setting one _ _ _ happened (IsServers (note.Outside (Some ran)) server of_server) is comes grown scheduled brought plain = ran_tells one ran happened comes grown scheduled is
  does_tell setting one _ _ _ happened (IsServers (note.Ask x None) server of_server) is comes grown scheduled brought plain = quiet (note.Ask x None) happened comes grown refl refl is
  does_tell setting one _ _ _ happened (IsServers (note.Ask x (Some answer)) server of_server) is comes grown scheduled brought plain =
      noted (note.Ask x (Some answer)) (AskedAt x answer) happened comes grown refl (λ g. refl) refl (ap (λ (item : Item). item ∷ []) (answer_told (length notes + 1) x answer) ∙ ap (map bare_of) (sym is))
  does_tell setting one _ _ _ happened (IsServers other server of_server) is comes grown scheduled brought plain = absurd (let none : ⊥ = cc in none)
