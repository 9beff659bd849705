-- Of Number: what was answered of an identifier stands, at the start and behind each event.
use Rattle.std.proofs.Common.{◌≡◌, refl, sym, ap, subst, ◌∙◌, Bool, true, false, ℕ, ◌+◌, ◌≤◌, List, [], ◌∷◌, ◌++◌, Option, Some, inl, inr, arith}
use Rattle.std.specs.Prelude.{Contains}
use Rattle.std.specs.Option.{option_map_or}
use Rattle.std.proofs.lemmas.Bool.{and_parts}
use Rattle.std.proofs.lemmas.List.Elements.{Contains-push}
use Rattle.svc_values.specs.declared.entry.Entry.{Entry}
use Rattle.svc_values.specs.declared.entry.Ltxid.{Ltxid}
use Rattle.svc_values.specs.declared.frame.Up.{Up}
use Rattle.svc_values.specs.declared.frame.Up.TheVariants as up
use Rattle.svc_values.specs.declared.frame.Down.{Down}
use Rattle.svc_values.specs.meaning.Identifiers.{same_ltxid, session_of}
use Rattle.svc_values.specs.meaning.Same.{same_bool}
use Rattle.svc_values.specs.SameLaws.{same_ltxid_decides, same_bool_decides}
use Rattle.ltxid_book.specs.meaning.Journal.{is_blocked}
use Rattle.outage_schedule.specs.declared.event.Event.{Event}
use Rattle.outage_schedule.specs.declared.item.Item.{Item}
use Rattle.outage_schedule.specs.declared.item.Item.TheVariants as item
use Rattle.outage_schedule.specs.declared.item.Served.{Served}
use Rattle.outage_schedule.specs.declared.note.Note.{Note}
use Rattle.outage_schedule.specs.declared.note.AskResult.{AskResult}
use Rattle.outage_schedule.specs.declared.note.AskResult.TheVariants as told
use Rattle.run_clauses.specs.meaning.EntryEvents.{entries_of}
use Rattle.run_clauses.specs.meaning.Outcomes.{completed_of}
use Rattle.run_clauses.specs.meaning.Tried.{holds}
use Rattle.server_model.specs.meaning.Base as base
use Rattle.server_model.specs.Core.{all_entries, all_blocked}
use Rattle.server_model.specs.Laws.{CommitsAs, LastOf}
use Rattle.server_model.specs.meaning.Outcomes.{Says}
use Rattle.server_model.specs.Outcomes.{down_of, verdict_on}
use Rattle.server_model.specs.Runs.{Happened, Served as ServedFrame, Server, Runs}
use Rattle.server_model.specs.Seen.{Seen}
use Rattle.server_model.proofs.Offered.{runs_last, blocks_are_stored, runs_keep_base}
use Rattle.world_model.specs.meaning.Frames.{Handled}
use Rattle.invariant_laws.specs.Invariant.{Invariant}
use Rattle.invariant_laws.specs.KeptLaws.{IsKeptOfAll}
use Rattle.world_model.specs.meaning.Links.{Link}
use Rattle.world_model.specs.records.Number.{numbered_after}
use Rattle.invariant_laws.specs.Shown.{stands, answers_stand}
use Rattle.world_model.specs.OneEvent.{OneEvent}
use Rattle.world_model.specs.meaning.ServiceDid.{item_telling, front_telling}
use Rattle.world_model.specs.meaning.Serving.{Front, front_at, is_of_front, is_ordinary, is_item_of, commits_after, outcome_frame}
use Rattle.world_model.specs.meaning.Crashing.{is_stopped, is_crashed_item}
use Rattle.world_model.specs.Traced.{Traced}
use Rattle.world_model.proofs.Offered.{front_is, weaker_all, IsAnswer, move_answer, blocked_holds, not_refused, verdict_committed, verdict_near, told_committed, told_server, told_client, commits_unmarked, one_of, gains_none, entries_more, at_event, numbered_now, happens_one, by as event_by, serves_at}
use Rattle.invariant_laws.proofs.losses.AnswersStand.{stands_still}
use Rattle.invariant_laws.proofs.losses.AskedNear.{IsNear, asked_near}
use Rattle.invariant_laws.proofs.history.ServedPass.{served_pass, still_pass}

-- a stopped item tells nothing
crashed_stands : (t : Traced) (frame : Up) (one : Item) → is_crashed_item frame one ≡ true → stands t one ≡ true
crashed_stands t (up.Call replay kept called) (item.CrashedCall marked call) is = refl
crashed_stands t (up.Outcome x) (item.CrashedOutcome asked) is = refl
crashed_stands t up.Connect one is = absurd (let none : ⊥ = cc in none)
crashed_stands t (up.Begin settings) one is = absurd (let none : ⊥ = cc in none)
crashed_stands t up.End one is = absurd (let none : ⊥ = cc in none)
crashed_stands t up.Close one is = absurd (let none : ⊥ = cc in none)
crashed_stands t (up.Call replay kept called) one is = absurd (let none : ⊥ = cc in none)
crashed_stands t (up.Outcome x) one is = absurd (let none : ⊥ = cc in none)

module _ (before after : Seen) (old new : Traced) (event : Event) (note : Note) (items left : List Served) (one : OneEvent before old event note items left after new) (inv : Invariant old) where
  abbrev links : List Link
  links = old.machine.links

  abbrev now_server : Server
  now_server = one.coupled_after.history.server

  still : numbered_after [] new.entries ≡ true
  still = numbered_now before after old new one.coupled_before one.coupled_after one.start inv.orderly.number.entries

  -- A QUESTION THAT IS ANSWERED -------------------------------------------------------------------

  module _ (number : ℕ) (front : Front) (served : Served) (at : front_at links number ≡ Some front) (x : Ltxid) (frame_is : front.first.frame ≡ up.Outcome x) (result : AskResult)
      (happens : one.happened ≡ ServedFrame served.session old.machine.tick (up.Outcome x) (Says (outcome_frame result)) ∷ []) where
    abbrev what : Happened
    what = ServedFrame served.session old.machine.tick (up.Outcome x) (Says (outcome_frame result))

    later : Runs before.start (before.history ++ what ∷ []) now_server
    later =
        subst (λ (b : base.Base). Runs b (before.history ++ what ∷ []) now_server) one.start
        (subst (λ (all : List Happened). Runs after.start all now_server) (one.history ∙ ap (λ (list : List Happened). before.history ++ list) happens) one.coupled_after.history.runs)

    last : LastOf before.start before.history what now_server
    last = runs_last before.start before.history what now_server later

    answer : (outcome_frame result ≡ down_of (verdict_on last.before.core x)) × (last.behind.core.entries ≡ last.before.core.entries)
    answer = by (move_answer last.before last.behind (what ∷ []) last.moves served.session old.machine.tick x (outcome_frame result) refl)
      where
        by : IsAnswer last.before.core last.behind.core x (outcome_frame result) → (outcome_frame result ≡ down_of (verdict_on last.before.core x)) × (last.behind.core.entries ≡ last.before.core.entries)
        by (inl refused) = absurd (not_refused result refused)
        by (inr told_so) = told_so

    -- its store has the entries of now
    same_entries : all_entries last.before.core ≡ new.entries
    same_entries =
        ap (λ (b : base.Base). b.entries ++ last.before.core.entries) (runs_keep_base before.start before.history last.before last.runs)
        ∙ (ap (λ (all : List Entry). before.start.entries ++ all) (sym (last.same.entries ∙ answer.1))
        ∙ sym (one.coupled_after.entries ∙ (one.coupled_after.history.entries ∙ ap (λ (b : base.Base). b.entries ++ now_server.core.entries) one.start)))

    -- no entry was gained
    same_count : entries_of new.entries (session_of x) ≡ entries_of old.entries (session_of x)
    same_count =
        let none : entries_of one.more_entries (session_of x) ≡ 0 =
        gains_none one.happened (session_of x) one.more_entries one.own
        (λ this contains entry commits same.
        let equal : what ≡ this = one_of what this (subst (λ (list : List Happened). Contains list this) happens contains) in
        let plain : false ≡ true = commits_unmarked entry served.session old.machine.tick (up.Outcome x) (Says (outcome_frame result)) (subst (CommitsAs entry) (sym equal) commits) in
        let never : ⊥ = cc in never) in
        let sum : entries_of new.entries (session_of x) ≡ entries_of old.entries (session_of x) + entries_of one.more_entries (session_of x) =
        ap (λ (all : List Entry). entries_of all (session_of x)) one.entries ∙ entries_more old.entries one.more_entries (session_of x) in
        omega arith

    near : IsNear old x
    near = let is = front_is links number front at in asked_near old inv number front.link front.first front.later x is.there is.up frame_is

    blocked_now : outcome_frame result ≡ outcome_frame told.Uncommitted → holds new.blocked x ≡ true
    blocked_now same =
        let contains : Contains (before.history ++ what ∷ []) what = Contains-push before.history what in
        let tells : ServedFrame served.session old.machine.tick (up.Outcome x) (Says (outcome_frame told.Uncommitted)) ≡ what = ap (λ (f : Down). ServedFrame served.session old.machine.tick (up.Outcome x) (Says f)) (sym same) in
        let stored : is_blocked (all_blocked now_server.core) x ≡ true =
        blocks_are_stored before.start (before.history ++ what ∷ []) now_server later x (ServedFrame served.session old.machine.tick (up.Outcome x) (Says (outcome_frame told.Uncommitted)))
        (subst (λ (h : Happened). Contains (before.history ++ what ∷ []) h) (sym tells) contains) refl in
        let all : all_blocked now_server.core ≡ new.blocked =
        ap (λ (b : base.Base). b.blocked ++ now_server.core.blocked) (runs_keep_base after.start after.history now_server one.coupled_after.history.runs) ∙ sym (one.coupled_after.blocked ∙ one.coupled_after.history.blocked) in
        blocked_holds new.blocked x (subst (λ (list : List Ltxid). is_blocked list x ≡ true) all stored)

    completed_now : (completed : Bool) → outcome_frame result ≡ outcome_frame (told.Committed completed) → completed_of new.entries x ≡ Some completed
    completed_now completed same =
        let judged = told_committed completed (verdict_on last.before.core x) (sym same ∙ answer.0) in
        subst (λ (all : List Entry). completed_of all x ≡ Some completed) same_entries
        (verdict_committed last.before.core.horizon (all_entries last.before.core) (all_blocked last.before.core) x completed judged (subst (λ (all : List Entry). numbered_after [] all ≡ true) (sym same_entries) still))

    least_now : x.number ≤ entries_of (all_entries last.before.core) (session_of x)
    least_now = let same : entries_of (all_entries last.before.core) (session_of x) ≡ entries_of old.entries (session_of x) = ap (λ (all : List Entry). entries_of all (session_of x)) same_entries ∙ same_count in omega (arith, same, near.least)

    most_now : entries_of (all_entries last.before.core) (session_of x) ≤ x.number + 1
    most_now = let same : entries_of (all_entries last.before.core) (session_of x) ≡ entries_of old.entries (session_of x) = ap (λ (all : List Entry). entries_of all (session_of x)) same_entries ∙ same_count in omega (arith, same, near.most)

    server_never : (next : ℕ) → outcome_frame result ≡ outcome_frame (told.ServerAhead next) → ⊥
    server_never next same = verdict_near last.before.core.horizon (all_entries last.before.core) (all_blocked last.before.core) x (told_server next (verdict_on last.before.core x) (sym same ∙ answer.0)) least_now most_now

    client_never : (next : ℕ) → outcome_frame result ≡ outcome_frame (told.ClientAhead next) → ⊥
    client_never next same = verdict_near last.before.core.horizon (all_entries last.before.core) (all_blocked last.before.core) x (told_client next (verdict_on last.before.core x) (sym same ∙ answer.0)) least_now most_now

    answered : (asked : Ltxid) → same_ltxid asked x ≡ true → (what_told : AskResult) → result ≡ what_told → stands new (item.Outcome asked what_told) ≡ true
    answered asked same told.Uncommitted is = subst (λ (y : Ltxid). holds new.blocked y ≡ true) (sym ((same_ltxid_decides asked x).0 same)) (blocked_now (ap outcome_frame is))
    answered asked same (told.Committed completed) is =
        subst (λ (y : Ltxid). option_map_or (same_bool completed) (completed_of new.entries y) false ≡ true) (sym ((same_ltxid_decides asked x).0 same))
        (ap (λ (found : Option Bool). option_map_or (same_bool completed) found false) (completed_now completed (ap outcome_frame is)) ∙ (same_bool_decides completed completed).1 refl)
    answered asked same (told.Forgotten horizon) is = refl
    answered asked same (told.ServerAhead next) is = absurd (server_never next (ap outcome_frame is))
    answered asked same (told.ClientAhead next) is = absurd (client_never next (ap outcome_frame is))

  -- EACH ITEM -------------------------------------------------------------------------------------

  item_stands : (number : ℕ) (front : Front) (served : Served) → front_at links number ≡ Some front → one.happened ≡ ServedFrame served.session old.machine.tick front.first.frame (front_telling front served) ∷ []
      → (frame : Up) (what : Item) → front.first.frame ≡ frame → served.item ≡ what → is_item_of frame what ≡ true → stands new what ≡ true
  item_stands number front served at happens (up.Outcome x) (item.Outcome asked result) frame_is item_is is =
      let told_so : one.happened ≡ ServedFrame served.session old.machine.tick (up.Outcome x) (Says (outcome_frame result)) ∷ [] =
      happens ∙ (ap (λ (f : Up). ServedFrame served.session old.machine.tick f (front_telling front served) ∷ []) frame_is
      ∙ ap (λ (i : Item). ServedFrame served.session old.machine.tick (up.Outcome x) (item_telling served.session (commits_after front.link served.item) i) ∷ []) item_is) in
      answered number front served at x frame_is result told_so asked is result refl
  item_stands number front served at happens up.Connect (item.Outcome asked result) frame_is item_is is = absurd (let none : ⊥ = cc in none)
  item_stands number front served at happens (up.Begin settings) (item.Outcome asked result) frame_is item_is is = absurd (let none : ⊥ = cc in none)
  item_stands number front served at happens (up.Call replay kept called) (item.Outcome asked result) frame_is item_is is = absurd (let none : ⊥ = cc in none)
  item_stands number front served at happens up.End (item.Outcome asked result) frame_is item_is is = absurd (let none : ⊥ = cc in none)
  item_stands number front served at happens up.Close (item.Outcome asked result) frame_is item_is is = absurd (let none : ⊥ = cc in none)
  item_stands number front served at happens frame other frame_is item_is is = refl

  goes_stands : (number : ℕ) (front : Front) (served : Served) → front_at links number ≡ Some front → items ≡ served ∷ left → serves_at (event_by before after old new event note items left one inv.orderly).kind ≡ Some number
      → is_ordinary (at_event old.machine) front served ≡ true → stands new served.item ≡ true
  goes_stands number front served at same serves ordinary =
      item_stands number front served at (happens_one before after old new event note items left one inv.orderly number front served at same serves) front.first.frame served.item refl refl
      (and_parts (is_of_front (at_event old.machine) front served) (is_item_of front.first.frame served.item) ordinary).1

  stops_stands : (after_it : ℕ) (front : Front) (served : Served) → items ≡ served ∷ left → is_stopped (at_event old.machine) after_it front served ≡ true → stands new served.item ≡ true
  stops_stands after_it front served same stopped =
      crashed_stands new front.first.frame served.item (and_parts (is_crashed_item front.first.frame served.item) _ (and_parts (is_of_front (at_event old.machine) front served) _ stopped).1).0

  pub stand_now : answers_stand new ≡ true
  stand_now =
      let by = event_by before after old new event note items left one inv.orderly in
      still_pass (stands new) old inv.orderly items left by.kind new.machine by.happens
      (weaker_all (served_pass (stands old)) (served_pass (stands new)) links
      (λ link all. weaker_all (λ (h : Handled). stands old h.served.item) (λ (h : Handled). stands new h.served.item) link.served (λ h is. stands_still old new one.more_entries one.more_blocked one.entries one.blocked h.served.item is) all)
      inv.shown.answers) goes_stands stops_stands

pub answers_law : IsKeptOfAll answers_stand
answers_law = record {
  at_start = λ document. refl;
  at_event = λ before after old new event note items left one inv. stand_now before after old new event note items left one inv;
}
