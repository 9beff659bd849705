-- What a run served is legal, drew nothing anew twice, and nothing past what is set aside: its
-- report's items are those of the service's history, but for their numbers.
use Rattle.std.proofs.Common.{◌≡◌, refl, sym, ap, subst, ◌∙◌, append_assoc, append-nil, List, [], ◌∷◌, ◌++◌, map, Option, Some, None}
use Rattle.std.specs.Prelude.{option_and_then}
use Rattle.std.specs.Option.{option_map_or}
use Rattle.std.proofs.lemmas.List.{map-append}
use Rattle.svc_values.specs.declared.entry.Entry.{Entry}
use Rattle.outage_schedule.specs.declared.document.Document.{Document}
use Rattle.outage_schedule.specs.declared.event.Event.{Event}
use Rattle.outage_schedule.specs.declared.item.Served.{Served}
use Rattle.outage_schedule.specs.declared.note.Note.{Note}
use Rattle.outage_schedule.specs.declared.report.Report.{Report}
use Rattle.run_clauses.specs.meaning.ServiceBase.{service_base}
use Rattle.server_model.specs.meaning.Base.{Base}
use Rattle.server_model.specs.Base.{IsSound}
use Rattle.server_model.specs.meaning.Fresh.{drawn_anew, fresh_new}
use Rattle.server_model.specs.meaning.Items.{Item}
use Rattle.server_model.specs.Items.{items_of}
use Rattle.server_model.specs.Laws.{RunsLegal, RunsFreshNew, RunsSetAside}
use Rattle.server_model.specs.meaning.Legal.{legal}
use Rattle.server_model.specs.Runs.{Happened, Server}
use Rattle.server_model.specs.meaning.SetAside.{SetAside}
use Rattle.server_model.specs.SetAside.{ends_of}
use Rattle.server_model.specs.meaning.Walk.{Walk, walk_of}
use Rattle.server_model.specs.Seen.{Seen}
use Rattle.world_model.specs.Coupled.{Coupled}
use Rattle.world_model.specs.meaning.Finishing.{Place, AtServer, next_finish}
use Rattle.world_model.specs.meaning.Judged.{next_items, walk_items, finish_items, items_with, judged_items, drawn_in}
use Rattle.world_model.specs.meaning.Machines.{Machine, start_of}
use Rattle.world_model.specs.Reached.{Reached, Begins, GoesOn, IsFinishing, Scheduled, Finishes}
use Rattle.world_model.specs.Reported.{IsReported}
use Rattle.legal_laws.specs.RunsJudged.{RunsAreLegal, RunsAreFreshNew, RunsAreSetAside}
use Rattle.world_model.specs.meaning.Settings.{Setting, setting_of}
use Rattle.world_model.specs.Traced.{Traced}
use Rattle.world_model.specs.meaning.Walking.{After, Walked, follow, walk}
use Rattle.world_model.proofs.Offered.{follow_local, walk_more, finishing_start, finishing_coupled, reached_setting, reached_walk, finishing_setting}
use Rattle.legal_laws.proofs.JudgedAlike.{plain_items, plain_of, history_plain, legal_plain, drawn_plain, fresh_plain}
use Rattle.legal_laws.proofs.JudgedEvents.{event_takes, event_did}

-- EVENTS ONE AFTER THE OTHER ----------------------------------------------------------------------

-- behind an event
abbrev goes_on : Setting → List Event → List Note → After → List Item
goes_on setting events notes after = option_map_or (λ next. walk_items setting next.0 events notes next.1) after []

more_by : (setting : Setting) (m last : Machine) (event : Event) (events later : List Event) (note : Note) (notes others : List Note) (items new : List Served)
    → ((next : Machine) (left : List Served) → walk setting next events notes left ≡ Some (record { machine = last; notes = []; items = [] })
    → walk_items setting next (events ++ later) (notes ++ others) (left ++ new) ≡ walk_items setting next events notes left ++ walk_items setting last later others new)
    → (so : After) → follow setting m event note items ≡ so
    → option_and_then (λ n. walk setting n.0 events notes n.1) so ≡ Some (record { machine = last; notes = []; items = [] })
    → next_items m event note (items ++ new) ++ goes_on setting (events ++ later) (notes ++ others) (follow setting m event note (items ++ new))
    ≡ (next_items m event note items ++ goes_on setting events notes (follow setting m event note items)) ++ walk_items setting last later others new
more_by setting m last event events later note notes others items new again None is e = absurd (let none : ⊥ = cc in none)
more_by setting m last event events later note notes others items new again (Some (next, left)) is e =
    let first : List Item = next_items m event note items in
    let rest : List Item = walk_items setting next events notes left in
    let behind : List Item = walk_items setting last later others new in
    ap (λ (front : List Item). front ++ goes_on setting (events ++ later) (notes ++ others) (follow setting m event note (items ++ new))) (event_takes setting m next event note items left new is)
    ∙ ap (λ (after : After). first ++ goes_on setting (events ++ later) (notes ++ others) after) (follow_local setting m event note items new left next is)
    ∙ ap (λ (all : List Item). first ++ all) (again next left e)
    ∙ sym (append_assoc first rest behind)
    ∙ ap (λ (after : After). (first ++ goes_on setting events notes after) ++ behind) (sym is)

items_more : (setting : Setting) (m last : Machine) (events later : List Event) (notes others : List Note) (items new : List Served)
    → walk setting m events notes items ≡ Some (record { machine = last; notes = []; items = [] })
    → walk_items setting m (events ++ later) (notes ++ others) (items ++ new) ≡ walk_items setting m events notes items ++ walk_items setting last later others new
items_more setting m last [] later notes others items new e = ap (λ (after : Option Walked). option_map_or (λ (w : Walked). walk_items setting w.machine later (w.notes ++ others) (w.items ++ new)) after []) e
items_more setting m last (event ∷ events) later [] others items new e = absurd (let none : ⊥ = cc in none)
items_more setting m last (event ∷ events) later (note ∷ notes) others items new e =
    more_by setting m last event events later note notes others items new (λ next left is. items_more setting next last events later notes others left new is) (follow setting m event note items) refl e

-- one event, which takes just these items
one_event : (setting : Setting) (m next : Machine) (event : Event) (note : Note) (items : List Served) → follow setting m event note items ≡ Some (next, []) → walk_items setting m (event ∷ []) (note ∷ []) items ≡ next_items m event note items
one_event setting m next event note items is = ap (λ (after : After). next_items m event note items ++ goes_on setting [] [] after) is ∙ append-nil (next_items m event note items)

-- one event of the finish
finish_more : (setting : Setting) (m next : Machine) (place later : Place) (event : Event) (note : Note) (notes : List Note) (new items : List Served)
    → next_finish m place ≡ Some (event, later) → follow setting m event note new ≡ Some (next, [])
    → finish_items setting m place (note ∷ notes) (new ++ items) ≡ next_items m event note new ++ finish_items setting next later notes items
finish_more setting m next place later event note notes new items is e =
    ap (λ (made : Option (Event × Place)). option_map_or (λ made. next_items m made.0 note (new ++ items) ++ option_map_or (λ n. finish_items setting n.0 made.1 notes n.1) (follow setting m made.0 note (new ++ items)) []) made []) is
    ∙ ap (λ (front : List Item). front ++ option_map_or (λ n. finish_items setting n.0 later notes n.1) (follow setting m event note (new ++ items)) []) (event_takes setting m next event note new [] items e)
    ∙ ap (λ (after : After). next_items m event note new ++ option_map_or (λ n. finish_items setting n.0 later notes n.1) after []) (follow_local setting m event note new items [] next e)

-- THE HISTORY -------------------------------------------------------------------------------------

-- the items so far are those of the history, but for their numbers
abbrev AreOf : List Item → Seen → Type 0
AreOf items seen = plain_items items ≡ map plain_of seen.history

-- with those of one thing more
joins : (items more : List Item) (before after : Seen) (happened : List Happened) → AreOf items before → plain_items more ≡ map plain_of happened → after.history ≡ before.history ++ happened → AreOf (items ++ more) after
joins items more before after happened are same history =
    map-append _ items more ∙ ap (λ (all : List Item). all ++ plain_items more) are ∙ ap (λ (all : List Item). map plain_of before.history ++ all) same
    ∙ sym (map-append plain_of before.history happened) ∙ ap (map plain_of) (sym history)

reached_items : (document : Document) (events : List Event) (notes : List Note) (items : List Served) (seen : Seen) (t : Traced) → Reached document events notes items seen t
    → AreOf (walk_items (setting_of document) (start_of document) events notes items) seen
reached_items document _ _ _ _ _ (Begins seen start history horizon coupled) = ap (map plain_of) (sym history)
reached_items document _ _ _ _ _ (GoesOn events notes items more before after old new event note reached one forgets) =
    let setting : Setting = setting_of document in
    let follows : follow setting old.machine event note more ≡ Some (new.machine, []) = subst (λ (s : Setting). follow s old.machine event note more ≡ Some (new.machine, [])) (reached_setting document events notes items before old reached) one.follows in
    ap plain_items (items_more setting (start_of document) old.machine events (event ∷ []) notes (note ∷ []) items more (reached_walk document events notes items before old reached))
    ∙ ap (λ (all : List Item). plain_items (walk_items setting (start_of document) events notes items ++ all)) (one_event setting old.machine new.machine event note more follows)
    ∙ joins (walk_items setting (start_of document) events notes items) (next_items old.machine event note more) before after one.happened (reached_items document events notes items before old reached)
    (event_did old.machine event note more one.happened one.did) one.history

-- So are those of a run whose finish has come so far, with those of the notes and items that are
-- left behind them.
record Leads (document : Document) (place : Place) (notes : List Note) (items : List Served) (seen : Seen) (t : Traced) (others : List Note) (left : List Served) : Type 0 where
  front : List Item
  are : AreOf front seen
  whole : items_with document (notes ++ others) (items ++ left) ≡ front ++ finish_items (setting_of document) t.machine place others left

finishing_items : (document : Document) (place : Place) (notes : List Note) (items : List Served) (seen : Seen) (t : Traced) → IsFinishing document place notes items seen t
    → (others : List Note) (left : List Served) → Leads document place notes items seen t others left
finishing_items document _ _ _ _ _ (Scheduled notes items seen t reached) others left =
    let setting : Setting = setting_of document in
    let start : Machine = start_of document in
    let walked = reached_walk document document.schedule notes items seen t reached in
    let finish : Option Walked → List Item = λ after. option_map_or (λ (w : Walked). finish_items setting w.machine AtServer w.notes w.items) after [] in
    record {
      front = walk_items setting start document.schedule notes items;
      are = reached_items document document.schedule notes items seen t reached;
      whole =
          ap (λ (all : List Item). all ++ finish (walk setting start document.schedule (notes ++ others) (items ++ left)))
          (ap (λ (events : List Event). walk_items setting start events (notes ++ others) (items ++ left)) (sym (append-nil document.schedule))
          ∙ items_more setting start t.machine document.schedule [] notes others items left walked
          ∙ append-nil (walk_items setting start document.schedule notes items))
          ∙ ap (λ (after : Option Walked). walk_items setting start document.schedule notes items ++ finish after)
          (ap (λ (events : List Event). walk setting start events (notes ++ others) (items ++ left)) (sym (append-nil document.schedule))
          ∙ walk_more setting start t.machine document.schedule [] notes others items left walked);
    }
finishing_items document _ _ _ _ _ (Finishes place later notes items more before after old new event note finishing next one forgets) others left =
    let setting : Setting = setting_of document in
    let follows : follow setting old.machine event note more ≡ Some (new.machine, []) = subst (λ (s : Setting). follow s old.machine event note more ≡ Some (new.machine, [])) (finishing_setting document place notes items before old finishing) one.follows in
    let so = finishing_items document place notes items before old finishing (note ∷ others) (more ++ left) in
    record {
      front = so.front ++ next_items old.machine event note more;
      are = joins so.front (next_items old.machine event note more) before after one.happened so.are (event_did old.machine event note more one.happened one.did) one.history;
      whole =
          ap (λ (all : List Note). items_with document all ((items ++ more) ++ left)) (append_assoc notes (note ∷ []) others)
          ∙ ap (items_with document (notes ++ note ∷ others)) (append_assoc items more left)
          ∙ so.whole
          ∙ ap (λ (all : List Item). so.front ++ all) (finish_more setting old.machine new.machine place later event note others more left next follows)
          ∙ sym (append_assoc so.front (next_items old.machine event note more) (finish_items setting new.machine later others left));
    }

-- THE REPORT --------------------------------------------------------------------------------------

module _ (document : Document) (report : Report) (seen : Seen) (t : Traced) (server : Server) (is : IsReported document report seen t server) where
  judged_history : plain_items (judged_items document report) ≡ map plain_of seen.history
  judged_history =
      let so = finishing_items document is.run.place report.notes report.served seen t is.run.finishing [] [] in
      ap plain_items
      (ap (λ (notes : List Note). items_with document notes report.served) (sym (append-nil report.notes)) ∙ ap (items_with document (report.notes ++ [])) (sym (append-nil report.served))
      ∙ so.whole ∙ append-nil so.front)
      ∙ so.are

  judged_plain : plain_items (judged_items document report) ≡ plain_items (items_of seen.history)
  judged_plain = judged_history ∙ sym (history_plain 0 seen.history)

  sound : IsSound (service_base document)
  sound = subst IsSound (finishing_start document is.run.place report.notes report.served seen t is.run.finishing) (finishing_coupled document is.run.place report.notes report.served seen t is.run.finishing).sound

pub runs_legal : RunsLegal → RunsAreLegal
runs_legal law document report seen t server is =
    let base : Base = service_base document in
    let coupled = finishing_coupled document is.run.place report.notes report.served seen t is.run.finishing in
    sym (legal_plain base (judged_items document report) report.entries report.alerts)
    ∙ ap (λ (items : List Item). legal base items report.entries report.alerts) (judged_plain document report seen t server is)
    ∙ legal_plain base (items_of seen.history) report.entries report.alerts
    ∙ ap (λ (entries : List Entry). legal base (items_of seen.history) entries report.alerts) is.entries
    ∙ ap (legal base (items_of seen.history) server.core.entries) is.alerts
    ∙ law base seen.history server (sound document report seen t server is) is.runs coupled.stops

pub runs_fresh_new : RunsFreshNew → RunsAreFreshNew
runs_fresh_new law document report seen t server is =
    let base : Base = service_base document in
    let coupled = finishing_coupled document is.run.place report.notes report.served seen t is.run.finishing in
    sym (fresh_plain base (judged_items document report) report.entries)
    ∙ ap (λ (items : List Item). fresh_new base items report.entries) (judged_plain document report seen t server is)
    ∙ fresh_plain base (items_of seen.history) report.entries
    ∙ ap (fresh_new base (items_of seen.history)) is.entries
    ∙ law base seen.history server (sound document report seen t server is) is.runs coupled.stops

pub runs_set_aside : RunsSetAside → RunsAreSetAside
runs_set_aside law document report seen t server is =
    subst (SetAside base.sequences (ends_of server.core.opening)) draws_are (law base seen.history server (sound document report seen t server is) is.runs coupled.stops)
  where
    base : Base
    base = service_base document

    coupled : Coupled seen t
    coupled = finishing_coupled document is.run.place report.notes report.served seen t is.run.finishing

    start : Walk
    start = walk_of base server.core.entries

    draws_are : drawn_anew base start (items_of seen.history) ≡ drawn_in document report
    draws_are =
        sym (drawn_plain base start (items_of seen.history))
        ∙ ap (drawn_anew base start) (sym (judged_plain document report seen t server is))
        ∙ drawn_plain base start (judged_items document report)
        ∙ ap (λ (entries : List Entry). drawn_anew base (walk_of base entries) (judged_items document report)) (sym is.entries)
