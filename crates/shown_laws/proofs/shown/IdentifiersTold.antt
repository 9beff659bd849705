-- In a whole run that a report tells, each call was shown under the identifier of the item that the
-- step took, with the number of its session's entries that were stored up to the event of it.
use Rattle.std.proofs.Common.{◌≡◌, refl, sym, subst, Bool, true, length, List, [], ◌∷◌, ◌++◌, IsTrue}
use Rattle.outage_schedule.specs.declared.document.Document.{Document}
use Rattle.outage_schedule.specs.declared.event.Event.{Event}
use Rattle.outage_schedule.specs.declared.item.Served.{Served}
use Rattle.outage_schedule.specs.declared.note.Note.{Note}
use Rattle.outage_schedule.specs.declared.report.Report.{Report}
use Rattle.server_model.specs.Runs.{Server}
use Rattle.server_model.specs.Seen.{Seen}
use Rattle.run_laws.specs.EntryCounts.{RunsOn, IsThere, OneMore, stored_by, are_counted, RunsCountEntries, FinishesCountEntries}
use Rattle.world_model.specs.meaning.Finishing.{Place}
use Rattle.invariant_laws.specs.Invariant.{Invariant}
use Rattle.invariant_laws.specs.KeptLaws.{RunsKeepInvariant, FinishesKeepInvariant}
use Rattle.world_model.specs.meaning.Machines.{start_of}
use Rattle.world_model.specs.OneEvent.{OneEvent}
use Rattle.world_model.specs.Reached.{Reached, Begins, GoesOn, IsFinishing, Scheduled, Finishes}
use Rattle.world_model.specs.records.Ready.{all_requests_right}
use Rattle.world_model.specs.Reported.{IsReported}
use Rattle.world_model.specs.meaning.Settings.{setting_of}
use Rattle.world_model.specs.Traced.{Traced}
use Rattle.shown_laws.specs.Closing.{AllUnclosed}
use Rattle.shown_laws.specs.ConnectionLaws.{AreTold}
use Rattle.shown_laws.specs.Identified.{is_identified, TellsIdentified, CallsAreIdentified}
use Rattle.shown_laws.specs.Telling.{seen_told, steps_told}
use Rattle.shown_laws.specs.Tellings.{Telling}
use Rattle.shown_laws.proofs.steps.ChainHolds.{AllHold, clients_hold}
use Rattle.shown_laws.proofs.steps.ClientsTold.{each_fresh, tells_none, clients_on}
use Rattle.shown_laws.proofs.events.Clock.{HasCome, reached_come, finishing_come}
use Rattle.shown_laws.proofs.links.LinksTold.{AllStand, runs_told, finishes_told}
use Rattle.shown_laws.proofs.shown.StepsIdentified.{step_identified}
use Rattle.shown_laws.proofs.links.UnclosedRuns.{reached_unclosed, finishing_unclosed}

-- what is told of the clients where a run starts
none_told : (test : Telling → Bool) (document : Document) → AllHold (setting_of document) test (start_of document).clients []
none_told test document = each_fresh (λ client own. TellsIdentified (setting_of document) test client own []) document (λ client script its. record { tells = tells_none (setting_of document) client script its; past = refl; now = refl })

module _ (kept : RunsKeepInvariant) (all : FinishesKeepInvariant) (stand : AllStand) (counted : RunsCountEntries) (counted_on : FinishesCountEntries) (document : Document) (report : Report) (last : Seen) (end : Traced) (server : Server)
    (right : IsTrue (all_requests_right document)) (is : IsReported document report last end server) where
  on : (before after : Seen) (old new : Traced) (event : Event) (note : Note) (notes : List Note) (items more : List Served) (one : OneEvent before old event note more [] after new) → HasCome notes items old.machine → Invariant old → AreTold notes items old
      → AllUnclosed old.machine → are_counted (stored_by document report) old ≡ true → AllHold old.setting (is_identified document report) old.machine.clients (steps_told notes items)
      → AllHold new.setting (is_identified document report) new.machine.clients (steps_told (notes ++ note ∷ []) (items ++ more))
  on before after old new event note notes items more one come inv are unclosed counts was =
      clients_on (λ setting. AllHold setting (is_identified document report)) before after old new event note notes items more one come inv are unclosed was
      (λ client did n acts.
      clients_hold (is_identified document report) old inv (seen_told notes items) client did n acts
      (λ steps telling tells at.
      step_identified document report old.setting client (length acts.own.past) acts.doing.request steps telling tells (subst (λ (t : Traced). are_counted (stored_by document report) t ≡ true) (sym at) counts))
      (steps_told notes items) was)

  reached_hold : (events : List Event) (notes : List Note) (items : List Served) (seen : Seen) (t : Traced) → Reached document events notes items seen t → RunsOn report.notes report.served last end notes items seen t
      → AllHold t.setting (is_identified document report) t.machine.clients (steps_told notes items)
  reached_hold _ _ _ _ _ (Begins seen start history horizon coupled) further = none_told (is_identified document report) document
  reached_hold _ _ _ _ _ (GoesOn events notes items more before after old new event note reached one forgets) further =
      let here : RunsOn report.notes report.served last end notes items before old = OneMore notes items more before after old new event note one further in
      on before after old new event note notes items more one (reached_come document events notes items before old reached) (kept document events notes items before old right reached)
      (runs_told kept stand document events notes items before old right reached) (reached_unclosed kept stand document right events notes items before old reached)
      (counted document report last end server events notes items before old right is reached here) (reached_hold events notes items before old reached here)

  finishing_hold : (place : Place) (notes : List Note) (items : List Served) (seen : Seen) (t : Traced) → IsFinishing document place notes items seen t → RunsOn report.notes report.served last end notes items seen t
      → AllHold t.setting (is_identified document report) t.machine.clients (steps_told notes items)
  finishing_hold _ _ _ _ _ (Scheduled notes items seen t reached) further = reached_hold document.schedule notes items seen t reached further
  finishing_hold _ _ _ _ _ (Finishes place later notes items more before after old new event note finishing next one forgets) further =
      let here : RunsOn report.notes report.served last end notes items before old = OneMore notes items more before after old new event note one further in
      on before after old new event note notes items more one (finishing_come document place notes items before old finishing) (all document place notes items before old right finishing)
      (finishes_told kept all stand document place notes items before old right finishing) (finishing_unclosed kept stand document right all place notes items before old finishing)
      (counted_on document report last end server place notes items before old right is finishing here) (finishing_hold place notes items before old finishing here)

pub calls_identified : RunsKeepInvariant → FinishesKeepInvariant → AllStand → RunsCountEntries → FinishesCountEntries → CallsAreIdentified
calls_identified kept all stand counted counted_on document report seen t server client own right is here =
    finishing_hold kept all stand counted counted_on document report seen t server right is is.run.place report.notes report.served seen t is.run.finishing IsThere client own here
