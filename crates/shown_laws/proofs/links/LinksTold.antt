-- Wherever a run has come to, what is told of its connections is what they are.
use Rattle.std.proofs.Common.{refl, sym, subst, ◌+◌, ◌<◌, List, [], ◌∷◌, ◌++◌, IsTrue, zero, suc, arith}
use Rattle.std.proofs.lemmas.Bool.{and_parts}
use Rattle.outage_schedule.specs.declared.document.Document.{Document}
use Rattle.outage_schedule.specs.declared.event.Event.{Event}
use Rattle.outage_schedule.specs.declared.item.Served.{Served}
use Rattle.outage_schedule.specs.declared.note.Note.{Note}
use Rattle.server_model.specs.Seen.{Seen}
use Rattle.shown_clauses.specs.meaning.Links.{Seen as AllSeen}
use Rattle.world_model.specs.meaning.Finishing.{Place}
use Rattle.invariant_laws.specs.Invariant.{Invariant}
use Rattle.invariant_laws.specs.KeptLaws.{RunsKeepInvariant, FinishesKeepInvariant}
use Rattle.world_model.specs.OneEvent.{OneEvent}
use Rattle.world_model.specs.Reached.{Reached, Begins, GoesOn, IsFinishing, Scheduled, Finishes}
use Rattle.world_model.specs.records.Ready.{all_requests_right}
use Rattle.world_model.specs.Traced.{Traced}
use Rattle.shown_laws.specs.Connections.{TellsLinks, NoLink}
use Rattle.shown_laws.specs.ConnectionLaws.{AreTold, RunsTellConnections, FinishesTellConnections}
use Rattle.shown_laws.specs.Growth.{next_told}
use Rattle.shown_laws.specs.Telling.{seen_told}
use Rattle.shown_laws.proofs.events.Clock.{HasCome, grows_on, reached_come, finishing_come}
use Rattle.shown_laws.proofs.links.ConnectionsTold.{AllTold}
use Rattle.shown_laws.proofs.links.EventsTold.{Stands, does_told}
use Rattle.shown_laws.proofs.events.Following.{at_event, follow_does}
use Rattle.shown_laws.proofs.links.SessionsApart.{are_apart}
use Rattle.shown_laws.proofs.links.ToldOnce.{still_once, found_by_session}

-- what the invariant says of the state in which an event begins
abbrev pub AllStand : Type 0
AllStand = (t : Traced) → Invariant t → Stands (at_event t.machine)

module _ (before after : Seen) (old new : Traced) (event : Event) (note : Note) (notes : List Note) (items more : List Served) (one : OneEvent before old event note more [] after new) (come : HasCome notes items old.machine) (stands : Stands (at_event old.machine)) where
  -- An event more.
  pub links_on : TellsLinks old.machine.links (seen_told notes items).links → TellsLinks new.machine.links (seen_told (notes ++ note ∷ []) (items ++ more)).links
  links_on was =
      let seen : AllSeen = seen_told notes items in
      let some : 0 < old.machine.event + 1 = omega arith in
      subst (λ (told : AllSeen). TellsLinks new.machine.links told.links) (sym (grows_on before after old new event note notes items more one come).seen)
      (record {
        at = does_told old.setting (at_event old.machine) stands some seen was.at old.machine.tick note more new.machine (follow_does old.setting old.machine event note more new.machine one.follows);
        once = still_once (next_told old.machine note more) seen was.once;
      })

module _ (kept : RunsKeepInvariant) (stand : AllStand) (document : Document) (right : IsTrue (all_requests_right document)) where
  pub reached_links : (events : List Event) (notes : List Note) (items : List Served) (seen : Seen) (t : Traced) → Reached document events notes items seen t → TellsLinks t.machine.links (seen_told notes items).links
  reached_links _ _ _ _ _ (Begins seen start history horizon coupled) = record { at = start_at; once = refl }
    where
      start_at : AllTold [] []
      start_at zero = NoLink
      start_at (suc index) = NoLink
  reached_links _ _ _ _ _ (GoesOn events notes items more before after old new event note reached one forgets) =
      links_on before after old new event note notes items more one (reached_come document events notes items before old reached) (stand old (kept document events notes items before old right reached))
      (reached_links events notes items before old reached)

  pub finishing_links : FinishesKeepInvariant → (place : Place) (notes : List Note) (items : List Served) (seen : Seen) (t : Traced) → IsFinishing document place notes items seen t → TellsLinks t.machine.links (seen_told notes items).links
  finishing_links all _ _ _ _ _ (Scheduled notes items seen t reached) = reached_links document.schedule notes items seen t reached
  finishing_links all _ _ _ _ _ (Finishes place later notes items more before after old new event note finishing next one forgets) =
      links_on before after old new event note notes items more one (finishing_come document place notes items before old finishing) (stand old (all document place notes items before old right finishing))
      (finishing_links all place notes items before old finishing)

-- by number and by session
pub both_told : (notes : List Note) (items : List Served) (t : Traced) → Invariant t → TellsLinks t.machine.links (seen_told notes items).links → AreTold notes items t
both_told notes items t inv told = record {
  links = told;
  sessions = found_by_session t.machine.links (seen_told notes items).links told.at told.once (are_apart t.machine.links (and_parts _ _ inv.orderly.basic.apart).0);
}

pub runs_told : RunsKeepInvariant → AllStand → RunsTellConnections
runs_told kept stand document events notes items seen t right reached =
    both_told notes items t (kept document events notes items seen t right reached) (reached_links kept stand document right events notes items seen t reached)

pub finishes_told : RunsKeepInvariant → FinishesKeepInvariant → AllStand → FinishesTellConnections
finishes_told kept all stand document place notes items seen t right finishing =
    both_told notes items t (all document place notes items seen t right finishing) (finishing_links kept stand document right all place notes items seen t finishing)
