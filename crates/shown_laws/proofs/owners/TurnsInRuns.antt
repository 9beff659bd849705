-- Wherever a run has come to, the turns that are told of connections, and those that are told as
-- over, are what sessions served since a Begin.
use Rattle.std.proofs.Common.{refl, sym, subst, ◌+◌, ◌<◌, List, [], ◌∷◌, ◌++◌, zero, suc, arith}
use Rattle.outage_schedule.specs.declared.event.Event.{Event}
use Rattle.outage_schedule.specs.declared.item.Served.{Served}
use Rattle.outage_schedule.specs.declared.note.Note.{Note}
use Rattle.server_model.specs.Seen.{Seen}
use Rattle.shown_clauses.specs.meaning.Links.{Seen as AllSeen}
use Rattle.invariant_laws.specs.KeptLaws.{RunsKeepInvariant, FinishesKeepInvariant}
use Rattle.world_model.specs.OneEvent.{OneEvent}
use Rattle.world_model.specs.Reached.{Begins, GoesOn, Scheduled, Finishes}
use Rattle.world_model.specs.Traced.{Traced}
use Rattle.shown_laws.specs.ConnectionLaws.{AreTold}
use Rattle.shown_laws.specs.Connections.{TellsLinks}
use Rattle.shown_laws.specs.Telling.{seen_told}
use Rattle.shown_laws.specs.TurnsOver.{WereTurns, NoneOver, NothingBeside, RunsTellOver, FinishesTellOver}
use Rattle.shown_laws.specs.TurnsServed.{TellsTurns, RunsTellTurns, FinishesTellTurns}
use Rattle.shown_laws.proofs.events.Clock.{HasCome, grows_on, reached_come, finishing_come}
use Rattle.shown_laws.proofs.links.EventsTold.{Stands}
use Rattle.shown_laws.proofs.events.Following.{at_event, follow_does}
use Rattle.shown_laws.proofs.links.LinksTold.{AllStand, reached_links, finishing_links, runs_told, finishes_told}
use Rattle.shown_laws.proofs.owners.TurnsOver.{does_over}
use Rattle.shown_laws.proofs.owners.TurnsHappen.{does_turns}

-- An event more.
turns_on : (before after : Seen) (old new : Traced) (event : Event) (note : Note) (notes : List Note) (items more : List Served) → OneEvent before old event note more [] after new → HasCome notes items old.machine → Stands (at_event old.machine)
    → TellsLinks old.machine.links (seen_told notes items).links → TellsTurns old.machine.links (seen_told notes items).links → TellsTurns new.machine.links (seen_told (notes ++ note ∷ []) (items ++ more)).links
turns_on before after old new event note notes items more one come stands was turns =
    let seen : AllSeen = seen_told notes items in
    let some : 0 < old.machine.event + 1 = omega arith in
    subst (λ (told : AllSeen). TellsTurns new.machine.links told.links) (sym (grows_on before after old new event note notes items more one come).seen)
    (does_turns old.setting (at_event old.machine) stands some seen was.at turns old.machine.tick note more new.machine (follow_does old.setting old.machine event note more new.machine one.follows))

over_on : (before after : Seen) (old new : Traced) (event : Event) (note : Note) (notes : List Note) (items more : List Served) → OneEvent before old event note more [] after new → HasCome notes items old.machine → Stands (at_event old.machine)
    → AreTold notes items old → TellsTurns old.machine.links (seen_told notes items).links → WereTurns NothingBeside old.machine.links (seen_told notes items).over
    → WereTurns NothingBeside new.machine.links (seen_told (notes ++ note ∷ []) (items ++ more)).over
over_on before after old new event note notes items more one come stands are turns over =
    let seen : AllSeen = seen_told notes items in
    let some : 0 < old.machine.event + 1 = omega arith in
    subst (λ (told : AllSeen). WereTurns NothingBeside new.machine.links told.over) (sym (grows_on before after old new event note notes items more one come).seen)
    (does_over NothingBeside NothingBeside (λ turn served nothing. nothing) old.setting (at_event old.machine) stands some seen are.links.at are.sessions turns (λ number one turn is has. tt) over old.machine.tick note more new.machine (follow_does old.setting old.machine event note more new.machine one.follows))

module _ (kept : RunsKeepInvariant) (stand : AllStand) where
  pub reached_turns : RunsTellTurns
  reached_turns document _ _ _ _ _ right (Begins seen start history horizon coupled) = at_start
    where
      at_start : TellsTurns [] []
      at_start zero = refl
      at_start (suc index) = refl
  reached_turns document _ _ _ _ _ right (GoesOn events notes items more before after old new event note reached one forgets) =
      turns_on before after old new event note notes items more one (reached_come document events notes items before old reached) (stand old (kept document events notes items before old right reached))
      (reached_links kept stand document right events notes items before old reached) (reached_turns document events notes items before old right reached)

  pub finishing_turns : FinishesKeepInvariant → FinishesTellTurns
  finishing_turns all document _ _ _ _ _ right (Scheduled notes items seen t reached) = reached_turns document document.schedule notes items seen t right reached
  finishing_turns all document _ _ _ _ _ right (Finishes place later notes items more before after old new event note finishing next one forgets) =
      turns_on before after old new event note notes items more one (finishing_come document place notes items before old finishing) (stand old (all document place notes items before old right finishing))
      (finishing_links kept stand document right all place notes items before old finishing) (finishing_turns all document place notes items before old right finishing)

  pub reached_over : RunsTellOver
  reached_over document _ _ _ _ _ right (Begins seen start history horizon coupled) = NoneOver
  reached_over document _ _ _ _ _ right (GoesOn events notes items more before after old new event note reached one forgets) =
      over_on before after old new event note notes items more one (reached_come document events notes items before old reached) (stand old (kept document events notes items before old right reached))
      (runs_told kept stand document events notes items before old right reached) (reached_turns document events notes items before old right reached) (reached_over document events notes items before old right reached)

  pub finishing_over : FinishesKeepInvariant → FinishesTellOver
  finishing_over all document _ _ _ _ _ right (Scheduled notes items seen t reached) = reached_over document document.schedule notes items seen t right reached
  finishing_over all document _ _ _ _ _ right (Finishes place later notes items more before after old new event note finishing next one forgets) =
      over_on before after old new event note notes items more one (finishing_come document place notes items before old finishing) (stand old (all document place notes items before old right finishing))
      (finishes_told kept all stand document place notes items before old right finishing) (finishing_turns all document place notes items before old right finishing)
      (finishing_over all document place notes items before old right finishing)
