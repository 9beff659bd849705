-- A run that is over has made few calls on its service, which may be read.
use Rattle.std.proofs.Common.{◌≡◌, ◌∙◌, refl, sym, ap, arith, ◌+◌, ◌≤◌, ◌^◌, List, [], ◌∷◌, length, length-append}
use Rattle.outage_schedule.specs.declared.document.Document.{Document}
use Rattle.outage_schedule.specs.declared.event.Event.{Event}
use Rattle.outage_schedule.specs.declared.item.Served.{Served}
use Rattle.outage_schedule.specs.declared.note.Note.{Note}
use Rattle.doc_reader.specs.Keeping.{IsDocument}
use Rattle.server_model.specs.Seen.{Seen}
use Rattle.world_model.specs.FinishEnds.{CanFinish, FinishBegins, FinishFalls, FinishGoesOn}
use Rattle.run_laws.specs.FinishShort.{FinishIsShort}
use Rattle.world_model.specs.meaning.Finishing.{Place}
use Rattle.world_model.specs.Reached.{Reached, Begins, GoesOn, IsFinishing, Scheduled, Finishes}
use Rattle.world_model.specs.Remaining.{remaining}
use Rattle.world_model.specs.RunLaws.{RunsAreOrderly}
use Rattle.world_model.specs.Traced.{Traced}
use Rattle.world_model.proofs.Offered.{opens_once}
use Rattle.world_run.specs.declared.world.Ran.{Ran}
use Rattle.continuity_run.specs.Reading.{MayBeRead}
use Rattle.continuity_run.specs.Runs.{HasRun}
use Rattle.continuity_run.proofs.Documents.{are_limits}

-- each event counts
counted : (document : Document) (events : List Event) (notes : List Note) (items : List Served) (seen : Seen) (t : Traced) → Reached document events notes items seen t → t.machine.event ≡ length events
counted document _ _ _ _ _ (Begins seen start history horizon coupled) = refl
counted document _ _ _ _ _ (GoesOn events notes items more before after old new event note reached one forgets) =
    (opens_once old.setting old.machine new.machine event note more [] one.follows).0 ∙ (ap (λ count. count + 1) (counted document events notes items before old reached) ∙ sym (length-append events (event ∷ [])))

-- so far the finish has come, and so much is left of it at most
record IsFew (place : Place) (t : Traced) : Type 0 where
  can : CanFinish t place
  few : t.machine.event + remaining t.setting t.machine place ≤ 100000 + 2 ^ 44

module _ (begins : FinishBegins) (falls : FinishFalls) (goes_on : FinishGoesOn) (short : FinishIsShort) (orderly : RunsAreOrderly) (document : Document) (is : IsDocument document) where
  few_made : (place : Place) (notes : List Note) (items : List Served) (seen : Seen) (t : Traced) → IsFinishing document place notes items seen t → IsFew place t
  few_made _ _ _ _ _ (Scheduled notes items seen t reached) =
      let limits = are_limits document is in
      let event = counted document document.schedule notes items seen t reached in
      let few = is.few_events in
      let left = short document document.schedule notes items seen t limits reached few in
      record { can = begins t (orderly document document.schedule notes items seen t limits.have_calls reached); few = omega (arith, event, few, left) }
  few_made _ _ _ _ _ (Finishes place later notes items more before after old new event note finishing next one forgets) =
      let earlier = few_made place notes items before old finishing in
      let few = earlier.few in
      let less = falls before after old new event note more [] place later one earlier.can next in
      let counts = (opens_once old.setting old.machine new.machine event note more [] one.follows).0 in
      record { can = goes_on before after old new event note more [] place later one earlier.can next; few = omega (arith, few, less, counts) }

  pub may_be_read : {S : Type 0} (sees : S → Seen → Type 0) (ran : Ran S) → HasRun sees document ran → MayBeRead (sees ran.service) 2
  may_be_read sees ran has =
      let few = (few_made has.run.place ran.notes ran.served has.seen has.traced has.run.finishing).few in
      let calls = has.place.calls in
      record {
        seen = has.seen;
        seen_so = has.place.seen_so;
        live = has.place.ready.live;
        quiet = has.place.ready.quiet;
        unstopped = has.place.ready.unstopped;
        few = omega (arith, few, calls);
      }
