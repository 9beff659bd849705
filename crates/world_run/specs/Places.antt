-- How far the finish of a run has come, and where it ends.
use Rattle.std.specs.Prelude.{◌≤◌, ◌^◌, ℕ, List}
use Rattle.request_bounds.specs.meaning.Rules.{Rules}
use Rattle.outage_schedule.specs.declared.document.Client.{Client as Script}
use Rattle.outage_schedule.specs.declared.document.Document.{Document}
use Rattle.outage_schedule.specs.declared.event.Event.{Event}
use Rattle.run_clauses.specs.meaning.Horizons.{Openings}
use Rattle.server_model.specs.Seen.{Seen}
use Rattle.world_model.specs.Forgets.{first_of}
use Rattle.world_model.specs.meaning.Finishing.{Place, AtServer, AtOrphans, AtRound, AtClients, AtLinks}
use Rattle.world_model.specs.Reached.{IsFinishing, IsRun}
use Rattle.world_model.specs.Remaining.{remaining}
use Rattle.world_model.specs.Traced.{Traced}
use Rattle.world_run.specs.declared.finishing.Place.{Place as Held}
use Rattle.world_run.specs.declared.finishing.Place.TheVariants as place
use Rattle.world_run.specs.Running.{Parts, Stands}

abbrev pub place_of : Held → Place
place_of place.Server = AtServer
place_of place.Orphans = AtOrphans
place_of place.Round = AtRound
place_of (place.Clients last) = AtClients last
place_of place.Links = AtLinks

-- the next event, and how far the finish has come then
abbrev pub led_to : Event × Held → Event × Place
led_to next = (next.0, place_of next.1)

module _ (S R : Type 0) (sees : S → Seen → Type 0) (rules : R → Rules) (scripts : List Script) where
  -- it stands where so much may be left of the finish at most
  pub record IsShort (parts : Parts S R) : Type 0 where
    pub retention : ℕ
    pub first : Openings
    pub seen : Seen
    pub traced : Traced
    pub stands : Stands S R sees rules scripts retention first parts seen traced
    pub short : remaining traced.setting traced.machine AtServer ≤ 2 ^ 44

  -- a whole run of the document
  pub record IsOver (document : Document) (parts : Parts S R) : Type 0 where
    pub seen : Seen
    pub traced : Traced
    pub stands : Stands S R sees rules scripts document.service.retention
        (first_of document) parts seen traced
    pub run : IsRun document parts.notes parts.served seen traced

  -- wherever the schedule of a document has led to, the finish leads on to the end of its run
  abbrev pub Finishes : Parts S R → Parts S R → Type 0
  Finishes before after =
      (document : Document) (seen : Seen) (t : Traced)
      → Stands S R sees rules scripts document.service.retention (first_of document) before seen
      t → IsFinishing document AtServer before.notes before.served seen t
      → IsOver document after
