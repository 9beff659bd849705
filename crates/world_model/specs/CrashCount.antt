-- How many crashes a service counts, and the pick and the stop of the last one.
use Rattle.std.specs.Prelude.{◌≡◌, ◌+◌, ℕ, true, false, List, [], ◌∷◌, Some}
use Rattle.outage_schedule.specs.declared.event.Event.{Event}
use Rattle.outage_schedule.specs.declared.event.Event.TheVariants as event
use Rattle.outage_schedule.specs.declared.item.Served.{Served}
use Rattle.outage_schedule.specs.declared.note.Note.{Note}
use Rattle.outage_schedule.specs.declared.note.Note.TheVariants as note
use Rattle.server_model.specs.Seen.{ServiceState}

-- a crash was counted, with this pick
pub record Counted (pick : ℕ) (before after : ServiceState) : Type 0 where
  pub crashes : after.crashes ≡ before.crashes + 1
  pub pick_is : after.last_pick ≡ Some pick

-- where a frame was served under a stop, it is the last one's
abbrev pub StoppedAt : ℕ → List Served → ServiceState → Type 0
StoppedAt after [] state = Unit {0}
StoppedAt after (served ∷ items) state = state.last_stop ≡ Some after

-- A crash is counted where the server was up, and behind an opening that was begun under a stop. No
-- other event counts one.
abbrev pub CountsCrash : Event → Note → List Served → ServiceState → ServiceState → Type 0
CountsCrash (event.Crash connection after pick) (note.Crash named false) items before later =
    Counted pick before later × StoppedAt after items later
CountsCrash (event.UpCrash after pick) (note.UpCrash true) items before later =
    Counted pick before later × (later.last_stop ≡ Some after)
CountsCrash _ _ items before later = later.crashes ≡ before.crashes
