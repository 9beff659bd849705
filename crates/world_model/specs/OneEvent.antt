-- One event of a run: the machine follows it, and the service does what its items and its note say.
use Rattle.std.specs.Prelude.{◌≡◌, ◌≤◌, List, [], ◌∷◌, ◌++◌, flat_map, Some, All}
use Rattle.svc_values.specs.declared.draw.Draw.{Draw}
use Rattle.svc_values.specs.declared.entry.Entry.{Entry}
use Rattle.svc_values.specs.declared.entry.Ltxid.{Ltxid}
use Rattle.svc_values.specs.declared.entry.SessionId.{SessionId}
use Rattle.outage_schedule.specs.declared.event.Event.{Event}
use Rattle.outage_schedule.specs.declared.note.Note.{Note}
use Rattle.outage_schedule.specs.declared.note.Note.TheVariants as note
use Rattle.outage_schedule.specs.declared.item.Served.{Served}
use Rattle.server_model.specs.Runs.{Happened}
use Rattle.server_model.specs.Seen.{Seen}
use Rattle.server_model.specs.ServiceCalls.{CameFrom, WasAsked}
use Rattle.world_model.specs.meaning.Machines.{next_session}
use Rattle.world_model.specs.Traced.{Traced}
use Rattle.world_model.specs.meaning.Walking.{follow}
use Rattle.world_model.specs.ServiceDid.{ServiceDid}
use Rattle.world_model.specs.Coupled.{Coupled}
use Rattle.world_model.specs.CrashCount.{CountsCrash}
use Rattle.world_model.specs.ToldByStore.{AreByStore}

-- the session of a run outside, if one was made
abbrev pub session_outside : Traced → Note → List SessionId
session_outside t (note.Outside (Some ran)) = next_session t.machine.server ∷ []
session_outside t _ = []

-- what it drew
abbrev pub drawn_outside : Note → List Draw
drawn_outside (note.Outside (Some ran)) = flat_map (λ run. run.draws) ran.runs
drawn_outside _ = []

-- The incarnation of the store never falls. What the journal gained in the event stands behind what
-- it held: entries come from what happened, and blocks were asked for in it. The crashes that the
-- service counts are those of the events, each with its pick and its stop. What was told of
-- identifiers is told by the table on what the store held before.
pub record OneEvent (before : Seen) (old : Traced) (event : Event) (note : Note)
    (items left : List Served) (after : Seen) (new : Traced) : Type 0 where
  pub follows : follow old.setting old.machine event note items ≡ Some (new.machine, left)
  pub happened : List Happened
  pub did : ServiceDid old.machine event note items happened
  pub told : AreByStore before.state.store happened
  pub history : after.history ≡ before.history ++ happened
  pub start : after.start ≡ before.start
  pub rises : before.state.store.incarnation ≤ after.state.store.incarnation
  pub crashes : CountsCrash event note items before.state after.state
  pub coupled_before : Coupled before old
  pub coupled_after : Coupled after new
  pub more_entries : List Entry
  pub entries : new.entries ≡ old.entries ++ more_entries
  pub own : All (CameFrom happened) more_entries
  pub more_blocked : List Ltxid
  pub blocked : new.blocked ≡ old.blocked ++ more_blocked
  pub asked : All (WasAsked happened) more_blocked
  pub setting : new.setting ≡ old.setting
  pub image : new.image ≡ old.image
  pub outside : new.outside ≡ old.outside ++ session_outside old note
  pub outside_draws : new.outside_draws ≡ old.outside_draws ++ drawn_outside note
