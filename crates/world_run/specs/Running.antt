-- How a run so far stands for where the machine of its document has come to.
use Rattle.std.specs.Prelude.{◌≡◌, ◌+◌, ◌≤◌, ◌^◌, ℕ, List, [], ◌∷◌, ◌++◌, length, Some}
use Rattle.request_bounds.specs.meaning.Rules.{Rules}
use Rattle.outage_schedule.specs.declared.document.Client.{Client as Script}
use Rattle.outage_schedule.specs.declared.event.Event.{Event}
use Rattle.outage_schedule.specs.declared.item.Served.{Served}
use Rattle.outage_schedule.specs.declared.note.Note.{Note}
use Rattle.run_clauses.specs.meaning.Horizons.{Ended, Openings, after_note, wanted_horizon}
use Rattle.server_model.specs.Seen.{Seen}
use Rattle.world_model.specs.Forgets.{Forgets, openings_of}
use Rattle.world_model.specs.meaning.Machines.{Server}
use Rattle.world_model.specs.OneEvent.{OneEvent}
use Rattle.world_model.specs.Traced.{Traced}
use Rattle.world_core.specs.declared.traffic.Traffic.{Traffic}
use Rattle.world_core.specs.Among.{StandEach, scripts_of}
use Rattle.world_core.specs.Coursing.{Held}
use Rattle.world_core.specs.Forgetting.{Held as Tracked, Tracks}
use Rattle.world_core.specs.Making.{IsAt}

-- WHERE A RUN STANDS ------------------------------------------------------------------------------

-- each of these incarnations ended no later than this one began
abbrev pub AllBy : ℕ → List Ended → Type 0
AllBy incarnation [] = Unit {0}
AllBy incarnation (one ∷ ended) = (one.incarnation ≤ incarnation) × AllBy incarnation ended

-- no incarnation that goes on or has ended comes after this one
pub record AreKnown (told : Openings) (incarnation : ℕ) : Type 0 where
  pub running : (one : ℕ) → told.running ≡ Some one → one ≤ incarnation
  pub ended : AllBy incarnation told.ended

-- a run so far: its service and the traffic to it, its clients, the openings of its store, and what
-- its events did
pub record Parts (S R : Type 0) : Type 0 where
  pub service : S
  pub traffic : Traffic
  pub clients : List (Held R)
  pub openings : Tracked
  pub notes : List Note
  pub served : List Served

-- the last incarnation that the store may have
abbrev pub last_incarnation : Server → ℕ
last_incarnation server = server.incarnation + server.stopped

-- the event is noted
pub record Notes {S R : Type 0} (note : Note) (items : List Served)
    (before after : Parts S R) : Type 0 where
  pub notes : after.notes ≡ before.notes ++ note ∷ []
  pub served : after.served ≡ before.served ++ items
  pub tracked : (retention : ℕ) (told : Openings) → Tracks retention before.openings told
      → Tracks retention after.openings (after_note told note)
  pub same : (after.service ≡ before.service) × (after.traffic ≡ before.traffic)
      × (after.clients ≡ before.clients)

module _ (S R : Type 0) (sees : S → Seen → Type 0) (rules : R → Rules) (scripts : List Script) where
  -- service and clients stand so
  pub record StandBeside (parts : Parts S R) (seen : Seen) (t : Traced) : Type 0 where
    pub place : IsAt (sees parts.service) parts.traffic seen t
    pub scripted : t.setting.scripts ≡ scripts_of scripts
    pub stand : StandEach R rules parts.clients t

  -- What is seen of the service, and where the machine has come to, in a run with these scripts,
  -- whose store was opened so before event 1.
  pub record Stands (retention : ℕ) (first : Openings) (parts : Parts S R) (seen : Seen)
      (t : Traced) : Type 0 where
    pub beside : StandBeside parts seen t
    -- each event has its note
    pub counted : t.machine.event ≡ length parts.notes
    -- what may be forgotten is what the notes tell
    pub tracked : Tracks retention parts.openings (openings_of first parts.notes)
    pub known : AreKnown (openings_of first parts.notes) seen.state.store.incarnation
    pub began : first.tick ≡ 0
    pub low : last_incarnation t.machine.server ≤ 2 ^ 62 + 1 + length parts.notes

  -- it stands somewhere
  pub record StandsSomewhere (parts : Parts S R) : Type 0 where
    pub retention : ℕ
    pub first : Openings
    pub seen : Seen
    pub traced : Traced
    pub stands : Stands retention first parts seen traced

  -- The event was made, and is not noted yet.
  pub record IsLed (event : Event) (note : Note) (items : List Served) (before after : Parts S R)
      (seen : Seen) (t : Traced) : Type 0 where
    pub seen_later : Seen
    pub later : Traced
    pub made : OneEvent seen t event note items [] seen_later later
    -- an opening asked for the horizon that the openings so far want
    pub forgets : (retention : ℕ) (told : Openings) → Tracks retention before.openings told
        → Forgets (wanted_horizon retention told) note seen.state.store seen_later.state.store
    pub beside : StandBeside after seen_later later
    pub same : (after.openings ≡ before.openings) × (after.notes ≡ before.notes)
        × (after.served ≡ before.served)

  abbrev pub Leads : Event → Note → List Served → Parts S R → Parts S R → Type 0
  Leads event note items before after = (seen : Seen) (t : Traced) → StandBeside before seen t
      → IsLed event note items before after seen t

  -- The event was made: machine and service went on by it, with one note more, and the items that
  -- it served. An opening forgot what is wanted then.
  pub record GoesOn (retention : ℕ) (first : Openings) (event : Event) (before after : Parts S R)
      (seen : Seen) (t : Traced) : Type 0 where
    pub seen_later : Seen
    pub later : Traced
    pub note : Note
    pub items : List Served
    pub made : OneEvent seen t event note items [] seen_later later
    pub forgets : Forgets (wanted_horizon retention (openings_of first before.notes)) note
        seen.state.store seen_later.state.store
    pub stands : Stands retention first after seen_later later
    pub notes : after.notes ≡ before.notes ++ note ∷ []
    pub served : after.served ≡ before.served ++ items

  -- whatever was seen, and wherever the machine stood
  abbrev pub MakesOne : Event → Parts S R → Parts S R → Type 0
  MakesOne event before after = (retention : ℕ) (first : Openings) (seen : Seen) (t : Traced)
      → Stands retention first before seen t → GoesOn retention first event before after seen t
