-- All clients of a run, each beside the machine's of its number.
use Rattle.std.specs.Prelude.{◌≡◌, ℕ, suc, false, List, [], length, map, slice_get, Some, None}
use Rattle.std.specs.List.{AllByRecursion}
use Rattle.client_model.specs.meaning.Terms.{Terms}
use Rattle.request_bounds.specs.meaning.Rules.{Rules}
use Rattle.outage_schedule.specs.declared.document.Client.{Client as Script}
use Rattle.outage_schedule.specs.declared.document.Document.{Document}
use Rattle.outage_schedule.specs.declared.document.Request.{Request}
use Rattle.outage_schedule.specs.declared.event.Event.{Event}
use Rattle.outage_schedule.specs.declared.event.Event.TheVariants as event
use Rattle.outage_schedule.specs.declared.item.Served.{Served}
use Rattle.outage_schedule.specs.declared.note.Note.{Note}
use Rattle.server_model.specs.Seen.{Seen}
use Rattle.world_model.specs.meaning.Clients.{Client, client_at, script_at}
use Rattle.world_model.specs.Forgets.{Forgets}
use Rattle.world_model.specs.Matching.{is_go}
use Rattle.world_model.specs.OneEvent.{OneEvent}
use Rattle.world_model.specs.Reached.{traced_start}
use Rattle.world_model.specs.meaning.Settings.{terms_of}
use Rattle.world_model.specs.Traced.{Traced}
use Rattle.world_core.specs.declared.traffic.Traffic.{Traffic}
use Rattle.world_core.specs.Coursing.{Held, IsFit}
use Rattle.world_core.specs.Making.{IsAt}
use Rattle.world_core.specs.Beside.{StandsFor}

-- Each client that is held stands for the machine's of its number, by its own script, and the
-- machine has no further ones.
pub record StandEach (R : Type 0) (rules : R → Rules) (held : List (Held R))
    (t : Traced) : Type 0 where
  pub many : length held ≡ length t.setting.scripts
  pub each : (index : ℕ) (one : Held R) → slice_get held index ≡ Some one
      → (client : Client) × StandsFor R rules (script_at t.setting (suc index))
      (suc index) one t client
  pub none : (index : ℕ) → slice_get held index ≡ None
      → client_at t.machine.clients (suc index) ≡ None

-- so they do behind an event that is no step of a client
abbrev pub StayEach : (R : Type 0) → (R → Rules) → Type 0
StayEach R rules =
    (seen later : Seen) (t next : Traced) (event : Event) (note : Note) (items left : List Served)
    (held : List (Held R)) → OneEvent seen t event note items left later next
    → is_go event ≡ false → StandEach R rules held t → StandEach R rules held next

abbrev pub scripts_of : List Script → List (List Request)
scripts_of clients = map (λ client. client.requests) clients

-- service and traffic stand somewhere, with clients of these scripts beside them
pub record SomeAmong (R : Type 0) (rules : R → Rules) (sees : Seen → Type 0) (scripts : List Script)
    (traffic : Traffic) (held : List (Held R)) : Type 0 where
  pub seen : Seen
  pub traced : Traced
  pub place : IsAt sees traffic seen traced
  pub scripted : traced.setting.scripts ≡ scripts_of scripts
  pub stand : StandEach R rules held traced

-- the step of the client of this number was made, and all stand for what the machine has then
pub record StepAmong (R : Type 0) (rules : R → Rules) (sees_later : Seen → Type 0) (number : ℕ)
    (after : Traffic) (held : List (Held R)) (seen : Seen) (t : Traced) (note : Note) : Type 0 where
  pub seen_later : Seen
  pub later : Traced
  pub made : OneEvent seen t (event.Go number) note [] [] seen_later later
  pub forgets : (below : ℕ) → Forgets below note seen.state.store seen_later.state.store
  pub place : IsAt sees_later after seen_later later
  pub stand : StandEach R rules held later

abbrev pub MakesAmong : (R : Type 0) → (R → Rules) → (Seen → Type 0) → Traffic → (Seen → Type 0)
    → Traffic → List Script → ℕ → List (Held R) → List (Held R) → Note → Type 0
MakesAmong R rules sees before sees_later after scripts number old new note =
    (seen : Seen) (t : Traced) → IsAt sees before seen t → t.setting.scripts ≡ scripts_of scripts
    → StandEach R rules old t → StepAmong R rules sees_later number after new seen t note

-- each request of a script is fit
abbrev pub IsFitScript : Script → Type 0
IsFitScript script = AllByRecursion IsFit script.requests

-- before the first event, where drivers go by the terms of the run
abbrev pub BeginEach : (R : Type 0) → (R → Rules) → Terms → List Script → List (Held R) → Type 0
BeginEach R rules terms scripts held = (document : Document) → scripts ≡ document.clients
    → terms ≡ terms_of document.service → StandEach R rules held (traced_start document)
