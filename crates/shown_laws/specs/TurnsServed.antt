-- What a session served since its last Begin, by its items, and as it is told.
use Rattle.std.specs.Prelude.{◌≡◌, ℕ, Bool, false, IsTrue, List, [], ◌∷◌, fold, Option, Some, None, option_map}
use Rattle.std.specs.Option.{option_map_or}
use Rattle.svc_values.specs.declared.call.Call.{Call}
use Rattle.outage_schedule.specs.declared.document.Document.{Document}
use Rattle.outage_schedule.specs.declared.event.Event.{Event}
use Rattle.outage_schedule.specs.declared.item.Item.{Item}
use Rattle.outage_schedule.specs.declared.item.Item.TheVariants as item
use Rattle.outage_schedule.specs.declared.item.Served.{Served}
use Rattle.outage_schedule.specs.declared.note.Note.{Note}
use Rattle.server_model.specs.Seen.{Seen as ServerSeen}
use Rattle.shown_clauses.specs.meaning.Links.{Link as Seen, Marked, link_of}
use Rattle.world_model.specs.meaning.Finishing.{Place}
use Rattle.world_model.specs.meaning.Frames.{Handled}
use Rattle.world_model.specs.meaning.Links.{Link, link_at}
use Rattle.world_model.specs.Reached.{Reached, IsFinishing}
use Rattle.world_model.specs.records.Ready.{all_requests_right}
use Rattle.world_model.specs.Traced.{Traced}
use Rattle.shown_laws.specs.Telling.{seen_told}

-- The calls since the last Begin, the newest first. None where none was served.
abbrev pub with_call : Bool → Call → Option (List Marked) → Option (List Marked)
with_call replay call calls = option_map (λ before. record {
  replay = replay;
  call = call;
} ∷ before) calls

abbrev pub calls_after : Option (List Marked) → Item → Option (List Marked)
calls_after calls (item.Begin settings) = Some []
calls_after calls (item.Call replay call answers draws) = with_call replay call calls
calls_after calls (item.Blocked call) = with_call false call calls
calls_after calls (item.CrashedCall replay call) = with_call replay call calls
calls_after calls _ = calls

abbrev pub calls_served : List Handled → Option (List Marked)
calls_served served = fold (λ calls one. calls_after calls one.served.item) None served

-- what was served on the connection of a number, and the calls since the last Begin
abbrev pub served_in : Option Link → List Handled
served_in found = option_map_or (λ link. link.served) found []

abbrev pub served_at : ℕ → List Link → Option (List Marked)
served_at number links = calls_served (served_in (link_at links number))

-- as it is told
abbrev pub calls_told : Seen → Option (List Marked)
calls_told one = option_map (λ turn. turn.calls) one.turn

abbrev pub told_at : ℕ → List Seen → Option (List Marked)
told_at number told = option_map_or calls_told (link_of number told) None

-- The turn that is told of each connection has the calls that its session served since its last
-- Begin, and none is told where none was served.
abbrev pub TellsTurns : List Link → List Seen → Type 0
TellsTurns links told = (number : ℕ) → told_at number told ≡ served_at number links

abbrev pub RunsTellTurns : Type 0
RunsTellTurns =
    (document : Document) (events : List Event) (notes : List Note) (items : List Served)
    (seen : ServerSeen) (t : Traced)
    → IsTrue (all_requests_right document) → Reached document events notes items seen t
    → TellsTurns t.machine.links (seen_told notes items).links

abbrev pub FinishesTellTurns : Type 0
FinishesTellTurns =
    (document : Document) (place : Place) (notes : List Note) (items : List Served)
    (seen : ServerSeen) (t : Traced)
    → IsTrue (all_requests_right document) → IsFinishing document place notes items seen t
    → TellsTurns t.machine.links (seen_told notes items).links
