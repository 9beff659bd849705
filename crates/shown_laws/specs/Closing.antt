-- No connection that a request in course held was closed: those that it lost were cut, or ended by
-- a crash or a block.
use Rattle.std.specs.Prelude.{◌≡◌, ◌⊎◌, ℕ, ◌==◌, false, IsTrue, List, Some}
use Rattle.std.specs.List.{list_any}
use Rattle.outage_schedule.specs.declared.document.Document.{Document}
use Rattle.outage_schedule.specs.declared.event.Event.{Event}
use Rattle.outage_schedule.specs.declared.item.Served.{Served}
use Rattle.outage_schedule.specs.declared.note.Note.{Note}
use Rattle.server_model.specs.Seen.{Seen}
use Rattle.world_model.specs.meaning.Clients.{Doing, Client, client_at}
use Rattle.world_model.specs.meaning.Finishing.{Place}
use Rattle.world_model.specs.meaning.Links.{Link, link_at}
use Rattle.world_model.specs.meaning.Machines.{Machine}
use Rattle.world_model.specs.Parts.{is_closed}
use Rattle.world_model.specs.Reached.{Reached, IsFinishing}
use Rattle.world_model.specs.records.Ready.{all_requests_right}
use Rattle.world_model.specs.Traced.{Traced}
use Rattle.world_model.specs.Words.{held_in}

-- A connection that it held is there and no Close was sent on it; it is the one that the request
-- has, or not open any more.
pub record IsUnclosed (links : List Link) (doing : Doing) (number : ℕ) : Type 0 where
  pub link : Link
  pub there : link_at links number ≡ Some link
  pub never : is_closed link ≡ false
  pub had : (doing.connection ≡ Some number) ⊎ (link.is_open ≡ false)

abbrev pub HeldUnclosed : List Link → Doing → Type 0
HeldUnclosed links doing = (number : ℕ) → IsTrue (list_any (λ other. other == number)
    (held_in doing.steps)) → IsUnclosed links doing number

abbrev pub AllUnclosed : Machine → Type 0
AllUnclosed m = (client : ℕ) (own : Client) (doing : Doing) → client_at m.clients client ≡ Some own
    → own.now ≡ Some doing → HeldUnclosed m.links doing

-- wherever a run has come to
abbrev pub RunsLeaveUnclosed : Type 0
RunsLeaveUnclosed =
    (document : Document) (events : List Event) (notes : List Note) (items : List Served)
    (seen : Seen) (t : Traced)
    → IsTrue (all_requests_right document) → Reached document events notes items seen t
    → AllUnclosed t.machine

abbrev pub FinishesLeaveUnclosed : Type 0
FinishesLeaveUnclosed =
    (document : Document) (place : Place) (notes : List Note) (items : List Served) (seen : Seen)
    (t : Traced)
    → IsTrue (all_requests_right document) → IsFinishing document place notes items seen t
    → AllUnclosed t.machine
