-- What a transaction read, beside the commits of others.
use Rattle.std.proofs.Common.{◌≡◌, List, sym, subst}
use Rattle.svc_values.specs.declared.entry.Write.{Write}
use Rattle.svc_values.specs.declared.schema.Schema.{Schema}
use Rattle.svc_values.specs.declared.tables.PlainRow.{PlainRow}
use Rattle.svc_values.specs.meaning.Tables.{with_writes}
use Rattle.svc_values.specs.Tables.{AreTables}
use Rattle.table_txn.specs.Changes.{Written, HasNoted, HoldsSince as StandsSince}
use Rattle.table_txn.proofs.Offered.{holds_commit}
use Rattle.server_model.specs.meaning.Walk.{Transaction}
use Rattle.legal_walk.specs.declared.ongoing.Ongoing.{Ongoing}
use Rattle.legal_walk.specs.declared.service.Service.{Service}
use Rattle.legal_walk.specs.Holds.{MovesOn}
use Rattle.legal_walk.specs.Going.{Goes, GoesAt}

-- a transaction goes on beside a service that has moved on
pub goes_later : (service later : Service) (transaction : Transaction) (one : Ongoing) → later.tables.schemas ≡ service.tables.schemas → MovesOn service later → GoesAt service transaction one → GoesAt later transaction one
goes_later service later transaction one schemas moves at = record {
  goes = subst (λ (s : List Schema). Goes s transaction one) (sym schemas) at.goes;
  holds = moves.on one.since one.going.readings at.holds;
}

-- no commit was applied
pub moves_none : (service later : Service) → later.changes ≡ service.changes → later.tables.rows ≡ service.tables.rows → MovesOn service later
moves_none service later changes rows = record {
  on = λ since readings holds. subst (λ (c : Written). StandsSince c later.tables.rows since readings) (sym changes) (subst (λ (now : List PlainRow). StandsSince service.changes now since readings) (sym rows) holds);
}

-- one was
pub moves_one : (service later : Service) (writes : List Write) → AreTables service.tables.rows → HasNoted service.changes writes later.changes → later.tables.rows ≡ with_writes service.tables.rows writes → MovesOn service later
moves_one service later writes ordered noted wrote = record {
  on = λ since readings holds. subst (λ (now : List PlainRow). StandsSince later.changes now since readings) (sym wrote) (holds_commit service.changes later.changes service.tables.rows writes since readings ordered noted holds);
}
