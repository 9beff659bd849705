-- What a transaction read, beside the commits of others.
use Rattle.std.proofs.Common.{◌≡◌, List, sym, subst}
use Rattle.svc_values.specs.declared.entry.Write.{Write}
use Rattle.svc_values.specs.declared.tables.PlainRow.{PlainRow}
use Rattle.svc_values.specs.meaning.Tables.{with_writes}
use Rattle.svc_values.specs.Tables.{AreTables}
use Rattle.table_txn.specs.Changes.{Written, HasNoted, HoldsSince as StandsSince}
use Rattle.table_txn.proofs.Offered.{holds_commit}
use Rattle.server_session.specs.declared.shared.Core.{Core}
use Rattle.server_session.specs.Holds.{MovesOn}

-- no commit was applied
pub moves_none : (core later : Core) → later.changes ≡ core.changes → later.tables.rows ≡ core.tables.rows → MovesOn core later
moves_none core later changes rows = record {
  on = λ since readings holds. subst (λ (c : Written). StandsSince c later.tables.rows since readings) (sym changes) (subst (λ (now : List PlainRow). StandsSince core.changes now since readings) (sym rows) holds);
}

-- one was
pub moves_one : (core later : Core) (writes : List Write) → AreTables core.tables.rows → HasNoted core.changes writes later.changes → later.tables.rows ≡ with_writes core.tables.rows writes → MovesOn core later
moves_one core later writes ordered noted wrote = record {
  on = λ since readings holds. subst (λ (now : List PlainRow). StandsSince later.changes now since readings) (sym wrote) (holds_commit core.changes later.changes core.tables.rows writes since readings ordered noted holds);
}
