use Rattle.std.proofs.Common.{List, sym, ap, ◌∙◌}
use Rattle.svc_values.specs.declared.tables.PlainRow.{PlainRow}
use Rattle.svc_values.specs.meaning.Tables.{with_writes}
use Rattle.server_model.specs.meaning.Walk.{take_entry}
use Rattle.table_store.specs.Stored.{Stored as Tables}
use Rattle.table_txn.specs.Transactions.{shape_of}
use Rattle.legal_walk.specs.Stored.{Stored}
use Rattle.legal_walk.proofs.Holding.{moves_one}
use Rattle.legal_walk.proofs.service.Service.commit.Goals as goal

pub returns : goal.returns
returns c =
    let service = c.args.self.now in
    let writes = c.args.writes.now in
    let wrote = c.in_ok-apply.ensures.ok in
    let rows = ap (λ (t : Tables). t.rows) wrote in
    let put = c.in_ok-store.ensures in
    record {
      schemas = ap (λ (t : Tables). t.schemas) wrote;
      on = moves_one service _ writes c.schemas.ensures.kept.ordered c.in_ok-note.ensures rows;
      beside = λ base walk beside. record {
        shape = beside.shape ∙ ap (λ (t : Tables). shape_of t service.names) (sym wrote);
        sequences = beside.sequences;
        grants = beside.grants;
        committed = ap (λ (now : List PlainRow). with_writes now writes) beside.committed ∙ sym rows;
        stored = (λ i. (take_entry (beside.stored i) (beside.left i)).0) ∙ sym (ap (λ (s : Stored). s.stored) put);
        left = (λ i. (take_entry (beside.stored i) (beside.left i)).1) ∙ sym (ap (λ (s : Stored). s.left) put);
        blocked = beside.blocked;
        perhaps = beside.perhaps;
        numbers = beside.numbers;
        over = beside.over;
      };
    }
