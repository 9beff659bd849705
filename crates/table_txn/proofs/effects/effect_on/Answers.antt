use Rattle.std.proofs.Common.{◌≡◌, sym, ap, subst, ◌∙◌}
use Rattle.std.proofs.lemmas.Result.{IfOk-weaker}
use Rattle.std.specs.Prelude.{IfOk}
use Rattle.stmt_meaning.specs.declared.plan.Plan.{Plan}
use Rattle.stmt_meaning.specs.meaning.Effects.{effect, row_effect}
use Rattle.stmt_meaning.specs.meaning.Meaning.{seen_at}
use Rattle.stmt_meaning.specs.meaning.Plans.{place_of}
use Rattle.svc_values.specs.meaning.Tables.{with_writes}
use Rattle.table_txn.specs.Found.{row_in, IsFoundIfAny}
use Rattle.table_txn.specs.Own.{last_write, row_over}
use Rattle.table_txn.proofs.Over.{row_found, row_seen}
use Rattle.table_txn.proofs.effects.effect_on.Goals as goal

pub returns-in-AtRow : goal.returns-in-AtRow
returns-in-AtRow c =
    let rows = c.args.tables.now.rows in
    let writes = c.args.own.now in
    let table = c.in-AtRow.table in
    let key = c.in-AtRow.key in
    let found = subst (λ (p : Plan). IsFoundIfAny rows (place_of p) c.args.committed) c.in-AtRow.is c.requires.found in
    let seen = c.row_at-row.ensures ∙ ap (row_over (last_write writes table key)) c.committed_row.ensures ∙ row_seen rows table key writes (row_in c.args.committed) (row_found rows table key c.args.committed found) in
    subst (λ (p : Plan). IfOk c.row_effect.result (λ made. made ≡ effect p (seen_at (with_writes rows writes) (place_of p)))) (sym c.in-AtRow.is)
    (IfOk-weaker c.row_effect.result _ _ (λ made is. is ∙ ap (row_effect table key c.in-AtRow.work) seen) c.row_effect.ensures)
