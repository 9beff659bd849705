use Rattle.std.proofs.Common.{List, map, sym, subst}
use Rattle.commit_log.specs.declared.base.BaseTable.{BaseTable}
use Rattle.commit_log.specs.declared.base.BaseSequence.{BaseSequence}
use Rattle.commit_log.specs.Bases.{IsBase}
use Rattle.run_clauses.specs.meaning.Before.{base_table}
use Rattle.before_run.proofs.Offered.{begins_base}
use Rattle.continuity_run.proofs.store.store_of.Goals as goal

pub created-requires : goal.created-requires
created-requires c =
    subst (λ (tables : List BaseTable). IsBase (record { tables = tables; sequences = c.in_ok-sequences_in.field-0 })) (sym c.in_ok-tables_in.ensures)
    (subst (λ (sequences : List BaseSequence). IsBase (record { tables = map base_table c.args.tables; sequences = sequences })) (sym c.in_ok-sequences_in.ensures)
    (begins_base c.args.tables c.args.sequences c.requires.tables c.requires.table_names c.requires.sequences c.requires.sequence_names))
