-- What a service begins with, by the journal before event 1.
use Rattle.std.proofs.Common.{◌≡◌, ℕ, List, map, sym, ap, ◌∙◌}
use Rattle.svc_values.specs.declared.schema.Schema.{Schema}
use Rattle.svc_values.specs.declared.schema.Shape.{Shape}
use Rattle.commit_log.specs.declared.journal.Journal.{Journal}
use Rattle.commit_log.specs.meaning.Bases.{schemas_of, sequence_name, shape_of}
use Rattle.outage_schedule.specs.declared.document.KeepOf.{KeepOf}
use Rattle.run_clauses.specs.meaning.Before.{tables_of}
use Rattle.run_clauses.specs.meaning.ServiceBase.{grants_of, sequences_of}
use Rattle.server_model.specs.meaning.Base.{Base}
use Rattle.table_store.specs.Stored.{Stored}
use Rattle.table_txn.specs.Transactions.{shape_of as shape_in}

abbrev pub base_from : KeepOf → Journal → Base
base_from keep before = record {
  shape = shape_of before.base;
  sequences = sequences_of before;
  grants = grants_of keep;
  tables = tables_of before;
  entries = before.entries;
  blocked = before.blocked;
  alerts = before.alerts;
  incarnation = before.incarnation;
  horizon = before.horizon;
}

pub shape_is : (before : Journal) (tables : Stored) (names : List (List ℕ)) → tables.schemas ≡ schemas_of before.base → names ≡ map sequence_name before.base.sequences → shape_of before.base ≡ shape_in tables names
shape_is before tables names declared named =
    let all : Shape = shape_of before.base in
    ap (λ (schemas : List Schema). record all { schemas = schemas }) (sym declared)
    ∙ ap (λ (sequences : List (List ℕ)). record { schemas = tables.schemas; sequences = sequences }) (sym named)
