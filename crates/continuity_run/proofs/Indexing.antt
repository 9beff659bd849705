-- A store that is made of a document takes the indexes of the document's tables.
use Rattle.std.proofs.Common.{◌≡◌, ◌∙◌, sym, subst, ℕ, Result, Ok}
use Rattle.std.specs.Prelude.{IsTrue}
use Rattle.std.specs.List.{list_all}
use Rattle.table_store.specs.Given.{is_index_of}
use Rattle.commit_log.specs.declared.journal.Journal.{Journal}
use Rattle.commit_log.specs.meaning.Bases.{schemas_of}
use Rattle.disk_model.specs.Mem.{mem_state}
use Rattle.outage_schedule.specs.declared.document.Document.{Document}
use Rattle.doc_reader.specs.Keeping.{IsDocument}
use Rattle.run_clauses.specs.meaning.Before.{base_of, journal_before}
use Rattle.before_run.specs.Indexes.{indexes_of}
use Rattle.before_run.proofs.Offered.{indexes_declared}
use Rattle.service_core.specs.Indexed.{FitBase}
use Rattle.continuity_run.specs.declared.store.Store.{Store}
use Rattle.continuity_run.specs.Stores.{IsStoreOf}

pub indexes_fit : (document : Document) → IsDocument document → (store : Store) → IsStoreOf (base_of document) document.image store → FitBase (indexes_of document.tables) (mem_state store.disk).now.seen
indexes_fit document is store made journal reads =
    let same : ◌≡◌ {A = Result Journal ℕ} (Ok (journal_before document)) (Ok journal) = sym made.reads ∙ reads in
    let before : journal_before document ≡ journal = cc in
    subst (λ (j : Journal). IsTrue (list_all (is_index_of (schemas_of j.base)) (indexes_of document.tables))) before (indexes_declared document is)
