-- What a document that was read keeps to.
use Rattle.std.specs.Prelude.{ℕ, ◌≤◌, ◌==◌, Bool, true, ◌&&◌, List, length, Option, Some, None, IsTrue}
use Rattle.std.specs.List.{list_all}
use Rattle.std.specs.Str.{bytes_eq}
use Rattle.json_form.specs.Arrays.{have_distinct_keys}
use Rattle.outage_schedule.specs.declared.document.DocTable.{DocTable}
use Rattle.outage_schedule.specs.declared.document.DocSequence.{DocSequence}
use Rattle.outage_schedule.specs.declared.document.Document.{Document}
use Rattle.commit_log.specs.meaning.Journals.{journal_of}
use Rattle.document_forms.specs.Keeping.{is_service, is_table, is_sequence, is_client, is_event}
use Rattle.doc_reader.specs.meaning.Images.{is_store}
use Rattle.doc_reader.specs.meaning.Counts.{is_small}

-- an image stands alone, and is that of a store
abbrev pub is_begin : List DocTable → List DocSequence → Option (List ℕ) → Bool
is_begin tables sequences None = true
is_begin tables sequences (Some image) =
    (length tables == 0) && ((length sequences == 0) && is_store (journal_of image))

pub record IsDocument (document : Document) : Type 0 where
  pub service : IsTrue (is_service document.service)
  pub tables : IsTrue (list_all is_table document.tables)
  pub table_names : IsTrue (have_distinct_keys bytes_eq (λ table. table.name) document.tables)
  pub few_tables : length document.tables ≤ 32
  pub sequences : IsTrue (list_all is_sequence document.sequences)
  pub sequence_names : IsTrue (have_distinct_keys bytes_eq (λ sequence. sequence.name)
      document.sequences)
  pub few_sequences : length document.sequences ≤ 32
  pub begins : IsTrue (is_begin document.tables document.sequences document.image)
  pub clients : IsTrue (list_all is_client document.clients)
  pub few_clients : length document.clients ≤ 64
  pub schedule : IsTrue (list_all (is_event (length document.clients) document.service.standby)
      document.schedule)
  pub few_events : length document.schedule ≤ 100000
  pub small : IsTrue (is_small document)
