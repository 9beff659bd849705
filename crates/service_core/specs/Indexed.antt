-- The columns by which the tables of a service are indexed.
use Rattle.std.specs.Prelude.{◌≡◌, ℕ, List, Ok, IsTrue}
use Rattle.std.specs.List.{list_all}
use Rattle.table_store.specs.declared.shelves.IndexOf.{IndexOf}
use Rattle.table_store.specs.Given.{is_index_of}
use Rattle.commit_log.specs.declared.journal.Journal.{Journal}
use Rattle.commit_log.specs.meaning.Bases.{schemas_of}
use Rattle.commit_log.specs.meaning.Journals.{journal_of}

-- each is a column of a table that the base of the journal with these bytes declares
abbrev pub FitBase : List IndexOf → List ℕ → Type 0
FitBase indexes image = (journal : Journal) → journal_of image ≡ Ok journal
    → IsTrue (list_all (is_index_of (schemas_of journal.base)) indexes)
