-- The tables with one entry more.
use Rattle.std.proofs.Common.{◌≡◌, ◌∙◌, ◌+◌, ◌<◌, true, sym, ap, subst, List, ◌∷◌, length, drop, get_or, IsTrue, ℕ}
use Rattle.std.proofs.lemmas.List.{drop_more}
use Rattle.std.specs.List.{list_all, flat_map}
use Rattle.svc_values.specs.declared.entry.Entry.{Entry}
use Rattle.svc_values.specs.declared.tables.PlainRow.{PlainRow}
use Rattle.svc_values.specs.meaning.Tables.{with_writes}
use Rattle.svc_values.proofs.Offered.{with_writes-append}
use Rattle.table_store.specs.Stored.{Stored}
use Rattle.journal_tables.specs.Written.{writes_in, tables_with, entry_fits}
use Rattle.journal_tables.proofs.BaseRows.{second_true}

-- an entry's writes, and those of the rest
pub one_entry : (rows : List PlainRow) (entry : Entry) (entries : List Entry) → tables_with rows (entry ∷ entries) ≡ tables_with (with_writes rows entry.writes) entries
one_entry rows entry entries = with_writes-append rows entry.writes (flat_map writes_in entries)

-- the tables with one entry more
pub entry_more : (first now next : Stored) (entries : List Entry) (i : ℕ) (entry : Entry) → i < length entries → entry ≡ get_or entries i entry
    → now.schemas ≡ first.schemas → tables_with now.rows (drop i entries) ≡ tables_with first.rows entries → IsTrue (list_all (entry_fits first.schemas) (drop i entries))
    → next ≡ record { schemas = now.schemas; rows = with_writes now.rows entry.writes }
    → (next.schemas ≡ first.schemas) × (tables_with next.rows (drop (i + 1) entries) ≡ tables_with first.rows entries) × IsTrue (list_all (entry_fits first.schemas) (drop (i + 1) entries))
entry_more first now next entries i entry within is schemas rows fit applied =
    let left : drop i entries ≡ entry ∷ drop (i + 1) entries = drop_more entries i entry within ∙ ap (λ (e : Entry). e ∷ drop (i + 1) entries) (sym is) in (
      ap (λ (t : Stored). t.schemas) applied ∙ schemas,
      ap (λ (t : Stored). tables_with t.rows (drop (i + 1) entries)) applied ∙ sym (one_entry now.rows entry (drop (i + 1) entries)) ∙ ap (tables_with now.rows) (sym left) ∙ rows,
      second_true (entry_fits first.schemas entry) (list_all (entry_fits first.schemas) (drop (i + 1) entries)) (subst (λ (l : List Entry). list_all (entry_fits first.schemas) l ≡ true) left fit),
    )
