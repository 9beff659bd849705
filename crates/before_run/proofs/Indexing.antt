-- The indexes of a document's tables are of tables that the journal before event 1 declares, by
-- their columns.
use Rattle.std.proofs.Common.{◌≡◌, ◌∙◌, refl, sym, ap, ℕ, Bool, true, false, List, [], ◌∷◌, map, cond, eqb-true, arith, Option, Some, None}
use Rattle.std.specs.Prelude.{IsTrue, ◌||◌, ◌==◌, not, length, flat_map, nat_lt}
use Rattle.std.specs.List.{list_all, list_any, position_or_len}
use Rattle.std.specs.Option.{option_map, option_to_list}
use Rattle.std.specs.Str.{bytes_eq}
use Rattle.std.proofs.lemmas.Bool.{not-true}
use Rattle.std.proofs.lemmas.List.Folds.{list_all-append}
use Rattle.std.proofs.lemmas.Slice.Eq.{bytes_eq-Decides}
use Rattle.svc_values.specs.declared.schema.Column.{Column}
use Rattle.svc_values.specs.declared.schema.Schema.{Schema}
use Rattle.svc_values.specs.meaning.Schemas.{schema_of}
use Rattle.table_store.specs.Given.{is_index_of}
use Rattle.commit_log.specs.meaning.Bases.{schema_in as base_schema, schemas_of}
use Rattle.outage_schedule.specs.declared.document.DocTable.{DocTable}
use Rattle.outage_schedule.specs.declared.document.Document.{Document}
use Rattle.json_form.specs.Arrays.{have_distinct_keys}
use Rattle.json_form.proofs.Offered.{first_true, second_true, both_true}
use Rattle.document_forms.specs.Keeping.{schema_in}
use Rattle.doc_reader.specs.Keeping.{IsDocument, is_begin}
use Rattle.run_clauses.specs.meaning.Before.{base_of, base_table, given_journal, journal_before}
use Rattle.before_run.specs.Indexes.{index_by, indexes_in, indexes_of}

-- ---- each table is the one that its name finds

abbrev table_name : DocTable → List ℕ
table_name table = table.name

abbrev Found : List DocTable → List DocTable → Type 0
Found all [] = Unit {0}
Found all (t ∷ ts) = (schema_of (map schema_in all) t.name ≡ Some (schema_in t)) × Found all ts

same_bytes : (a : List ℕ) → bytes_eq a a ≡ true
same_bytes a = (bytes_eq-Decides a a).1 refl

other_bytes : (a b : List ℕ) → bytes_eq b a ≡ false → bytes_eq a b ≡ false
other_bytes a b e = by_test (bytes_eq a b) refl
  where
    by_test : (t : Bool) → bytes_eq a b ≡ t → t ≡ false
    by_test false h = refl
    by_test true h = absurd (let back : bytes_eq b a ≡ true = (bytes_eq-Decides b a).1 (sym ((bytes_eq-Decides a b).0 h)) in let clash : ◌≡◌ {A = Bool} true false = sym back ∙ e in cc)

neither : (a b : Bool) → (a || b) ≡ false → (a ≡ false) × (b ≡ false)
neither false b h = (refl, h)
neither true b h = absurd (cc)

found_more : (t : DocTable) (all us : List DocTable) → list_any (λ u. bytes_eq (table_name u) (table_name t)) us ≡ false → Found all us → Found (t ∷ all) us
found_more t all [] none found = tt
found_more t all (u ∷ us) none found =
    let apart = neither (bytes_eq u.name t.name) (list_any (λ one. bytes_eq (table_name one) (table_name t)) us) none in
    let other : bytes_eq t.name u.name ≡ false = other_bytes t.name u.name apart.0 in
    (rw other found.0, found_more t all us apart.1 found.1)

found_all : (tables : List DocTable) → have_distinct_keys bytes_eq table_name tables ≡ true → Found tables tables
found_all [] apart = tt
found_all (t ∷ ts) apart =
    let none : list_any (λ u. bytes_eq (table_name u) (table_name t)) ts ≡ false = not-true _ (first_true _ _ apart) in
    (rw (same_bytes t.name) refl, found_more t ts ts none (found_all ts (second_true _ _ apart)))

-- ---- each index is of a column

-- of a place that was found in a list there is an item
placed : (schemas : List Schema) (t : DocTable) (name : List ℕ) → schema_of schemas t.name ≡ Some (schema_in t) → list_all (is_index_of schemas) (option_to_list (index_by t name)) ≡ true
placed schemas t name found = by (nat_lt (position_or_len (λ (column : Column). bytes_eq column.name name) t.columns) (length t.columns)) refl
  where
    at : ℕ
    at = position_or_len (λ (column : Column). bytes_eq column.name name) t.columns

    by : (within : Bool) → nat_lt at (length t.columns) ≡ within
        → list_all (is_index_of schemas) (option_to_list (option_map (λ place. record { table = t.name; column = place }) (cond within (Some at) None))) ≡ true
    by false is = refl
    by true is = rw (found, is) refl

named : (schemas : List Schema) (t : DocTable) (names : List (List ℕ)) → schema_of schemas t.name ≡ Some (schema_in t) → list_all (is_index_of schemas) (flat_map (λ name. option_to_list (index_by t name)) names) ≡ true
named schemas t [] found = refl
named schemas t (name ∷ names) found =
    list_all-append (is_index_of schemas) (option_to_list (index_by t name)) (flat_map (λ one. option_to_list (index_by t one)) names) ∙ both_true _ _ (placed schemas t name found) (named schemas t names found)

all_placed : (all tables : List DocTable) → Found all tables → list_all (is_index_of (map schema_in all)) (indexes_of tables) ≡ true
all_placed all [] found = refl
all_placed all (t ∷ ts) found =
    list_all-append (is_index_of (map schema_in all)) (indexes_in t) (indexes_of ts) ∙ both_true _ _ (named (map schema_in all) t t.index found.0) (all_placed all ts found.1)

-- ---- the journal before event 1

declared : (tables : List DocTable) → map base_schema (map base_table tables) ≡ map schema_in tables
declared [] = refl
declared (t ∷ ts) = ap (λ schemas. schema_in t ∷ schemas) (declared ts)

none_of : (tables : List DocTable) → (length tables == 0) ≡ true → tables ≡ []
none_of [] is = refl
none_of (t ∷ ts) is = let empty = eqb-true (length (t ∷ ts)) 0 is in absurd (omega (arith, empty))

-- where there is an image, there are no tables
of_image : (document : Document) (image : Option (List ℕ)) → IsDocument document → IsTrue (is_begin document.tables document.sequences image) → IsTrue (list_all (is_index_of (schemas_of (given_journal (base_of document) image).base)) (indexes_of document.tables))
of_image document None is begins =
    ap (λ (schemas : List Schema). list_all (is_index_of schemas) (indexes_of document.tables)) (declared document.tables) ∙ all_placed document.tables document.tables (found_all document.tables is.table_names)
of_image document (Some bytes) is begins =
    ap (λ (tables : List DocTable). list_all (is_index_of (schemas_of (given_journal (base_of document) (Some bytes)).base)) (indexes_of tables)) (none_of document.tables (first_true (length document.tables == 0) _ begins))

pub indexes_declared : (document : Document) → IsDocument document → IsTrue (list_all (is_index_of (schemas_of (journal_before document).base)) (indexes_of document.tables))
indexes_declared document is = of_image document document.image is is.begins
