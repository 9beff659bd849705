-- The tables and sequences of a document are a base: the tests of a document are those of a base,
-- in other words.
use Rattle.std.proofs.Common.{◌≡◌, ℕ, List, [], ◌∷◌, map, true, refl, ap, ◌∙◌}
use Rattle.std.specs.Prelude.{Bool, ◌&&◌, ◌||◌, not, length, nat_le, IsTrue}
use Rattle.std.specs.List.{list_all, list_any}
use Rattle.std.specs.Str.{bytes_eq}
use Rattle.std.proofs.lemmas.List.Folds.{list_all-map}
use Rattle.svc_values.specs.declared.value.Value.{Value}
use Rattle.svc_values.specs.meaning.Kinds.{row_fits, has_column}
use Rattle.svc_values.specs.meaning.Names.{is_name_of, names_differ}
use Rattle.svc_values.specs.meaning.Same.{same_value}
use Rattle.svc_values.specs.meaning.Schemas.{is_declared, key_of}
use Rattle.outage_schedule.specs.declared.document.DocTable.{DocTable}
use Rattle.outage_schedule.specs.declared.document.DocSequence.{DocSequence}
use Rattle.json_form.specs.Arrays.{have_distinct_keys}
use Rattle.json_form.proofs.Offered.{first_true, second_true, both_true}
use Rattle.commit_log.specs.meaning.Bases.{is_base, keys_differ, is_table as is_base_table, is_sequence as is_base_sequence, table_name as base_table_name, sequence_name as base_sequence_name}
use Rattle.commit_log.specs.Bases.{IsBase}
use Rattle.document_forms.specs.Keeping.{is_table, is_sequence, schema_in}
use Rattle.run_clauses.specs.meaning.Before.{base_table, base_sequence}

-- ---- names

named_there : {A B : Type 0} (made : A → B) (name_in : B → List ℕ) (name : List ℕ) (all : List A)
    → is_name_of (map name_in (map made all)) name ≡ list_any (λ one. bytes_eq (name_in (made one)) name) all
named_there made name_in name [] = refl
named_there made name_in name (one ∷ all) = ap (λ there. bytes_eq (name_in (made one)) name || there) (named_there made name_in name all)

names_apart : {A B : Type 0} (made : A → B) (name_in : B → List ℕ) (all : List A)
    → names_differ (map name_in (map made all)) ≡ have_distinct_keys bytes_eq (λ one. name_in (made one)) all
names_apart made name_in [] = refl
names_apart made name_in (one ∷ all) =
    ap (λ there. not there && names_differ (map name_in (map made all))) (named_there made name_in (name_in (made one)) all)
    ∙ ap (λ apart. not (list_any (λ other. bytes_eq (name_in (made other)) (name_in (made one))) all) && apart) (names_apart made name_in all)

-- ---- keys

keys_apart : (rows : List (List Value)) → keys_differ rows ≡ have_distinct_keys same_value key_of rows
keys_apart [] = refl
keys_apart (row ∷ rows) = ap (λ apart. not (list_any (λ other. same_value (key_of other) (key_of row)) rows) && apart) (keys_apart rows)

-- ---- tables

-- what is said of a table behind its keys
abbrev few_and_indexed : DocTable → Bool
few_and_indexed table = nat_le (length table.rows) 10000 && (list_all (has_column table.columns) table.index && have_distinct_keys bytes_eq (λ name. name) table.index)

table_is : (table : DocTable) → is_table table ≡ true → is_base_table (base_table table) ≡ true
unfolding is_table is_base_table
table_is table is =
    let declared = first_true (is_declared (schema_in table)) _ is in
    let rest = second_true (is_declared (schema_in table)) _ is in
    let fit = first_true (list_all (row_fits table.columns) table.rows) _ rest in
    let behind = second_true (list_all (row_fits table.columns) table.rows) _ rest in
    let apart = first_true (have_distinct_keys same_value key_of table.rows) (few_and_indexed table) behind in
    both_true _ _ declared (both_true _ _ fit (keys_apart table.rows ∙ apart))

tables_are : (tables : List DocTable) → list_all is_table tables ≡ true → list_all is_base_table (map base_table tables) ≡ true
tables_are [] are = refl
tables_are (table ∷ tables) are = both_true _ _ (table_is table (first_true (is_table table) _ are)) (tables_are tables (second_true (is_table table) _ are))

-- ---- both

pub begins_base : (tables : List DocTable) (sequences : List DocSequence)
    → IsTrue (list_all is_table tables) → IsTrue (have_distinct_keys bytes_eq (λ table. table.name) tables)
    → IsTrue (list_all is_sequence sequences) → IsTrue (have_distinct_keys bytes_eq (λ sequence. sequence.name) sequences)
    → IsBase (record { tables = map base_table tables; sequences = map base_sequence sequences })
unfolding is_base
begins_base tables sequences are apart begin named =
    both_true _ _ (names_apart base_table base_table_name tables ∙ apart)
    (both_true _ _ (names_apart base_sequence base_sequence_name sequences ∙ named)
    (both_true _ _ (tables_are tables are) (list_all-map is_base_sequence base_sequence sequences ∙ begin)))
