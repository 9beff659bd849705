-- Rows that are taken out of the maps, table by table.
use Rattle.std.proofs.Common.{◌≡◌, ◌⊎◌, inl, inr, ℕ, true, false, List, [], ◌∷◌, refl, sym, ◌∙◌, ap, map}
use Rattle.std.specs.Prelude.{Option, Some, None}
use Rattle.std.proofs.lemmas.Bool.{cases_Bool}
use Rattle.std.specs.Ordering.{nat_cmp, is_eq}
use Rattle.std.specs.Str.{bytes_eq}
use Rattle.std.specs.Cmp.Lexicographic.{slice_cmp}
use Rattle.std.specs.List.Sorted.{IsStrictlySortedBy}
use Rattle.std.specs.Map.{keys_of}
use Rattle.svc_values.specs.declared.schema.Schema.{Schema}
use Rattle.svc_values.specs.SameLaws.{bytes_decide}
use Rattle.svc_values.specs.meaning.Schemas.{schema_of}
use Rattle.table_store.specs.Given.{named_in, shelf_named}
use Rattle.table_store.specs.Rows.{Keyed, Shelves, all_rows, rows_if_any, shelf_of, shelf_rows}
use Rattle.table_store.proofs.Maps.{rows_of_table, same_if_equal}
use Rattle.table_store.proofs.Keeps.{rows_of_plain}

-- the rows of all declared tables are those of the maps
pub rows_named : (shelves : Shelves) (schemas : List Schema) → IsStrictlySortedBy (slice_cmp nat_cmp) (keys_of shelves) → map (named_in (all_rows shelves)) schemas ≡ map (shelf_named shelves) schemas
rows_named shelves [] rise = refl
rows_named shelves (schema ∷ rest) rise =
    ap (λ rows. (schema.name, map (λ one. one.row) rows) ∷ map (named_in (all_rows shelves)) rest) (rows_of_table shelves schema.name rise)
    ∙ ap (λ rows. (schema.name, rows) ∷ map (named_in (all_rows shelves)) rest) (without_keys (shelf_of shelves schema.name))
    ∙ ap (λ all. shelf_named shelves schema ∷ all) (rows_named shelves rest rise)
  where
    without_keys : (shelf : Option Keyed) → map (λ one. one.row) (rows_if_any schema.name shelf) ≡ shelf_rows shelf
    without_keys None = refl
    without_keys (Some entries) = rows_of_plain schema.name entries

-- a table that is not declared among these may leave the maps
pub others_same : (table : List ℕ) (new old : Shelves) → ((q : List ℕ) → is_eq (slice_cmp nat_cmp table q) ≡ false → shelf_of new q ≡ shelf_of old q) → (schemas : List Schema) → schema_of schemas table ≡ None
    → map (shelf_named new) schemas ≡ map (shelf_named old) schemas
others_same table new old same [] none = refl
others_same table new old same (schema ∷ rest) none =
    elim (cases_Bool (bytes_eq schema.name table)) [
      | inl here ↦ let never : Some schema ≡ None = rw here at none in cc
      | inr away ↦
          let behind : schema_of rest table ≡ None = rw away at none in
          let other : is_eq (slice_cmp nat_cmp table schema.name) ≡ false = apart away (cases_Bool (is_eq (slice_cmp nat_cmp table schema.name))) in
          ap (λ shelf. (schema.name, shelf_rows shelf) ∷ map (shelf_named new) rest) (same schema.name other)
          ∙ ap (λ all. shelf_named old schema ∷ all) (others_same table new old same rest behind)
    ]
  where
    apart : bytes_eq schema.name table ≡ false → (is_eq (slice_cmp nat_cmp table schema.name) ≡ true) ⊎ (is_eq (slice_cmp nat_cmp table schema.name) ≡ false) → is_eq (slice_cmp nat_cmp table schema.name) ≡ false
    apart away (inl equal) =
        let never : true ≡ false = sym ((bytes_decide schema.name table).1 (sym (same_if_equal table schema.name equal))) ∙ away in cc
    apart away (inr other) = other
