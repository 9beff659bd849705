-- Stored tables stay ordered and fit what is declared.
use Rattle.std.proofs.Common.{◌≡◌, ℕ, ◌+◌, ◌<◌, Bool, true, List, [], ◌∷◌, ◌++◌, length, take, get_or, refl, sym, ◌∙◌, ap, subst}
use Rattle.std.proofs.lemmas.Result.{on_ok_weaker}
use Rattle.std.proofs.lemmas.List.{take_more}
use Rattle.std.specs.Map.{values_of}
use Rattle.std.specs.Prelude.{Option, Some, None, Result, Ok, Err, OnOk, OnErr, IfOk, IsTrue, map}
use Rattle.svc_values.specs.declared.value.Value.{Value}
use Rattle.svc_values.specs.declared.schema.Schema.{Schema}
use Rattle.svc_values.specs.declared.entry.Write.{Write}
use Rattle.svc_values.specs.declared.tables.PlainRow.{PlainRow}
use Rattle.svc_values.specs.declared.tables.Place.TheVariants as place
use Rattle.svc_values.specs.meaning.Tables.{rows_at, with_write, with_writes}
use Rattle.svc_values.specs.meaning.Schemas.{schema_of}
use Rattle.svc_values.specs.meaning.Fitting.{is_row_of, has_fit, write_fits}
use Rattle.svc_values.specs.Fitting.{tables_fit}
use Rattle.table_store.specs.Given.{keyed_rows}
use Rattle.table_store.specs.Rows.{Keyed, Shelves, IsShelved, plain_rows, all_rows}
use Rattle.table_store.specs.Shelves.{Changes}
use Rattle.table_store.specs.Stored.{Stored, IsStored, AreKept}
use Rattle.table_store.proofs.Maps.{ordered_all}
use Rattle.table_store.proofs.Changes.{FitsIfAny, rows_changed, all_with_write}

abbrev pub fits_one : List Schema → PlainRow → Bool
fits_one schemas one = is_row_of (schema_of schemas one.table) one.key one.row

pub kept_from_stored : (schemas : List Schema) (shelves : Shelves) → IsStored schemas shelves → AreKept (record { schemas = schemas; rows = all_rows shelves })
kept_from_stored schemas shelves stored = record { ordered = ordered_all shelves stored.shelved; fitting = stored.fitting }

-- after a change that may have failed
pub stored_changed : {A E : Type 0} (r : Result A E) (schemas : List Schema) (old new : Shelves) (table : List ℕ) (key : Value) (row : Option (List Value))
    → IsStored schemas old → FitsIfAny (fits_one schemas) table key row
    → IsShelved new → OnOk r (Changes old table key row new) → OnErr r (new ≡ old) → IsStored schemas new
stored_changed (Ok x) schemas old new table key row stored fits shelved changed same = record {
  shelved = shelved;
  fitting = subst (λ (rows : List PlainRow). IsTrue (tables_fit schemas rows)) (sym (rows_changed old new table key row stored.shelved shelved changed)) (all_with_write (fits_one schemas) (all_rows old) table key row stored.fitting fits);
}
stored_changed (Err e) schemas old new table key row stored fits shelved changed same = subst (IsStored schemas) (sym same) stored

-- what is seen after a change
pub seen_changed : {A E : Type 0} (r : Result A E) (schemas : List Schema) (old new : Shelves) (seen : Stored) (table : List ℕ) (key : Value) (row : Option (List Value))
    → ◌≡◌ {A = Stored} (record { schemas = schemas; rows = all_rows old }) seen
    → IsShelved old → IsShelved new → OnOk r (Changes old table key row new)
    → OnOk r (◌≡◌ {A = Stored} (record { schemas = schemas; rows = all_rows new }) (record { schemas = seen.schemas; rows = with_write seen.rows (record { table = table; key = key; row = row }) }))
seen_changed r schemas old new seen table key row view shelved shelved_new changed =
    on_ok_weaker r
    (λ h. ap (λ (rows : List PlainRow). let s : Stored = record { schemas = schemas; rows = rows } in s) (rows_changed old new table key row shelved shelved_new h)
    ∙ ap (λ (s : Stored). let t : Stored = record { schemas = s.schemas; rows = with_write s.rows (record { table = table; key = key; row = row }) } in t) view)
    changed

-- a row that fits what is seen fits what is stored
pub fits_at : (schemas : List Schema) (shelves : Shelves) (seen : Stored) (table : List ℕ) (key : Value) (row : List Value)
    → ◌≡◌ {A = Stored} (record { schemas = schemas; rows = all_rows shelves }) seen
    → is_row_of (schema_of seen.schemas table) key row ≡ true → is_row_of (schema_of schemas table) key row ≡ true
fits_at schemas shelves seen table key row view fits = ap (λ (s : Stored). is_row_of (schema_of s.schemas table) key row) view ∙ fits

-- a write that fits has a row that fits
pub fits_if_any : (schemas : List Schema) (write : Write) → write_fits schemas write ≡ true → FitsIfAny (fits_one schemas) write.table write.key write.row
fits_if_any schemas write h = by_row (schema_of schemas write.table) write.row refl refl h
  where
    by_row : (schema : Option Schema) (row : Option (List Value)) → schema_of schemas write.table ≡ schema → write.row ≡ row → has_fit schema write.key row ≡ true → FitsIfAny (fits_one schemas) write.table write.key write.row
    by_row schema None e r fits = rw r tt
    by_row None (Some row) e r fits = cc
    by_row (Some schema) (Some row) e r fits = rw (r, e) fits

-- a write after writes
pub with_writes-last : (tables : List PlainRow) (writes : List Write) (write : Write) → with_writes tables (writes ++ write ∷ []) ≡ with_write (with_writes tables writes) write
with_writes-last tables [] write = refl
with_writes-last tables (first ∷ rest) write = with_writes-last (with_write tables first) rest write

-- ---- writes one after the other, and rows that are copied

pub applied_more : (seen : Stored) (writes items : List Write) (i : ℕ) (item : Write) (now next : Stored) → items ≡ writes → i < length items → item ≡ get_or items i item
    → now ≡ record { schemas = seen.schemas; rows = with_writes seen.rows (take i writes) } → next ≡ record { schemas = now.schemas; rows = with_write now.rows item }
    → next ≡ record { schemas = seen.schemas; rows = with_writes seen.rows (take (i + 1) writes) }
applied_more seen writes items i item now next same within there before after =
    let at_writes : i < length writes = subst (λ (l : List Write). i < length l) same within in
    let item_is : get_or writes i item ≡ item = sym (there ∙ ap (λ l. get_or l i item) same) in
    let longer : take (i + 1) writes ≡ take i writes ++ item ∷ [] = take_more writes i item at_writes ∙ ap (λ w. take i writes ++ w ∷ []) item_is in
    after ∙ ap (λ (s : Stored). let t : Stored = record { schemas = s.schemas; rows = with_write s.rows item } in t) before
    ∙ ap (λ (rows : List PlainRow). let t : Stored = record { schemas = seen.schemas; rows = rows } in t) (sym (with_writes-last seen.rows (take i writes) item) ∙ ap (with_writes seen.rows) (sym longer))

pub rows_of_plain : (table : List ℕ) (entries : Keyed) → map (λ one. one.row) (plain_rows table entries) ≡ values_of entries
rows_of_plain table [] = refl
rows_of_plain table (entry ∷ rest) = ap (λ l. entry.1 ∷ l) (rows_of_plain table rest)

-- what is made of the rows of a table
pub of_rows : {A B E : Type 0} (r : Result A E) (f : A → B) (g : List (List Value) → B) (table : List ℕ) (entries : Keyed) (rows : List PlainRow) → rows ≡ plain_rows table entries
    → IfOk r (λ x. f x ≡ g (values_of entries)) → IfOk r (λ x. f x ≡ g (map (λ one. one.row) rows))
of_rows (Ok x) f g table entries rows found made = made ∙ sym (ap (λ l. g (map (λ one. one.row) l)) found ∙ ap g (rows_of_plain table entries))
of_rows (Err e) f g table entries rows found made = tt

-- the rows of a table with their keys
keyed_of_plain : (table : List ℕ) (entries : Keyed) → map (λ one. (one.key, one.row)) (plain_rows table entries) ≡ entries
keyed_of_plain table [] = refl
keyed_of_plain table (entry ∷ rest) = ap (λ l. entry ∷ l) (keyed_of_plain table rest)

pub keyed_in : (table : List ℕ) (entries : Keyed) (rows : List PlainRow) → rows_at rows (place.Table table) ≡ plain_rows table entries → keyed_rows rows table ≡ entries
keyed_in table entries rows found = ap (map (λ one. (one.key, one.row))) found ∙ keyed_of_plain table entries
