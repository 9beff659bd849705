-- What stands at places of tables after writes, and that writes keep the order.
use Rattle.std.proofs.Common.{◌≡◌, inl, inr, ℕ, Bool, true, false, cond, List, [], ◌∷◌, refl, sym, ◌∙◌, ap}
use Rattle.std.specs.Prelude.{Option, Some, None, filter, not}
use Rattle.std.proofs.lemmas.Bool.{cases_Bool}
use Rattle.svc_values.specs.declared.value.Value.{Value}
use Rattle.svc_values.specs.declared.entry.Write.{Write}
use Rattle.svc_values.specs.declared.tables.PlainRow.{PlainRow}
use Rattle.svc_values.specs.declared.tables.Place.{Place}
use Rattle.svc_values.specs.declared.tables.Place.TheVariants as place
use Rattle.svc_values.specs.meaning.Tables.{is_at, rows_at, comes_before, put_row, without, put_if_any, with_write}
use Rattle.svc_values.specs.Tables.{ComesFirst, AreTables}
use Rattle.table_store.specs.Rows.{row_if_any}
use Rattle.table_store.proofs.Places.{before_trans, at_place_if, in_some_order}
use Rattle.table_store.proofs.Alike.{filter_pass, filter_skip}

-- a filter keeps the order
comes_first_filter : (p : PlainRow → Bool) (row : PlainRow) (rest : List PlainRow) → ComesFirst row rest → ComesFirst row (filter p rest)
comes_first_filter p row [] first = tt
comes_first_filter p row (next ∷ rest) first =
    elim (cases_Bool (p next)) [
      | inl here ↦ rw (filter_pass p next rest here) (first.0, comes_first_filter p row rest first.1)
      | inr apart ↦ rw (filter_skip p next rest apart) (comes_first_filter p row rest first.1)
    ]

pub ordered_filter : (p : PlainRow → Bool) (tables : List PlainRow) → AreTables tables → AreTables (filter p tables)
ordered_filter p [] ordered = tt
ordered_filter p (row ∷ rest) ordered =
    elim (cases_Bool (p row)) [
      | inl here ↦ rw (filter_pass p row rest here) (comes_first_filter p row rest ordered.0, ordered_filter p rest ordered.1)
      | inr apart ↦ rw (filter_skip p row rest apart) (ordered_filter p rest ordered.1)
    ]

put_before : (row first : PlainRow) (rest : List PlainRow) → comes_before row first ≡ true → put_row row (first ∷ rest) ≡ row ∷ first ∷ rest
put_before row first rest h = ap (λ b. cond b (row ∷ first ∷ rest) (first ∷ put_row row rest)) h

put_behind : (row first : PlainRow) (rest : List PlainRow) → comes_before row first ≡ false → put_row row (first ∷ rest) ≡ first ∷ put_row row rest
put_behind row first rest h = ap (λ b. cond b (row ∷ first ∷ rest) (first ∷ put_row row rest)) h

-- a row that was put in, seen by a test that it does not meet
pub filter_put_other : (p : PlainRow → Bool) (row : PlainRow) (tables : List PlainRow) → p row ≡ false → filter p (put_row row tables) ≡ filter p tables
filter_put_other p row [] h = filter_skip p row [] h
filter_put_other p row (first ∷ rest) h =
    elim (cases_Bool (comes_before row first)) [
      | inl before ↦ ap (filter p) (put_before row first rest before) ∙ filter_skip p row (first ∷ rest) h
      | inr behind ↦ ap (filter p) (put_behind row first rest behind) ∙ ap (λ l. cond (p first) (first ∷ l) l) (filter_put_other p row rest h)
    ]

-- by one that it alone meets
pub filter_put_own : (p : PlainRow → Bool) (row : PlainRow) (tables : List PlainRow) → p row ≡ true → filter p tables ≡ [] → filter p (put_row row tables) ≡ row ∷ []
filter_put_own p row [] h none = filter_pass p row [] h
filter_put_own p row (first ∷ rest) h none =
    elim (cases_Bool (comes_before row first)) [
      | inl before ↦ ap (filter p) (put_before row first rest before) ∙ filter_pass p row (first ∷ rest) h ∙ ap (λ l. row ∷ l) none
      | inr behind ↦ elim (cases_Bool (p first)) [
        | inl here ↦ let found : first ∷ filter p rest ≡ [] = sym (filter_pass p first rest here) ∙ none in cc
        | inr apart ↦ ap (filter p) (put_behind row first rest behind) ∙ filter_skip p first (put_row row rest) apart
            ∙ filter_put_own p row rest h (sym (filter_skip p first rest apart) ∙ none)
      ]
    ]

comes_first_through : (a b : PlainRow) (rest : List PlainRow) → comes_before a b ≡ true → ComesFirst b rest → ComesFirst a rest
comes_first_through a b [] h first = tt
comes_first_through a b (next ∷ rest) h first = (before_trans a b next h first.0, comes_first_through a b rest h first.1)

comes_first_put : (first row : PlainRow) (rest : List PlainRow) → comes_before first row ≡ true → ComesFirst first rest → ComesFirst first (put_row row rest)
comes_first_put first row [] h all = (h, tt)
comes_first_put first row (next ∷ rest) h all =
    elim (cases_Bool (comes_before row next)) [
      | inl before ↦ rw (put_before row next rest before) (h, all)
      | inr behind ↦ rw (put_behind row next rest behind) (all.0, comes_first_put first row rest h all.1)
    ]

pub not_at_first : (at : Place) (first : PlainRow) (rest : List PlainRow) → rows_at (first ∷ rest) at ≡ [] → is_at at first ≡ false
not_at_first at first rest none =
    elim (cases_Bool (is_at at first)) [
      | inl here ↦ let found : first ∷ rows_at rest at ≡ [] = sym (filter_pass (is_at at) first rest here) ∙ none in cc
      | inr apart ↦ apart
    ]

comes_behind : (row first : PlainRow) → comes_before row first ≡ false → is_at (place.Row row.table row.key) first ≡ false → comes_before first row ≡ true
comes_behind row first behind apart =
    elim (in_some_order row first) [
      | inl same ↦ let never : true ≡ false = sym same ∙ apart in cc
      | inr (inl before) ↦ let never : true ≡ false = sym before ∙ behind in cc
      | inr (inr after) ↦ after
    ]

-- a row whose place is empty is put in at its place in the order
pub ordered_put : (row : PlainRow) (tables : List PlainRow) → AreTables tables → rows_at tables (place.Row row.table row.key) ≡ [] → AreTables (put_row row tables)
ordered_put row [] ordered none = (tt, tt)
ordered_put row (first ∷ rest) ordered none =
    let at : Place = place.Row row.table row.key in
    let apart : is_at at first ≡ false = not_at_first at first rest none in
    elim (cases_Bool (comes_before row first)) [
      | inl before ↦ rw (put_before row first rest before) ((before, comes_first_through row first rest before ordered.0), ordered)
      | inr behind ↦ rw (put_behind row first rest behind)
          (comes_first_put first row rest (comes_behind row first behind apart) ordered.0, ordered_put row rest ordered.1 (sym (filter_skip (is_at at) first rest apart) ∙ none))
    ]

not_true : (b : Bool) → b ≡ true → not b ≡ false
not_true b h = ap not h

not_false : (b : Bool) → b ≡ false → not b ≡ true
not_false b h = ap not h

-- nothing stands at the place that was cleared
pub none_without : (tables : List PlainRow) (table : List ℕ) (key : Value) → rows_at (without tables table key) (place.Row table key) ≡ []
none_without [] table key = refl
none_without (row ∷ rest) table key =
    let at : Place = place.Row table key in
    elim (cases_Bool (is_at at row)) [
      | inl here ↦ ap (filter (is_at at)) (filter_skip (λ r. not (is_at at r)) row rest (not_true (is_at at row) here)) ∙ none_without rest table key
      | inr apart ↦ ap (filter (is_at at)) (filter_pass (λ r. not (is_at at r)) row rest (not_false (is_at at row) apart))
          ∙ filter_skip (is_at at) row (without rest table key) apart ∙ none_without rest table key
    ]

-- what a test sees that no row at the cleared place meets
pub filter_without : (p : PlainRow → Bool) (tables : List PlainRow) (table : List ℕ) (key : Value) → ((row : PlainRow) → is_at (place.Row table key) row ≡ true → p row ≡ false) → filter p (without tables table key) ≡ filter p tables
filter_without p [] table key other = refl
filter_without p (row ∷ rest) table key other =
    let at : Place = place.Row table key in
    elim (cases_Bool (is_at at row)) [
      | inl here ↦ ap (filter p) (filter_skip (λ r. not (is_at at r)) row rest (not_true (is_at at row) here)) ∙ filter_without p rest table key other
          ∙ sym (filter_skip p row rest (other row here))
      | inr apart ↦ ap (filter p) (filter_pass (λ r. not (is_at at r)) row rest (not_false (is_at at row) apart))
          ∙ ap (λ l. cond (p row) (row ∷ l) l) (filter_without p rest table key other)
    ]

-- tables stay in order under a write
pub ordered_with_write : (tables : List PlainRow) (write : Write) → AreTables tables → AreTables (with_write tables write)
ordered_with_write tables write ordered = put write.row
  where
    cleared : AreTables (without tables write.table write.key)
    cleared = ordered_filter (λ r. not (is_at (place.Row write.table write.key) r)) tables ordered

    put : (row : Option (List Value)) → AreTables (put_if_any (without tables write.table write.key) write.table write.key row)
    put None = cleared
    put (Some row) = ordered_put (record { table = write.table; key = write.key; row = row }) (without tables write.table write.key) cleared (none_without tables write.table write.key)

-- at its own place a write puts its row
pub own_place : (tables : List PlainRow) (table : List ℕ) (key : Value) (row : Option (List Value)) → rows_at (with_write tables (record { table = table; key = key; row = row })) (place.Row table key) ≡ row_if_any table key row
own_place tables table key None = none_without tables table key
own_place tables table key (Some row) =
    filter_put_own (is_at (place.Row table key)) (record { table = table; key = key; row = row }) (without tables table key) (at_place_if table key (record { table = table; key = key; row = row }) refl refl) (none_without tables table key)

-- a test that neither what was there nor the new row meets sees no change
pub filter_with_write : (p : PlainRow → Bool) (tables : List PlainRow) (table : List ℕ) (key : Value) (row : Option (List Value)) → ((r : PlainRow) → is_at (place.Row table key) r ≡ true → p r ≡ false) → filter p (with_write tables (record { table = table; key = key; row = row })) ≡ filter p tables
filter_with_write p tables table key None other = filter_without p tables table key other
filter_with_write p tables table key (Some row) other =
    let made : PlainRow = record { table = table; key = key; row = row } in
    filter_put_other p made (without tables table key) (other made (at_place_if table key made refl refl)) ∙ filter_without p tables table key other
