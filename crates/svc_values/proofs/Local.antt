-- What writes leave at a place depends on what stood there alone.
use Rattle.std.proofs.Common.{◌≡◌, ℕ, Bool, true, false, not, cond, List, [], ◌∷◌, filter, refl, sym, ap, ◌∙◌}
use Rattle.std.specs.Prelude.{Option, Some, None}
use Rattle.svc_values.specs.declared.value.Value.{Value}
use Rattle.svc_values.specs.declared.entry.Write.{Write}
use Rattle.svc_values.specs.declared.tables.PlainRow.{PlainRow}
use Rattle.svc_values.specs.declared.tables.Place.{Place}
use Rattle.svc_values.specs.declared.tables.Place.TheVariants as place
use Rattle.svc_values.specs.meaning.Tables.{is_at, rows_at, comes_before, put_row, put_if_any, without, with_write, with_writes}
use Rattle.svc_values.specs.Tables.{ComesFirst, AreTables}
use Rattle.svc_values.specs.TableLaws.{written_row, is_touched}
use Rattle.svc_values.proofs.RowOrder.{comes_before-trans, comes_before-other, is_at-row, is_at-own, AtOne}

-- ---- order

-- a row that comes before another comes before those after it
pub ComesFirst-trans : (row first : PlainRow) (rest : List PlainRow) → comes_before row first ≡ true → ComesFirst first rest → ComesFirst row rest
ComesFirst-trans row first [] h all = tt
ComesFirst-trans row first (next ∷ rest) h all = (comes_before-trans row first next h all.0, ComesFirst-trans row first rest h all.1)

first_kept : (row first : PlainRow) (rest : List PlainRow) (test : PlainRow → Bool) (b : Bool) → test first ≡ b → comes_before row first ≡ true → ComesFirst row (filter test rest) → ComesFirst row (filter test (first ∷ rest))
first_kept row first rest test true e h more = rw e (h, more)
first_kept row first rest test false e h more = rw e more

ComesFirst-filter : (test : PlainRow → Bool) (row : PlainRow) (rest : List PlainRow) → ComesFirst row rest → ComesFirst row (filter test rest)
ComesFirst-filter test row [] all = tt
ComesFirst-filter test row (next ∷ rest) all = first_kept row next rest test (test next) refl all.0 (ComesFirst-filter test row rest all.1)

one_kept : (row : PlainRow) (rest : List PlainRow) (test : PlainRow → Bool) (b : Bool) → test row ≡ b → ComesFirst row (filter test rest) → AreTables (filter test rest) → AreTables (filter test (row ∷ rest))
one_kept row rest test true e h more = rw e (h, more)
one_kept row rest test false e h more = rw e more

pub AreTables-filter : (test : PlainRow → Bool) (tables : List PlainRow) → AreTables tables → AreTables (filter test tables)
AreTables-filter test [] all = tt
AreTables-filter test (row ∷ rest) all = one_kept row rest test (test row) refl (ComesFirst-filter test row rest all.0) (AreTables-filter test rest all.1)

-- none of the rows has the table and key of this one
abbrev pub HasNone : PlainRow → List PlainRow → Type 0
HasNone row [] = Unit {0}
HasNone row (first ∷ rest) = (is_at (place.Row row.table row.key) first ≡ false) × HasNone row rest

put_first : (before row first : PlainRow) (rest : List PlainRow) (b : Bool) → comes_before row first ≡ b → comes_before before row ≡ true → comes_before before first ≡ true → ComesFirst before rest → ComesFirst before (put_row row rest) → ComesFirst before (put_row row (first ∷ rest))
put_first before row first rest true e h i all more = rw e (h, (i, all))
put_first before row first rest false e h i all more = rw e (i, more)

ComesFirst-put_row : (before row : PlainRow) (rest : List PlainRow) → comes_before before row ≡ true → ComesFirst before rest → ComesFirst before (put_row row rest)
ComesFirst-put_row before row [] h all = (h, tt)
ComesFirst-put_row before row (first ∷ rest) h all = put_first before row first rest (comes_before row first) refl h all.0 all.1 (ComesFirst-put_row before row rest h all.1)

put_in : (row first : PlainRow) (rest : List PlainRow) (b : Bool) → comes_before row first ≡ b → AreTables (first ∷ rest) → is_at (place.Row row.table row.key) first ≡ false → AreTables (put_row row rest) → AreTables (put_row row (first ∷ rest))
put_in row first rest true e all other more = rw e ((e, ComesFirst-trans row first rest e all.0), all)
put_in row first rest false e all other more = rw e (ComesFirst-put_row first row rest (comes_before-other row first e other) all.0, more)

pub AreTables-put_row : (row : PlainRow) (tables : List PlainRow) → AreTables tables → HasNone row tables → AreTables (put_row row tables)
AreTables-put_row row [] all none = (tt, tt)
AreTables-put_row row (first ∷ rest) all none = put_in row first rest (comes_before row first) refl all none.0 (AreTables-put_row row rest all.1 none.1)

gone_at : (row first : PlainRow) (rest : List PlainRow) (b : Bool) → is_at (place.Row row.table row.key) first ≡ b → HasNone row (without rest row.table row.key) → HasNone row (without (first ∷ rest) row.table row.key)
gone_at row first rest true e more = rw e more
gone_at row first rest false e more = rw e (e, more)

HasNone-without : (row : PlainRow) (tables : List PlainRow) → HasNone row (without tables row.table row.key)
HasNone-without row [] = tt
HasNone-without row (first ∷ rest) = gone_at row first rest (is_at (place.Row row.table row.key) first) refl (HasNone-without row rest)

after_put : (tables : List PlainRow) (table : List ℕ) (key : Value) (row : Option (List Value)) → AreTables tables → AreTables (put_if_any (without tables table key) table key row)
after_put tables table key None all = AreTables-filter (λ row. not (is_at (place.Row table key) row)) tables all
after_put tables table key (Some row) all =
    let put : PlainRow = record { table = table; key = key; row = row } in
    AreTables-put_row put (without tables table key) (AreTables-filter (λ row. not (is_at (place.Row table key) row)) tables all) (HasNone-without put tables)

-- a write keeps the order, and no table and key twice
pub AreTables-with_write : (tables : List PlainRow) (write : Write) → AreTables tables → AreTables (with_write tables write)
AreTables-with_write tables write all = after_put tables write.table write.key write.row all

pub AreTables-with_writes : (tables : List PlainRow) (writes : List Write) → AreTables tables → AreTables (with_writes tables writes)
AreTables-with_writes tables [] all = all
AreTables-with_writes tables (write ∷ writes) all = AreTables-with_writes (with_write tables write) writes (AreTables-with_write tables write all)

-- ---- a row put in order, seen through a test

put_at_front : (test : PlainRow → Bool) (row first : PlainRow) (rest : List PlainRow) (b : Bool) → test first ≡ b → comes_before row first ≡ true → put_row row (filter test rest) ≡ row ∷ filter test rest → put_row row (filter test (first ∷ rest)) ≡ row ∷ filter test (first ∷ rest)
put_at_front test row first rest true e h more = rw (e, h) refl
put_at_front test row first rest false e h more = rw e more

put_front : (test : PlainRow → Bool) (row : PlainRow) (tables : List PlainRow) → ComesFirst row tables → put_row row (filter test tables) ≡ row ∷ filter test tables
put_front test row [] all = refl
put_front test row (first ∷ rest) all = put_at_front test row first rest (test first) refl all.0 (put_front test row rest all.1)

-- the row is put in, or not, where the test keeps it or not
abbrev put_if : Bool → PlainRow → List PlainRow → List PlainRow
put_if b row tables = cond b (put_row row tables) tables

filter_head : (test : PlainRow → Bool) (row first : PlainRow) (rest : List PlainRow) → ComesFirst first rest → filter test (put_row row rest) ≡ put_if (test row) row (filter test rest)
    → (b c d : Bool) → comes_before row first ≡ b → test row ≡ c → test first ≡ d → filter test (put_row row (first ∷ rest)) ≡ put_if (test row) row (filter test (first ∷ rest))
filter_head test row first rest all ih true true d e f g =
    let front = put_front test row (first ∷ rest) (e, ComesFirst-trans row first rest e all) in
    rw (e, f) (sym front)
filter_head test row first rest all ih true false d e f g = rw (e, f) refl
filter_head test row first rest all ih false true true e f g = let ih' : filter test (put_row row rest) ≡ put_row row (filter test rest) = ih ∙ ap (λ b. put_if b row (filter test rest)) f in rw (e, f, g, e) (ap (λ l. first ∷ l) ih')
filter_head test row first rest all ih false true false e f g = let ih' : filter test (put_row row rest) ≡ put_row row (filter test rest) = ih ∙ ap (λ b. put_if b row (filter test rest)) f in rw (e, f, g) ih'
filter_head test row first rest all ih false false true e f g = let ih' : filter test (put_row row rest) ≡ filter test rest = ih ∙ ap (λ b. put_if b row (filter test rest)) f in rw (e, f, g) (ap (λ l. first ∷ l) ih')
filter_head test row first rest all ih false false false e f g = let ih' : filter test (put_row row rest) ≡ filter test rest = ih ∙ ap (λ b. put_if b row (filter test rest)) f in rw (e, f, g) ih'

pub filter-put_row : (test : PlainRow → Bool) (row : PlainRow) (tables : List PlainRow) → AreTables tables → filter test (put_row row tables) ≡ put_if (test row) row (filter test tables)
filter-put_row test row [] all = one (test row) refl
  where
    one : (b : Bool) → test row ≡ b → filter test (row ∷ []) ≡ put_if (test row) row []
    one true e = rw e refl
    one false e = rw e refl
filter-put_row test row (first ∷ rest) all = filter_head test row first rest all.0 (filter-put_row test row rest all.1) (comes_before row first) (test row) (test first) refl refl refl

filter_swap_at : (p q : PlainRow → Bool) (row : PlainRow) (rest : List PlainRow) (b c : Bool) → p row ≡ b → q row ≡ c → filter p (filter q rest) ≡ filter q (filter p rest) → filter p (filter q (row ∷ rest)) ≡ filter q (filter p (row ∷ rest))
filter_swap_at p q row rest true true e f ih = rw (e, f, e) (ap (λ l. row ∷ l) ih)
filter_swap_at p q row rest true false e f ih = rw (e, f) ih
filter_swap_at p q row rest false true e f ih = rw (f, e) ih
filter_swap_at p q row rest false false e f ih = rw (e, f) ih

filter_swap : (p q : PlainRow → Bool) (tables : List PlainRow) → filter p (filter q tables) ≡ filter q (filter p tables)
filter_swap p q [] = refl
filter_swap p q (row ∷ rest) = filter_swap_at p q row rest (p row) (q row) refl refl (filter_swap p q rest)

-- ---- locality

-- what a place has after a write, from what it had
abbrev left_at : Place → List PlainRow → List ℕ → Value → Option (List Value) → List PlainRow
left_at at rows table key None = without rows table key
left_at at rows table key (Some row) = put_if (is_at at (record { table = table; key = key; row = row })) (record { table = table; key = key; row = row }) (without rows table key)

rows_after : (tables : List PlainRow) (at : Place) (table : List ℕ) (key : Value) (row : Option (List Value)) → AreTables tables → rows_at (put_if_any (without tables table key) table key row) at ≡ left_at at (rows_at tables at) table key row
rows_after tables at table key None all = filter_swap (is_at at) (λ row. not (is_at (place.Row table key) row)) tables
rows_after tables at table key (Some row) all =
    let put : PlainRow = record { table = table; key = key; row = row } in
    filter-put_row (is_at at) put (without tables table key) (AreTables-filter (λ row. not (is_at (place.Row table key) row)) tables all)
    ∙ ap (put_if (is_at at put) put) (filter_swap (is_at at) (λ row. not (is_at (place.Row table key) row)) tables)

pub rows_at-with_write : (a b : List PlainRow) (at : Place) (write : Write) → AreTables a → AreTables b → rows_at a at ≡ rows_at b at → rows_at (with_write a write) at ≡ rows_at (with_write b write) at
rows_at-with_write a b at write in_a in_b same =
    rows_after a at write.table write.key write.row in_a ∙ ap (λ rows. left_at at rows write.table write.key write.row) same ∙ sym (rows_after b at write.table write.key write.row in_b)

-- what stands at a place after writes depends on what stood there alone
pub rows_at-with_writes : (a b : List PlainRow) (at : Place) (writes : List Write) → AreTables a → AreTables b → rows_at a at ≡ rows_at b at → rows_at (with_writes a writes) at ≡ rows_at (with_writes b writes) at
rows_at-with_writes a b at [] in_a in_b same = same
rows_at-with_writes a b at (write ∷ writes) in_a in_b same =
    rows_at-with_writes (with_write a write) (with_write b write) at writes (AreTables-with_write a write in_a) (AreTables-with_write b write in_b) (rows_at-with_write a b at write in_a in_b same)

-- ---- what a write leaves

none_left : (table : List ℕ) (key : Value) (first : PlainRow) (rest : List PlainRow) (b : Bool) → is_at (place.Row table key) first ≡ b → rows_at (without rest table key) (place.Row table key) ≡ [] → rows_at (without (first ∷ rest) table key) (place.Row table key) ≡ []
none_left table key first rest true e more = rw e more
none_left table key first rest false e more = rw (e, e) more

rows_at-without : (tables : List PlainRow) (table : List ℕ) (key : Value) → rows_at (without tables table key) (place.Row table key) ≡ []
rows_at-without [] table key = refl
rows_at-without (first ∷ rest) table key = none_left table key first rest (is_at (place.Row table key) first) refl (rows_at-without rest table key)

stands : (tables : List PlainRow) (write : Write) (row : Option (List Value)) → AreTables tables → rows_at (put_if_any (without tables write.table write.key) write.table write.key row) (place.Row write.table write.key) ≡ written_row write row
stands tables write None all = rows_at-without tables write.table write.key
stands tables write (Some row) all =
    let put : PlainRow = record { table = write.table; key = write.key; row = row } in
    let own : is_at (place.Row write.table write.key) put ≡ true = is_at-own put put (record { table = refl; key = refl }) in
    filter-put_row (is_at (place.Row write.table write.key)) put (without tables write.table write.key) (AreTables-filter (λ row. not (is_at (place.Row write.table write.key) row)) tables all)
    ∙ ap (λ b. put_if b put (rows_at (without tables write.table write.key) (place.Row write.table write.key))) own
    ∙ ap (put_row put) (rows_at-without tables write.table write.key)

-- after a write its row stands at its place, or none
pub rows_at-written : (tables : List PlainRow) (write : Write) → AreTables tables → rows_at (with_write tables write) (place.Row write.table write.key) ≡ written_row write write.row
rows_at-written tables write all = stands tables write write.row all

-- a place is told by table and key alone
is_at-same : (at : Place) (a b : PlainRow) → AtOne a b → is_at at a ≡ is_at at b
is_at-same (place.Row table key) a b same = rw (same.table, same.key) refl
is_at-same (place.Table table) a b same = rw same.table refl

untouched_at : (at : Place) (table : List ℕ) (key : Value) (first : PlainRow) (rest : List PlainRow) → is_at at (record { table = table; key = key; row = [] }) ≡ false → rows_at (without rest table key) at ≡ rows_at rest at
    → (b : Bool) → is_at (place.Row table key) first ≡ b → rows_at (without (first ∷ rest) table key) at ≡ rows_at (first ∷ rest) at
untouched_at at table key first rest other more true e =
    let own = is_at-row table key first e in
    let no : is_at at first ≡ false = is_at-same at first (record { table = table; key = key; row = [] }) (record { table = own.0; key = own.1 }) ∙ other in
    rw (e, no) more
untouched_at at table key first rest other more false e = ap (λ b. filter (is_at at) (cond b (first ∷ without rest table key) (without rest table key))) (ap not e) ∙ ap (λ l. cond (is_at at first) (first ∷ l) l) more

rows_at-others : (at : Place) (tables : List PlainRow) (table : List ℕ) (key : Value) → is_at at (record { table = table; key = key; row = [] }) ≡ false → rows_at (without tables table key) at ≡ rows_at tables at
rows_at-others at [] table key other = refl
rows_at-others at (first ∷ rest) table key other = untouched_at at table key first rest other (rows_at-others at rest table key other) (is_at (place.Row table key) first) refl

unput : (at : Place) (tables : List PlainRow) (write : Write) (row : Option (List Value)) → AreTables tables → is_touched at write ≡ false → rows_at (put_if_any (without tables write.table write.key) write.table write.key row) at ≡ rows_at tables at
unput at tables write None all other = rows_at-others at tables write.table write.key other
unput at tables write (Some row) all other =
    let put : PlainRow = record { table = write.table; key = write.key; row = row } in
    let no : is_at at put ≡ false = is_at-same at put (record { table = write.table; key = write.key; row = [] }) (record { table = refl; key = refl }) ∙ other in
    filter-put_row (is_at at) put (without tables write.table write.key) (AreTables-filter (λ row. not (is_at (place.Row write.table write.key) row)) tables all)
    ∙ ap (λ b. put_if b put (rows_at (without tables write.table write.key) at)) no ∙ rows_at-others at tables write.table write.key other

-- and every other place is as it was
pub rows_at-untouched : (tables : List PlainRow) (write : Write) (at : Place) → AreTables tables → is_touched at write ≡ false → rows_at (with_write tables write) at ≡ rows_at tables at
rows_at-untouched tables write at all other = unput at tables write write.row all other
