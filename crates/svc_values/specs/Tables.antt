-- Plain tables: a list of rows, each with its table and key, in the order of table and key. No
-- table and key stands twice. Here is what contracts and proofs say of it besides.
use Rattle.std.specs.Prelude.{◌≡◌, true, List, [], ◌∷◌}
use Rattle.std.specs.Ordering.{nat_cmp, ordering_then}
use Rattle.std.specs.declared.cmp.Ordering.{Ordering}
use Rattle.std.specs.declared.cmp.Ordering.TheVariants.{Less, Greater}
use Rattle.std.specs.Cmp.Lexicographic.{slice_cmp}
use Rattle.svc_values.specs.meaning.Order.{value_cmp}
use Rattle.svc_values.specs.declared.tables.PlainRow.{PlainRow}
use Rattle.svc_values.specs.declared.tables.Place.{Place}
use Rattle.svc_values.specs.declared.tables.Place.TheVariants as place
use Rattle.svc_values.specs.meaning.Tables.{comes_before, rows_at}

-- how two rows stand in the order: by table, and in a table by key
abbrev pub row_cmp : PlainRow → PlainRow → Ordering
row_cmp a b = ordering_then (slice_cmp nat_cmp a.table b.table) (value_cmp a.key b.key)

-- how two places stand in their order: rows before tables, rows by key and then by table, tables by
-- name
abbrev pub place_cmp : Place → Place → Ordering
place_cmp (place.Row a k) (place.Row b l) = ordering_then (value_cmp k l) (slice_cmp nat_cmp a b)
place_cmp (place.Row a k) (place.Table b) = Less
place_cmp (place.Table a) (place.Row b l) = Greater
place_cmp (place.Table a) (place.Table b) = slice_cmp nat_cmp a b

-- the row comes before each of these
abbrev pub ComesFirst : PlainRow → List PlainRow → Type 0
ComesFirst row [] = Unit {0}
ComesFirst row (next ∷ rest) = (comes_before row next ≡ true) × ComesFirst row rest

-- in the order of table and key, none twice
abbrev pub AreTables : List PlainRow → Type 0
AreTables [] = Unit {0}
AreTables (row ∷ rest) = ComesFirst row rest × AreTables rest

-- two tables have the same rows at each of these places
abbrev pub AgreeAt : List PlainRow → List PlainRow → List Place → Type 0
AgreeAt a b [] = Unit {0}
AgreeAt a b (at ∷ places) = (rows_at a at ≡ rows_at b at) × AgreeAt a b places
