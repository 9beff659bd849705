-- When two values are the same one: of one kind, with the same parts.
-- Here is what contracts and proofs say of it besides.
use Rattle.std.specs.Prelude.{◌&&◌, Bool, false}
use Rattle.std.specs.Str.{bytes_eq}
use Rattle.svc_values.specs.declared.tables.Place.{Place}
use Rattle.svc_values.specs.declared.tables.Place.TheVariants as place
use Rattle.svc_values.specs.meaning.Same.{same_value}

-- the row of one table and key, or one whole table
abbrev pub same_place : Place → Place → Bool
same_place (place.Row table key) (place.Row other at) = bytes_eq table other && same_value key at
same_place (place.Table table) (place.Table other) = bytes_eq table other
same_place _ _ = false
