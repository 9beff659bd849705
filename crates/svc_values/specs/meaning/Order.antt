-- The order of values: kinds in order Int, Text, Bytes, and in one kind by number or by bytes.
use Rattle.std.specs.Ordering.{nat_cmp, int_cmp}
use Rattle.std.specs.declared.cmp.Ordering.{Ordering}
use Rattle.std.specs.declared.cmp.Ordering.TheVariants.{Less, Greater}
use Rattle.std.specs.Cmp.Lexicographic.{slice_cmp}
use Rattle.svc_values.specs.declared.value.Value.{Value}
use Rattle.svc_values.specs.declared.value.Value.TheVariants as value

abbrev pub value_cmp : Value → Value → Ordering
value_cmp (value.Int a) (value.Int b) = int_cmp a b
value_cmp (value.Int a) (value.Text b) = Less
value_cmp (value.Int a) (value.Bytes b) = Less
value_cmp (value.Text a) (value.Int b) = Greater
value_cmp (value.Text a) (value.Text b) = slice_cmp nat_cmp a b
value_cmp (value.Text a) (value.Bytes b) = Less
value_cmp (value.Bytes a) (value.Int b) = Greater
value_cmp (value.Bytes a) (value.Text b) = Greater
value_cmp (value.Bytes a) (value.Bytes b) = slice_cmp nat_cmp a b
