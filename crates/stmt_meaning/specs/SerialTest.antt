-- A serial run as a test that computes.
-- Here is what contracts and proofs say of it besides.
use Rattle.std.specs.Prelude.{Bool, List, is_some}
use Rattle.svc_values.specs.declared.schema.Shape.{Shape}
use Rattle.svc_values.specs.declared.entry.Entry.{Entry}
use Rattle.svc_values.specs.declared.tables.PlainRow.{PlainRow}
use Rattle.stmt_meaning.specs.meaning.SerialTest.{serial_after}

abbrev pub is_serial : Shape → List PlainRow → List Entry → Bool
is_serial shape start entries = is_some (serial_after shape start entries)
