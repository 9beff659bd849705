-- Writes in two parts.
use Rattle.std.proofs.Common.{◌≡◌, List, [], ◌∷◌, ◌++◌, refl}
use Rattle.svc_values.specs.declared.entry.Write.{Write}
use Rattle.svc_values.specs.declared.tables.PlainRow.{PlainRow}
use Rattle.svc_values.specs.meaning.Tables.{with_write, with_writes}

pub with_writes-append : (tables : List PlainRow) (writes more : List Write) → with_writes tables (writes ++ more) ≡ with_writes (with_writes tables writes) more
with_writes-append tables [] more = refl
with_writes-append tables (write ∷ writes) more = with_writes-append (with_write tables write) writes more
