use Rattle.std.proofs.Common.{◌≡◌, take}
use Rattle.std.specs.Prelude.{IsTrue}
use Rattle.svc_values.specs.meaning.Tables.{with_writes}
use Rattle.svc_values.specs.meaning.Fitting.{writes_fit}
use Rattle.table_store.specs.Stored.{AreKept}
use Rattle.table_store.proofs.tables.Tables.apply.Given as goal

abbrev pub invariant-loop-write : goal.invariant-loop-write
invariant-loop-write l =
    (l.self ≡ record { schemas = l.fn.self.schemas; rows = with_writes l.fn.self.rows (take l.write-index l.writes) })
    × (IsTrue (writes_fit l.fn.self.schemas l.writes) × (AreKept l.self × (l.write-items ≡ l.writes)))
