use Rattle.std.proofs.Common.{subst, refl}
use Rattle.table_store.specs.Stored.{AreKept}
use Rattle.table_store.proofs.Keeps.{kept_from_stored, applied_more}
use Rattle.table_store.proofs.tables.Tables.apply.Goals as goal

pub loop-write-init : goal.loop-write-init
loop-write-init c =
    (refl, (c.requires, (subst AreKept c.self.view_is (kept_from_stored c.self.inside.schemas c.self.inside.shelves.entries c.self.invariant), c.as_slice-write-items.ensures)))

pub loop-write-preserved : goal.loop-write-preserved
loop-write-preserved c =
    let so_far = c.loop-write.invariant in (
      applied_more c.args.self.now c.args.writes.now c.as_slice-write-items.result.now c.loop-write.write-index c.write-item.result c.loop-write.self c.write.new.self
          so_far.1.1.1 c.loop-write-test.true c.write-item.is so_far.0 c.in_ok-write.ensures.ok,
      (so_far.1.0, (c.in_ok-write.ensures.kept, so_far.1.1.1)),
    )
