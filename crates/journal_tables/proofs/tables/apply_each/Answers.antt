use Rattle.journal_tables.proofs.Applied.{entry_more}
use Rattle.journal_tables.proofs.tables.apply_each.Goals as goal

pub loop-entry-preserved : goal.loop-entry-preserved
loop-entry-preserved c =
    let so_far = c.loop-entry.invariant in
    let more = entry_more c.args.tables.now c.loop-entry.tables c.apply.new.self c.args.entries.now c.loop-entry.entry-index c.entry-item.result c.loop-entry-test.true c.entry-item.is so_far.schemas so_far.rows so_far.rest c.in_ok-apply.ensures.ok in
    record { schemas = more.0; rows = more.1; rest = more.2 }
