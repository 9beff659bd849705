use Rattle.std.proofs.Common.{◌∙◌, ◌+◌, drop}
use Rattle.report_moments.proofs.Offered.{left_is}
use Rattle.stored_check.specs.Keys.{mark_of}
use Rattle.stored_check.proofs.Marks.{more_first}
use Rattle.stored_check.proofs.completed.Completed.add_all.Goals as goal

pub loop-entry-preserved : goal.loop-entry-preserved
loop-entry-preserved c =
    let entries = c.args.entries.now in
    let i = c.loop-entry.entry-index in
    let entry = c.entry-item.result in
    let left = left_is entries i entry c.loop-entry-test.true c.entry-item.is in
    λ x. more_first (mark_of c.loop-entry.self x) (mark_of c.add.new.self x) entry (drop i entries) (drop (i + 1) entries) left x (c.in_ok-add.ensures x) ∙ c.loop-entry.invariant x
