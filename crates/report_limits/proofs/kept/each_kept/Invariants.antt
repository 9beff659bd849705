use Rattle.std.proofs.Common.{take}
use Rattle.std.specs.Prelude.{IsTrue}
use Rattle.std.specs.List.{AllByRecursion, list_all}
use Rattle.report_limits.proofs.kept.each_kept.Given as goal

abbrev pub invariant-loop-item : goal.invariant-loop-item
invariant-loop-item g l = IsTrue (list_all g.T.Kept.fits (take l.item-index l.items)) × AllByRecursion g.T.Kept.octets (take l.item-index l.items)
