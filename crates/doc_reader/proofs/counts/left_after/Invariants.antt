use Rattle.std.proofs.Common.{◌≡◌, drop, length}
use Rattle.std.specs.List.{flat_map}
use Rattle.doc_reader.specs.InnerCounting.{left_of}
use Rattle.doc_reader.proofs.counts.left_after.Given as goal

abbrev pub invariant-loop-item : goal.invariant-loop-item
invariant-loop-item g l =
    left_of l.left (length (flat_map g.T.Calling.calls (drop l.item-index l.items))) ≡ left_of l.before (length (flat_map g.T.Calling.calls l.items))
