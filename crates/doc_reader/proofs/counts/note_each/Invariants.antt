use Rattle.std.proofs.Common.{◌≡◌, drop}
use Rattle.std.specs.List.{flat_map}
use Rattle.doc_reader.specs.InnerCounting.{noted_all}
use Rattle.doc_reader.proofs.counts.note_each.Given as goal

abbrev pub invariant-loop-item : goal.invariant-loop-item
invariant-loop-item g l =
    noted_all l.names (flat_map g.T.Naming.names (drop l.item-index l.items)) ≡ noted_all l.fn.before (flat_map g.T.Naming.names l.items)
