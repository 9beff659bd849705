use Rattle.std.proofs.Common.{◌≡◌, map, take}
use Rattle.legal_items.specs.Views.{item_in}
use Rattle.plain_items.specs.Views.{item_as}
use Rattle.legal_check.proofs.walked.plain_of.Given as goal

abbrev pub invariant-loop-one : goal.invariant-loop-one
invariant-loop-one l = map item_as l.plain.items ≡ map item_in (take l.one-index l.items)
