use Rattle.std.proofs.Common.{◌≡◌, ◌≤◌, ◌++◌, drop, map}
use Rattle.legal_items.specs.Told.{items_told}
use Rattle.legal_items.specs.Views.{moment_at, placed_as}
use Rattle.legal_items.proofs.items.items_in.Given as goal

abbrev pub invariant-loop-moment : goal.invariant-loop-moment
invariant-loop-moment l = record {
  told : map placed_as l.items.items ++ items_told l.schedule l.ticks (drop l.next (map (λ draws. draws.now) l.kept)) (map moment_at (drop l.moment-index l.moments))
      ≡ items_told l.schedule l.ticks (map (λ draws. draws.now) l.kept) (map moment_at l.moments);
  next : l.next ≤ l.moment-index;
}
