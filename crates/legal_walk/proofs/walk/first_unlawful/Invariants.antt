use Rattle.std.proofs.Common.{◌≡◌, drop, map}
use Rattle.server_model.specs.meaning.Base.{Base}
use Rattle.server_model.specs.meaning.Legal.{items_hold}
use Rattle.server_model.specs.meaning.Walk.{Walk, walk_of}
use Rattle.plain_items.specs.Views.{item_as}
use Rattle.legal_walk.specs.Starting.{IsStart}
use Rattle.legal_walk.specs.Walks.{Walks}
use Rattle.legal_walk.proofs.walk.first_unlawful.Given as goal

abbrev pub invariant-loop-at : goal.invariant-loop-at
invariant-loop-at l = (base : Base) → IsStart base l.fn.start
    → (walk : Walk) × (Walks base walk l.walker × (items_hold base (walk_of base l.entries) (map item_as l.items) ≡ items_hold base walk (map item_as (drop l.at l.items))))
