-- Items, one after the other.
use Rattle.std.proofs.Common.{◌≡◌, ℕ, ◌+◌, ◌<◌, ◌≤◌, ◌&&◌, List, [], ◌∷◌, length, get_or, drop, map, refl, sym, ap, ◌∙◌}
use Rattle.std.proofs.lemmas.List.{drop_more, drop_all}
use Rattle.table_txn.specs.Transactions.{shape_of}
use Rattle.server_model.specs.meaning.Base.{Base}
use Rattle.server_model.specs.meaning.Legal.{all_stored, items_hold}
use Rattle.server_model.specs.meaning.Walk.{Walk}
use Rattle.plain_items.specs.declared.item.Item.{Item}
use Rattle.plain_items.specs.Views.{item_as}
use Rattle.legal_walk.specs.declared.start.Start.{Start}
use Rattle.legal_walk.specs.Items.{after_item, item_holds_here}
use Rattle.legal_walk.specs.Starting.{IsStart}

-- a base that begins so
abbrev pub base_of : Start → Base
base_of start = record {
  shape = shape_of start.tables start.names;
  sequences = start.sequences.items;
  grants = start.grants;
  tables = start.tables.rows;
  entries = start.entries.now;
  blocked = start.blocked.now;
  alerts = [];
  incarnation = start.incarnation;
  horizon = 0;
}

pub starts : (start : Start) → IsStart (base_of start) start
starts start = record { shape = refl; sequences = refl; grants = refl; tables = refl; entries = refl; blocked = refl; incarnation = refl }

module _ (base : Base) (walk : Walk) (items : List Item) (at : ℕ) where
  -- the next item is left
  pub items_next : (item : Item) → at < length items → item ≡ get_or items at item
      → items_hold base walk (map item_as (drop at items)) ≡ (item_holds_here base walk (item_as item) && items_hold base (after_item base walk (item_as item)) (map item_as (drop (at + 1) items)))
  items_next item within is = ap (λ (l : List Item). items_hold base walk (map item_as l)) (drop_more items at item within ∙ ap (λ i. i ∷ drop (at + 1) items) (sym is))

  -- or none
  pub items_end : length items ≤ at → items_hold base walk (map item_as (drop at items)) ≡ all_stored walk.left
  items_end over = ap (λ (l : List Item). items_hold base walk (map item_as l)) (drop_all at items over)
