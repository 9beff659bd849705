-- The lines of items that follow one another.
use Rattle.std.proofs.Common.{◌≡◌, ℕ, ◌+◌, ◌<◌, Bool, List, ◌∷◌, ◌++◌, map, drop, length, get_or, append_assoc, ◌≤◌, refl, sym, ap, ◌∙◌}
use Rattle.std.proofs.lemmas.List.{append-nil, drop_all, drop_more}
use Rattle.alert_lines.specs.Lines.{standing_of}
use Rattle.legal_items.specs.Views.{item_in}
use Rattle.legal_items.specs.declared.placed.PlacedItem.{PlacedItem}
use Rattle.server_model.specs.meaning.Items.{Item, Did, AskTold, AskStopped}
use Rattle.server_model.specs.meaning.Legal.{Line, lines_of}
use Rattle.legal_check.specs.Handed.{lines_at}

-- behind those of the first item come those of the others
lines_behind : (item : Item) (items : List Item) → lines_of (item ∷ items) ≡ lines_at item ++ lines_of items
lines_behind (Did event now session thing) items = refl
lines_behind (AskTold event x outcome) items = refl
lines_behind (AskStopped event x) items = refl

abbrev pub lines_in : List PlacedItem → List Line
lines_in items = lines_of (map item_in items)

-- some lines stand so, and with those of the items that are left they are those of all
pub record IsHanded (standing : List Bool) (all left : List PlacedItem) (alerts : List (List ℕ)) : Type 0 where
  pub lines : List Line
  pub stand : standing ≡ standing_of lines alerts
  pub whole : lines ++ lines_in left ≡ lines_in all

-- the lines of one item more
pub one_more : (lines : List Line) (all : List PlacedItem) (i : ℕ) (one : PlacedItem) → i < length all → one ≡ get_or all i one
    → lines ++ lines_in (drop i all) ≡ lines_in all → (lines ++ lines_at (item_in one)) ++ lines_in (drop (i + 1) all) ≡ lines_in all
one_more lines all i one lt is whole =
    let left = drop (i + 1) all in
    append_assoc lines (lines_at (item_in one)) (lines_in left)
    ∙ (ap (λ l. lines ++ l) (sym (lines_behind (item_in one) (map item_in left)))
    ∙ (ap (λ (item : PlacedItem). lines ++ lines_in (item ∷ left)) is
    ∙ (ap (λ (l : List PlacedItem). lines ++ lines_in l) (sym (drop_more all i one lt)) ∙ whole)))

pub none_left : (lines : List Line) (all : List PlacedItem) (i : ℕ) → length all ≤ i → lines ++ lines_in (drop i all) ≡ lines_in all → lines ≡ lines_in all
none_left lines all i past whole = sym (append-nil lines) ∙ (ap (λ (l : List PlacedItem). lines ++ lines_in l) (sym (drop_all i all past)) ∙ whole)
