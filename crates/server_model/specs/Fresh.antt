-- No value is given twice: among what is stored, and among what was drawn anew.
-- Here is what contracts and proofs say of it besides.
use Rattle.std.specs.Prelude.{◌&&◌, Bool, List, [], ◌∷◌, ◌^◌, nat_lt}
use Rattle.svc_values.specs.declared.entry.Entry.{Entry}
use Rattle.server_model.specs.meaning.Base.{Base}
use Rattle.server_model.specs.meaning.Items.{Item}
use Rattle.server_model.specs.meaning.NewValues.{Numbers}
use Rattle.server_model.specs.meaning.Walk.{Walk, walk_of, deed_of, entered, after}

-- ---- room

-- numbers that identifiers can spell: eight bytes each
abbrev pub is_spelled : Numbers → Bool
is_spelled numbers = nat_lt numbers.incarnation (2 ^ 64) && nat_lt numbers.identifiers (2 ^ 64)

-- at the start, and as each item leaves them
abbrev pub have_room : Base → Walk → List Item → Bool
have_room base walk [] = is_spelled walk.numbers
have_room base walk (item ∷ items) =
    let here = entered walk item in
    is_spelled walk.numbers && have_room base (after base here item (deed_of base here item)) items

-- No opening counts identifiers past what they can spell: behind that they would come again. So it
-- is of each run.
abbrev pub has_room : Base → List Item → List Entry → Bool
has_room base items entries = have_room base (walk_of base entries) items
