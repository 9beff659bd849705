-- No value is given twice: among what is stored, and among what was drawn anew.
use Rattle.std.specs.Prelude.{◌&&◌, Bool, true, false, not, List, [], ◌∷◌, ◌++◌}
use Rattle.std.specs.List.{list_any, flat_map}
use Rattle.svc_values.specs.declared.draw.Draw.{Draw}
use Rattle.svc_values.specs.declared.draw.Draw.TheVariants as draw
use Rattle.svc_values.specs.declared.entry.Piece.{Piece}
use Rattle.svc_values.specs.declared.entry.Entry.{Entry}
use Rattle.server_model.specs.meaning.Base.{Base}
use Rattle.svc_values.specs.meaning.Same.{same_draw}
use Rattle.server_model.specs.meaning.Items.{Item}
use Rattle.server_model.specs.meaning.NewValues.{kept_by, new_among}
use Rattle.server_model.specs.meaning.Walk.{Walk, walk_of, Deed, Nothing, Meaningless, Ran, deed_of, entered, after}

-- values that stand once: those of sequences and identifiers. The ticks of the clock may come again
abbrev pub is_single : Draw → Bool
is_single (draw.Seq name value) = true
is_single (draw.Clock tick) = false
is_single (draw.Id id) = true

abbrev pub stands_again : Draw → List Draw → Bool
stands_again one draws = is_single one && list_any (same_draw one) draws

abbrev pub none_twice : List Draw → Bool
none_twice [] = true
none_twice (one ∷ draws) = not (stands_again one draws) && none_twice draws

abbrev pub draws_in : Piece → List Draw
draws_in piece = piece.draws

abbrev pub draws_of : Entry → List Draw
draws_of entry = flat_map draws_in entry.pieces

-- no value of a sequence and no identifier stands twice among the draws of the entries
abbrev pub fresh : List Entry → Bool
fresh entries = none_twice (flat_map draws_of entries)

abbrev pub new_in : Base → Deed → List Draw
new_in base Nothing = []
new_in base Meaningless = []
new_in base (Ran performed meant) = new_among (kept_by base performed.replay performed.kept)
    performed.draws

-- what the items drew anew, that of stopped calls included whose entry stands
abbrev pub drawn_anew : Base → Walk → List Item → List Draw
drawn_anew base walk [] = []
drawn_anew base walk (item ∷ items) =
    let here = entered walk item in
    let did = deed_of base here item in
    new_in base did ++ drawn_anew base (after base here item did) items

-- and none among the draws that the items drew anew
abbrev pub fresh_new : Base → List Item → List Entry → Bool
fresh_new base items entries = none_twice (drawn_anew base (walk_of base entries) items)
