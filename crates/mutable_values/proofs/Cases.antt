-- The cases of a draw.
use Rattle.std.proofs.Common.{◌≡◌, ◌+◌, ◌+ℤ◌, ℕ, Bool, true, false, List, [], ◌∷◌, if◌then◌else◌, refl, sym, ap, ◌∙◌}
use Rattle.std.specs.Prelude.{Option, Some, None, int_le}
use Rattle.std.specs.Option.{is_some, option_map}
use Rattle.svc_values.specs.declared.draw.Draw.{Draw}
use Rattle.svc_values.specs.declared.draw.Draw.TheVariants as draw
use Rattle.svc_values.specs.declared.draw.DrawKind.{DrawKind}
use Rattle.svc_values.specs.declared.draw.DrawKind.TheVariants as kind
use Rattle.svc_values.specs.meaning.Draws.{is_of_kind}
use Rattle.svc_values.specs.Draws.{is_there}
use Rattle.mutable_values.specs.declared.source.SeqState.{SeqState}
use Rattle.mutable_values.specs.declared.source.Drawn.TheVariants as drawn
use Rattle.mutable_values.specs.meaning.Sources.{identifier}
use Rattle.mutable_values.specs.Sources.{Opening, DrawnFrom, changed, draw_from, draw_of, first_kept, names_of, new_draw, new_value, next_value, reservation_size, sequence_of, without_first}
use Rattle.mutable_values.proofs.Histories.{found_name}
use Rattle.mutable_values.proofs.Places.{there_is}

-- what a draw comes to, and why
pub data DrawsBy (opening : Opening) (kept : List Draw) (asked : DrawKind) (now : ℕ) (result : Option DrawnFrom) : Type 0 where
  -- a sequence is asked for that is not there
  absent : is_there (names_of opening.sequences) asked ≡ false → result ≡ None → DrawsBy opening kept asked now result
  -- the first kept one of the kind is given
  first : (one : Draw) → is_there (names_of opening.sequences) asked ≡ true → first_kept asked kept ≡ Some one
      → result ≡ Some (record { answer = drawn.Value one; opening = opening; kept = without_first asked kept }) → DrawsBy opening kept asked now result
  ticked : asked ≡ kind.Clock → first_kept asked kept ≡ None
      → result ≡ Some (record { answer = drawn.Value (draw.Clock now); opening = opening; kept = kept }) → DrawsBy opening kept asked now result
  named : asked ≡ kind.Id → first_kept asked kept ≡ None
      → result ≡ Some (record { answer = drawn.Value (draw.Id (identifier opening.incarnation (opening.identifiers + 1))); opening = record opening { identifiers = opening.identifiers + 1 }; kept = kept })
      → DrawsBy opening kept asked now result
  valued : (sequence : SeqState) → is_there (names_of opening.sequences) asked ≡ true → asked ≡ kind.Seq sequence.name → first_kept asked kept ≡ None
      → sequence_of opening.sequences sequence.name ≡ Some sequence → int_le sequence.next sequence.upto ≡ true
      → result ≡ Some (record { answer = drawn.Value (draw.Seq sequence.name sequence.next); opening = record opening { sequences = changed next_value sequence.name opening.sequences }; kept = kept })
      → DrawsBy opening kept asked now result
  -- the next value lies past the reservation
  reserves : (sequence : SeqState) → is_there (names_of opening.sequences) asked ≡ true → asked ≡ kind.Seq sequence.name → first_kept asked kept ≡ None
      → sequence_of opening.sequences sequence.name ≡ Some sequence → int_le sequence.next sequence.upto ≡ false
      → result ≡ Some (record { answer = drawn.Reserve sequence.name (sequence.upto +ℤ reservation_size); opening = opening; kept = kept })
      → DrawsBy opening kept asked now result

module _ (opening : Opening) (kept : List Draw) (now : ℕ) where
  by_value : (name : List ℕ) (sequence : SeqState) → is_there (names_of opening.sequences) (kind.Seq name) ≡ true → first_kept (kind.Seq name) kept ≡ None → sequence_of opening.sequences name ≡ Some sequence
      → (t : Bool) → int_le sequence.next sequence.upto ≡ t → DrawsBy opening kept (kind.Seq name) now (Some (new_value opening kept sequence))
  by_value name sequence there none found true e =
      let named : sequence.name ≡ name = found_name opening.sequences name sequence found in
      valued sequence there (ap kind.Seq (sym named)) none (ap (sequence_of opening.sequences) named ∙ found) e (rw e refl)
  by_value name sequence there none found false e =
      let named : sequence.name ≡ name = found_name opening.sequences name sequence found in
      reserves sequence there (ap kind.Seq (sym named)) none (ap (sequence_of opening.sequences) named ∙ found) e (rw e refl)

  by_sequence : (name : List ℕ) (found : Option SeqState) → is_there (names_of opening.sequences) (kind.Seq name) ≡ true → first_kept (kind.Seq name) kept ≡ None
      → sequence_of opening.sequences name ≡ found → DrawsBy opening kept (kind.Seq name) now (option_map (new_value opening kept) found)
  by_sequence name None there none found =
      absurd (let clash : ◌≡◌ {A = Bool} true false = sym there ∙ sym (there_is opening.sequences name) ∙ ap is_some found in cc)
  by_sequence name (Some sequence) there none found = by_value name sequence there none found (int_le sequence.next sequence.upto) refl

  by_new : (asked : DrawKind) → is_there (names_of opening.sequences) asked ≡ true → first_kept asked kept ≡ None → DrawsBy opening kept asked now (new_draw opening kept asked now)
  by_new (kind.Seq name) there none = by_sequence name (sequence_of opening.sequences name) there none refl
  by_new kind.Clock there none = ticked refl none refl
  by_new kind.Id there none = named refl none refl

  by_there : (asked : DrawKind) (t : Bool) → is_there (names_of opening.sequences) asked ≡ t → (one : Option Draw) → first_kept asked kept ≡ one
      → DrawsBy opening kept asked now (if t then draw_from one opening kept asked now else None)
  by_there asked false e one is = absent e refl
  by_there asked true e (Some one) is = first one e is refl
  by_there asked true e None is = by_new asked e is

  -- each draw is one of these
  pub draws_by : (asked : DrawKind) → DrawsBy opening kept asked now (draw_of opening kept asked now)
  unfolding draw_of
  draws_by asked = by_there asked (is_there (names_of opening.sequences) asked) refl (first_kept asked kept) refl

kind_by : (asked : DrawKind) (one given : Draw) (rest : List Draw) (t : Bool) → is_of_kind asked one ≡ t → (first_kept asked rest ≡ Some given → is_of_kind asked given ≡ true)
    → (if t then Some one else first_kept asked rest) ≡ Some given → is_of_kind asked given ≡ true
kind_by asked one given rest true e more is = let same : one ≡ given = cc in ap (is_of_kind asked) (sym same) ∙ e
kind_by asked one given rest false e more is = more is

-- the first kept one that is of the kind is of the kind
pub first_is_of_kind : (asked : DrawKind) (kept : List Draw) (given : Draw) → first_kept asked kept ≡ Some given → is_of_kind asked given ≡ true
first_is_of_kind asked [] given is = absurd (let none : ◌≡◌ {A = Option Draw} None (Some given) = is in cc)
first_is_of_kind asked (one ∷ rest) given is = kind_by asked one given rest (is_of_kind asked one) refl (first_is_of_kind asked rest given) is
