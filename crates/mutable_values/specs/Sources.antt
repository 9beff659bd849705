-- What a source gives: the first kept draw left of the kind and name that is asked for, and else a
-- new one.
-- Here is what contracts and proofs say of it besides.
use Rattle.std.specs.Prelude.{ℕ, ℤ, pos, ◌+ℤ◌, ◌+◌, ◌^◌, ◌<◌, Bool, false, ◌&&◌, IsTrue, ◌-◌, int_le, List, [], ◌∷◌, map, Option, Some, None, if◌then◌else◌}
use Rattle.std.specs.Option.{option_map}
use Rattle.std.specs.Ordering.{int_eq}
use Rattle.std.specs.List.{list_all}
use Rattle.std.specs.Str.{bytes_eq}
use Rattle.svc_values.specs.declared.draw.Draw.{Draw}
use Rattle.svc_values.specs.declared.draw.Draw.TheVariants as draw
use Rattle.svc_values.specs.declared.draw.DrawKind.{DrawKind}
use Rattle.svc_values.specs.declared.draw.DrawKind.TheVariants as kind
use Rattle.svc_values.specs.meaning.Draws.{is_of_kind}
use Rattle.svc_values.specs.Draws.{is_there}
use Rattle.svc_values.specs.meaning.Names.{names_differ}
use Rattle.mutable_values.specs.declared.source.SeqState.{SeqState}
use Rattle.mutable_values.specs.declared.source.Drawn.{Drawn}
use Rattle.mutable_values.specs.declared.source.Drawn.TheVariants as drawn
use Rattle.mutable_values.specs.meaning.Sources.{identifier}

-- One opening of a store: its incarnation, how many identifiers were drawn in it, and its
-- sequences.
pub record Opening : Type 0 where
  pub incarnation : ℕ
  pub identifiers : ℕ
  pub sequences : List SeqState

abbrev pub names_of : List SeqState → List (List ℕ)
names_of sequences = map (λ sequence. sequence.name) sequences

-- no value was given past the reservation: the next one is at most the first behind it
abbrev pub is_within : SeqState → Bool
is_within sequence = int_le sequence.next (sequence.upto +ℤ pos 1)

-- no two have one name, and each is within its reservation
abbrev pub are_sequences : List SeqState → Bool
are_sequences sequences = names_differ (names_of sequences) && list_all is_within sequences

-- the reservation that comes next ends in the numbers that a sequence may give
abbrev pub has_room : SeqState → Bool
has_room sequence = int_le sequence.upto (pos (2 ^ 63 - 17))

-- there is room for a reservation of each sequence and for an identifier
pub record HasRoom (opening : Opening) : Type 0 where
  pub reservations : IsTrue (list_all has_room opening.sequences)
  pub identifiers : opening.identifiers < 2 ^ 60

-- the sequence of this name, if it is there
abbrev pub sequence_of : List SeqState → List ℕ → Option SeqState
sequence_of [] name = None
sequence_of (sequence ∷ sequences) name =
    if bytes_eq sequence.name name then Some sequence else sequence_of sequences name

-- the sequences, that of this name changed
abbrev pub changed : (SeqState → SeqState) → List ℕ → List SeqState → List SeqState
changed change name sequences = map (λ sequence. if bytes_eq sequence.name name then
    change sequence else sequence) sequences

-- the first of the kept draws that is of the kind and name
abbrev pub first_kept : DrawKind → List Draw → Option Draw
first_kept asked [] = None
first_kept asked (one ∷ rest) = if is_of_kind asked one then Some one else first_kept asked rest

-- the kept draws without that one
abbrev pub without_first : DrawKind → List Draw → List Draw
without_first asked [] = []
without_first asked (one ∷ rest) = if is_of_kind asked one then rest else one
    ∷ without_first asked rest

-- What a draw tells, and what is left of the opening and of the kept draws.
pub record DrawnFrom : Type 0 where
  pub answer : Drawn
  pub opening : Opening
  pub kept : List Draw

-- how many values a reservation has
abbrev pub reservation_size : ℤ
reservation_size = pos 16

abbrev pub next_value : SeqState → SeqState
next_value sequence = record sequence { next = sequence.next +ℤ pos 1 }

-- A new value of a sequence is the one after the last, where it lies in the reservation. Past it
-- the next reservation is to be stored first, and nothing changes.
abbrev pub new_value : Opening → List Draw → SeqState → DrawnFrom
new_value opening kept sequence =
    if int_le sequence.next sequence.upto
    then record {
      answer = drawn.Value (draw.Seq sequence.name sequence.next);
      opening = record opening { sequences = changed next_value sequence.name opening.sequences };
      kept = kept;
    }
    else record {
      answer = drawn.Reserve sequence.name (sequence.upto +ℤ reservation_size);
      opening = opening;
      kept = kept;
    }

-- A new draw: the next value of the sequence, if it is there; the tick; the identifier after the
-- last.
abbrev pub new_draw : Opening → List Draw → DrawKind → ℕ → Option DrawnFrom
new_draw opening kept (kind.Seq name) now =
    option_map (new_value opening kept) (sequence_of opening.sequences name)
new_draw opening kept kind.Clock now = Some (record {
  answer = drawn.Value (draw.Clock now);
  opening = opening;
  kept = kept;
})
new_draw opening kept kind.Id now = Some (record {
  answer = drawn.Value (draw.Id (identifier opening.incarnation (opening.identifiers + 1)));
  opening = record opening { identifiers = opening.identifiers + 1 };
  kept = kept;
})

abbrev pub draw_from : Option Draw → Opening → List Draw → DrawKind → ℕ → Option DrawnFrom
draw_from (Some one) opening kept asked now = Some (record {
  answer = drawn.Value one;
  opening = opening;
  kept = without_first asked kept;
})
draw_from None opening kept asked now = new_draw opening kept asked now

-- A draw: none where a sequence is asked for that is not there, else the first kept one, else a new
-- one.
unfoldable pub draw_of : Opening → List Draw → DrawKind → ℕ → Option DrawnFrom
draw_of opening kept asked now = if is_there (names_of opening.sequences) asked then
    draw_from (first_kept asked kept) opening kept asked now else None

-- it may be reserved: the sequence is there, and this is where its next reservation ends
abbrev pub ends_next : Option SeqState → ℤ → Bool
ends_next None upto = false
ends_next (Some sequence) upto = int_eq upto (sequence.upto +ℤ reservation_size)

abbrev pub may_reserve : Opening → List ℕ → ℤ → Bool
may_reserve opening name upto = ends_next (sequence_of opening.sequences name) upto

-- the sequence goes up to the end of the reservation
abbrev pub reserved_to : Opening → List ℕ → ℤ → Opening
reserved_to opening name upto = record opening {
  sequences =
      changed (λ sequence. record sequence { upto = upto }) name opening.sequences;
}
