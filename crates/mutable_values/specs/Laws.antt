-- What holds of drawn values.
use Rattle.std.specs.Prelude.{ℕ, ℤ, ◌≡◌, ◌≢◌, ◌+◌, ◌≤◌, Bool, IsTrue, int_le, int_lt, List, ◌∷◌, length, map, Some, None}
use Rattle.std.specs.List.{AllPairs, list_all}
use Rattle.svc_values.specs.declared.draw.Draw.{Draw}
use Rattle.svc_values.specs.declared.draw.Draw.TheVariants as draw
use Rattle.svc_values.specs.declared.draw.DrawKind.{DrawKind}
use Rattle.svc_values.specs.meaning.Draws.{is_of_kind}
use Rattle.mutable_values.specs.declared.source.SeqState.{SeqState}
use Rattle.mutable_values.specs.declared.source.Drawn.TheVariants as drawn
use Rattle.mutable_values.specs.Sources.{Opening, are_sequences, draw_of, first_kept, has_room, may_reserve, reserved_to, sequence_of}
use Rattle.mutable_values.specs.History.{Did, Drew, MayDo, after_one, all_anew, counted, identified, identifiers_of, values_of}
use Rattle.mutable_values.specs.Epochs.{Epoch, AreEpochs, anew_over}

-- The new values of a sequence are the numbers from where it stood, one after the other: none is
-- given twice, and none is left out.
abbrev pub CountsValues : Type 0
CountsValues =
    (opening : Opening) (history : List Did) (sequence : SeqState)
    → sequence_of opening.sequences sequence.name ≡ Some sequence
    → let values = values_of sequence.name (all_anew opening history) in values
    ≡ counted sequence.next (length values)

-- The new identifiers are counted from the ones before in their incarnation.
abbrev pub CountsIdentifiers : Type 0
CountsIdentifiers =
    (opening : Opening) (history : List Did)
    → let identifiers = identifiers_of (all_anew opening history) in identifiers
    ≡ identified opening.incarnation opening.identifiers (length identifiers)

-- a value that is given, kept or new, is of the kind and name that is asked for
abbrev pub GivesAsAsked : Type 0
GivesAsAsked =
    (opening after : Opening) (kept left : List Draw) (asked : DrawKind) (now : ℕ) (one : Draw)
    → draw_of opening kept asked now ≡ Some (record {
      answer = drawn.Value one;
      opening = after;
      kept = left;
    })
    → IsTrue (is_of_kind asked one)

-- The reservation that a draw asks for may be made, and once it is made the same draw gives a
-- value.
abbrev pub GivesOnceReserved : Type 0
GivesOnceReserved =
    (opening after : Opening) (kept left : List Draw) (asked : DrawKind) (now later : ℕ)
    (name : List ℕ) (upto : ℤ)
    → IsTrue (are_sequences opening.sequences)
    → draw_of opening kept asked now ≡ Some (record {
      answer = drawn.Reserve name upto;
      opening = after;
      kept = left;
    })
    → IsTrue (may_reserve opening name upto)
    × (value : ℤ) × (end : Opening)
    × (draw_of (reserved_to opening name upto) kept asked later ≡ Some (record {
      answer = drawn.Value (draw.Seq name value);
      opening = end;
      kept = kept;
    }))

-- a new value of a sequence is its next one, and at most the end of its reservation
abbrev pub LiesWithin : Type 0
LiesWithin =
    (opening after : Opening) (kept left : List Draw) (asked : DrawKind) (now : ℕ) (name : List ℕ)
    (value : ℤ)
    → first_kept asked kept ≡ None
    → draw_of opening kept asked now ≡ Some (record {
      answer = drawn.Value (draw.Seq name value);
      opening = after;
      kept = left;
    })
    → (sequence : SeqState) × (sequence_of opening.sequences name ≡ Some sequence)
    × (value ≡ sequence.next) × IsTrue (int_le value sequence.upto)

-- what never changes of a sequence: its name, and whether its values are kept
abbrev pub tag_of : SeqState → List ℕ × Bool
tag_of sequence = (sequence.name, sequence.keep)

-- sequences stay sequences, with their names and whether they are kept
abbrev pub SequencesStay : Type 0
SequencesStay =
    (opening : Opening) (did : Did) → MayDo opening did → IsTrue (are_sequences opening.sequences)
    → IsTrue (are_sequences (after_one opening did).sequences)
    × (map tag_of (after_one opening did).sequences ≡ map tag_of opening.sequences)

-- a draw leaves the incarnation and the room for reservations, and takes that of one identifier at
-- most
abbrev pub KeepsRoom : Type 0
KeepsRoom =
    (opening after : Opening) (kept : List Draw) (asked : DrawKind) (now : ℕ)
    → after_one opening (Drew kept asked now) ≡ after
    → (after.incarnation ≡ opening.incarnation)
    × (list_all has_room after.sequences ≡ list_all has_room opening.sequences)
    × (opening.identifiers ≤ after.identifiers) × (after.identifiers ≤ opening.identifiers + 1)

-- Over all openings of a store the new values of a sequence rise, so none is given twice.
abbrev pub ValuesRise : Type 0
ValuesRise =
    (first : Epoch) (later : List Epoch) (sequence : SeqState)
    → AreEpochs (first ∷ later) → sequence_of first.opening.sequences sequence.name ≡ Some sequence
    → AllPairs (λ one other. IsTrue (int_lt one other))
    (values_of sequence.name (anew_over (first ∷ later)))

-- Over all openings of a store no new identifier is given twice.
abbrev pub IdentifiersDiffer : Type 0
IdentifiersDiffer = (epochs : List Epoch) → AreEpochs epochs
    → AllPairs (λ one other. one ≢ other) (identifiers_of (anew_over epochs))
