-- Sequences stay sequences, and a draw keeps the room.
use Rattle.std.proofs.Common.{◌≡◌, ◌+◌, ◌+ℤ◌, ◌≤◌, ◌&&◌, ℕ, ℤ, Bool, true, false, not, List, [], ◌∷◌, map, if◌then◌else◌, refl, sym, ap, ap₂, ◌∙◌, arith}
use Rattle.std.proofs.lemmas.Slice.Eq.{bytes_eq-Decides}
use Rattle.std.specs.Prelude.{IsTrue, Option, Some, None}
use Rattle.std.specs.List.{list_all}
use Rattle.std.specs.Str.{bytes_eq}
use Rattle.svc_values.specs.declared.draw.Draw.{Draw}
use Rattle.svc_values.specs.declared.draw.DrawKind.{DrawKind}
use Rattle.svc_values.specs.meaning.Names.{is_name_of, names_differ}
use Rattle.mutable_values.specs.declared.source.SeqState.{SeqState}
use Rattle.mutable_values.specs.Sources.{Opening, DrawnFrom, are_sequences, changed, draw_of, ends_next, has_room, is_within, names_of, next_value, reservation_size, reserved_to, sequence_of}
use Rattle.mutable_values.specs.History.{Drew, Reserved, after_one, opening_after}
use Rattle.mutable_values.specs.Laws.{SequencesStay, KeepsRoom, tag_of}
use Rattle.mutable_values.proofs.Cases.{DrawsBy, absent, first, ticked, named, valued, reserves, draws_by}
use Rattle.mutable_values.proofs.Draws.{goes_within, still_within, ends_at}
use Rattle.mutable_values.proofs.Given.{found_passes}
use Rattle.mutable_values.proofs.Places.{both, differ_kept, is_false, unchanged}

-- ---- names, and whether values are kept

tag_by : (change : SeqState → SeqState) → ((s : SeqState) → tag_of (change s) ≡ tag_of s) → (sequence : SeqState) (t : Bool) → tag_of (if t then change sequence else sequence) ≡ tag_of sequence
tag_by change same sequence true = same sequence
tag_by change same sequence false = refl

-- a change that leaves names and keeps leaves them everywhere
pub tags_changed : (change : SeqState → SeqState) → ((s : SeqState) → tag_of (change s) ≡ tag_of s) → (name : List ℕ) (sequences : List SeqState) → map tag_of (changed change name sequences) ≡ map tag_of sequences
tags_changed change same name [] = refl
tags_changed change same name (one ∷ rest) = ap₂ (λ a l. a ∷ l) (tag_by change same one (bytes_eq one.name name)) (tags_changed change same name rest)

-- ---- each within its reservation

within_by : (change : SeqState → SeqState) (name : List ℕ) (one sequence : SeqState) (rest : List SeqState) (t : Bool) → bytes_eq one.name name ≡ t
    → not (is_name_of (names_of rest) one.name) ≡ true → is_within (change sequence) ≡ true → is_within one ≡ true → list_all is_within rest ≡ true
    → (sequence_of rest name ≡ Some sequence → list_all is_within (changed change name rest) ≡ true)
    → (if t then Some one else sequence_of rest name) ≡ Some sequence
    → (is_within (if t then change one else one) && list_all is_within (changed change name rest)) ≡ true
within_by change name one sequence rest true e alone passes here all more is =
    let same : one ≡ sequence = cc in
    let named : one.name ≡ name = (bytes_eq-Decides one.name name).0 e in
    let none : is_name_of (names_of rest) name ≡ false = ap (is_name_of (names_of rest)) (sym named) ∙ is_false _ alone in
    ap₂ (λ (a b : Bool). a && b) (ap (λ s. is_within (change s)) same ∙ passes) (ap (list_all is_within) (unchanged change name rest none) ∙ all)
within_by change name one sequence rest false e alone passes here all more is = ap₂ (λ (a b : Bool). a && b) here (more is)

-- the sequence of the name is changed, and stays within its reservation
pub within_changed : (change : SeqState → SeqState) (name : List ℕ) (sequence : SeqState) (sequences : List SeqState) → names_differ (names_of sequences) ≡ true → is_within (change sequence) ≡ true
    → list_all is_within sequences ≡ true → sequence_of sequences name ≡ Some sequence → list_all is_within (changed change name sequences) ≡ true
within_changed change name sequence [] differ passes all is = refl
within_changed change name sequence (one ∷ rest) differ passes all is =
    let alone = both (not (is_name_of (names_of rest) one.name)) (names_differ (names_of rest)) differ in
    let here = both (is_within one) (list_all is_within rest) all in
    within_by change name one sequence rest (bytes_eq one.name name) refl alone.0 passes here.0 here.1 (within_changed change name sequence rest alone.1 passes here.1) is

are_changed : (change : SeqState → SeqState) → ((s : SeqState) → (change s).name ≡ s.name) → (name : List ℕ) (sequence : SeqState) (sequences : List SeqState)
    → are_sequences sequences ≡ true → sequence_of sequences name ≡ Some sequence → is_within (change sequence) ≡ true → are_sequences (changed change name sequences) ≡ true
are_changed change keeps name sequence sequences are is passes =
    let parts = both (names_differ (names_of sequences)) (list_all is_within sequences) are in
    ap₂ (λ (a b : Bool). a && b) (differ_kept change keeps name sequences ∙ parts.0) (within_changed change name sequence sequences parts.0 passes parts.1 is)

abbrev Stays : Opening → Opening → Type 0
Stays opening after = IsTrue (are_sequences after.sequences) × (map tag_of after.sequences ≡ map tag_of opening.sequences)

-- an opening that is this one stays so
stays_as : (opening after next : Opening) → next ≡ after → Stays opening after → Stays opening next
stays_as opening after next is stays = (ap (λ (o : Opening). are_sequences o.sequences) is ∙ stays.0, ap (λ (o : Opening). map tag_of o.sequences) is ∙ stays.1)

module _ (opening : Opening) (are : are_sequences opening.sequences ≡ true) where
  same_stays : Stays opening opening
  same_stays = (are, refl)

  draw_stays : (kept : List Draw) (asked : DrawKind) (now : ℕ) (result : Option DrawnFrom) → DrawsBy opening kept asked now result → Stays opening (opening_after opening result)
  draw_stays kept asked now result (absent missing e) = stays_as opening opening _ (ap (opening_after opening) e) same_stays
  draw_stays kept asked now result (first given there found e) = stays_as opening opening _ (ap (opening_after opening) e) same_stays
  draw_stays kept asked now result (ticked of_clock none e) = stays_as opening opening _ (ap (opening_after opening) e) same_stays
  draw_stays kept asked now result (named of_id none e) = stays_as opening (record opening { identifiers = opening.identifiers + 1 }) _ (ap (opening_after opening) e) (are, refl)
  draw_stays kept asked now result (valued sequence there of_name none found within e) =
      stays_as opening (record opening { sequences = changed next_value sequence.name opening.sequences }) _ (ap (opening_after opening) e) (
        are_changed next_value (λ s. refl) sequence.name sequence opening.sequences are found (goes_within sequence.next sequence.upto within),
        tags_changed next_value (λ s. refl) sequence.name opening.sequences,
      )
  draw_stays kept asked now result (reserves sequence there of_name none found past e) = stays_as opening opening _ (ap (opening_after opening) e) same_stays

  module _ (name : List ℕ) (upto : ℤ) where
    abbrev longer : SeqState → SeqState
    longer s = record s { upto = upto }

    reserved_stays : (found : Option SeqState) → sequence_of opening.sequences name ≡ found → ends_next found upto ≡ true → Stays opening (reserved_to opening name upto)
    reserved_stays None is may = absurd (let none : false ≡ true = may in cc)
    reserved_stays (Some sequence) is may =
        let end : upto ≡ sequence.upto +ℤ reservation_size = ends_at sequence upto (Some sequence) refl may in
        let before : is_within sequence ≡ true = found_passes is_within opening.sequences name sequence (both (names_differ (names_of opening.sequences)) (list_all is_within opening.sequences) are).1 is in (
          are_changed longer (λ s. refl) name sequence opening.sequences are is (still_within sequence.next sequence.upto upto end before),
          tags_changed longer (λ s. refl) name opening.sequences,
        )

pub sequences_stay : SequencesStay
sequences_stay opening (Drew kept asked now) may are = draw_stays opening are kept asked now (draw_of opening kept asked now) (draws_by opening kept now asked)
sequences_stay opening (Reserved name upto) may are = reserved_stays opening are name upto (sequence_of opening.sequences name) refl may

-- ---- room

room_by : (sequence : SeqState) (t : Bool) → has_room (if t then next_value sequence else sequence) ≡ has_room sequence
room_by sequence true = refl
room_by sequence false = refl

room_changed : (name : List ℕ) (sequences : List SeqState) → list_all has_room (changed next_value name sequences) ≡ list_all has_room sequences
room_changed name [] = refl
room_changed name (one ∷ rest) = ap₂ (λ (a b : Bool). a && b) (room_by one (bytes_eq one.name name)) (room_changed name rest)

abbrev Room : Opening → Opening → Type 0
Room opening after =
    (after.incarnation ≡ opening.incarnation) × (list_all has_room after.sequences ≡ list_all has_room opening.sequences)
    × (opening.identifiers ≤ after.identifiers) × (after.identifiers ≤ opening.identifiers + 1)

room_as : (opening after next : Opening) → next ≡ after → Room opening after → Room opening next
room_as opening after next is room =
    let counted : next.identifiers ≡ after.identifiers = ap (λ (o : Opening). o.identifiers) is in
    let least : opening.identifiers ≤ after.identifiers = room.2 in
    let most : after.identifiers ≤ opening.identifiers + 1 = room.3 in
    (ap (λ (o : Opening). o.incarnation) is ∙ room.0, ap (λ (o : Opening). list_all has_room o.sequences) is ∙ room.1, omega arith, omega arith)

same_room : (opening : Opening) → Room opening opening
same_room opening = (refl, refl, omega arith, omega arith)

draw_room : (opening : Opening) (kept : List Draw) (asked : DrawKind) (now : ℕ) (result : Option DrawnFrom) → DrawsBy opening kept asked now result → Room opening (opening_after opening result)
draw_room opening kept asked now result (absent missing e) = room_as opening opening _ (ap (opening_after opening) e) (same_room opening)
draw_room opening kept asked now result (first given there found e) = room_as opening opening _ (ap (opening_after opening) e) (same_room opening)
draw_room opening kept asked now result (ticked of_clock none e) = room_as opening opening _ (ap (opening_after opening) e) (same_room opening)
draw_room opening kept asked now result (named of_id none e) =
    room_as opening (record opening { identifiers = opening.identifiers + 1 }) _ (ap (opening_after opening) e) (refl, refl, omega arith, omega arith)
draw_room opening kept asked now result (valued sequence there of_name none found within e) =
    room_as opening (record opening { sequences = changed next_value sequence.name opening.sequences }) _ (ap (opening_after opening) e)
    (refl, room_changed sequence.name opening.sequences, omega arith, omega arith)
draw_room opening kept asked now result (reserves sequence there of_name none found past e) = room_as opening opening _ (ap (opening_after opening) e) (same_room opening)

pub keeps_room : KeepsRoom
keeps_room opening after kept asked now is =
    room_as opening (after_one opening (Drew kept asked now)) after (sym is) (draw_room opening kept asked now (draw_of opening kept asked now) (draws_by opening kept now asked))
