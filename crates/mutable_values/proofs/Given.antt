-- What a draw gives, and what it leaves.
use Rattle.std.proofs.Common.{◌≡◌, ◌+ℤ◌, ℕ, ℤ, pos, Bool, true, false, List, [], ◌∷◌, if◌then◌else◌, refl, sym, ap, ap₂, ◌∙◌, arith}
use Rattle.std.proofs.lemmas.Bool.Decides.{Decides-int_eq}
use Rattle.std.proofs.lemmas.Int.{ints}
use Rattle.std.specs.Prelude.{IsTrue, Option, Some, None, int_le}
use Rattle.std.specs.List.{list_all}
use Rattle.std.specs.Option.{option_map}
use Rattle.std.specs.Str.{bytes_eq}
use Rattle.svc_values.specs.declared.draw.Draw.{Draw}
use Rattle.svc_values.specs.declared.draw.Draw.TheVariants as draw
use Rattle.svc_values.specs.declared.draw.DrawKind.{DrawKind}
use Rattle.svc_values.specs.declared.draw.DrawKind.TheVariants as kind
use Rattle.svc_values.specs.meaning.Draws.{is_of_kind}
use Rattle.svc_values.specs.Draws.{is_there}
use Rattle.svc_values.specs.meaning.Names.{names_differ}
use Rattle.mutable_values.specs.declared.source.SeqState.{SeqState}
use Rattle.mutable_values.specs.declared.source.Drawn.{Drawn}
use Rattle.mutable_values.specs.declared.source.Drawn.TheVariants as drawn
use Rattle.mutable_values.specs.Sources.{Opening, DrawnFrom, are_sequences, changed, draw_of, ends_next, first_kept, is_within, may_reserve, names_of, new_value, next_value, reservation_size, reserved_to, sequence_of}
use Rattle.mutable_values.specs.Laws.{GivesAsAsked, GivesOnceReserved, LiesWithin}
use Rattle.mutable_values.proofs.Cases.{DrawsBy, absent, first, ticked, named, valued, reserves, draws_by, first_is_of_kind}
use Rattle.mutable_values.proofs.Draws.{draw_new}
use Rattle.mutable_values.proofs.Histories.{sequence_changed}
use Rattle.mutable_values.proofs.Places.{both, change_of, names_kept, same_bytes}

-- ---- what was told

abbrev told : Drawn → Opening → List Draw → Option DrawnFrom
told answer after left = Some (record { answer = answer; opening = after; kept = left })

answers_are : (a b : Drawn) (m n : Opening) (k l : List Draw) → told a m k ≡ told b n l → a ≡ b
answers_are a b m n k l e = let same : Some a ≡ Some b = ap (option_map (λ (t : DrawnFrom). t.answer)) e in cc

kept_are : (a b : Drawn) (m n : Opening) (k l : List Draw) → told a m k ≡ told b n l → k ≡ l
kept_are a b m n k l e = let same : Some k ≡ Some l = ap (option_map (λ (t : DrawnFrom). t.kept)) e in cc

asked_seq : (opening after : Opening) (kept left : List Draw) (asked : DrawKind) (now : ℕ) (one : Draw) (result : Option DrawnFrom)
    → result ≡ told (drawn.Value one) after left → DrawsBy opening kept asked now result → is_of_kind asked one ≡ true
asked_seq opening after kept left asked now one result is (absent missing e) = absurd (let clash : ◌≡◌ {A = Option DrawnFrom} None (told (drawn.Value one) after left) = sym e ∙ is in cc)
asked_seq opening after kept left asked now one result is (first given there found e) =
    let same : drawn.Value given ≡ drawn.Value one = answers_are _ _ _ _ _ _ (sym e ∙ is) in
    let is_one : given ≡ one = cc in
    ap (is_of_kind asked) (sym is_one) ∙ first_is_of_kind asked kept given found
asked_seq opening after kept left asked now one result is (ticked of_clock none e) =
    let same : drawn.Value (draw.Clock now) ≡ drawn.Value one = answers_are _ _ _ _ _ _ (sym e ∙ is) in
    let is_one : draw.Clock now ≡ one = cc in
    ap₂ is_of_kind of_clock (sym is_one)
asked_seq opening after kept left asked now one result is (named of_id none e) =
    let same : ◌≡◌ {A = Drawn} _ (drawn.Value one) = answers_are _ _ _ _ _ _ (sym e ∙ is) in
    ap₂ is_of_kind of_id (sym (ap value_of same))
  where
    value_of : Drawn → Draw
    value_of (drawn.Value given) = given
    value_of (drawn.Reserve name upto) = one
asked_seq opening after kept left asked now one result is (valued sequence there of_name none found within e) =
    let same : drawn.Value (draw.Seq sequence.name sequence.next) ≡ drawn.Value one = answers_are _ _ _ _ _ _ (sym e ∙ is) in
    let is_one : draw.Seq sequence.name sequence.next ≡ one = cc in
    ap₂ is_of_kind of_name (sym is_one) ∙ same_bytes sequence.name
asked_seq opening after kept left asked now one result is (reserves sequence there of_name none found past e) =
    absurd (let clash : drawn.Reserve sequence.name (sequence.upto +ℤ reservation_size) ≡ drawn.Value one = answers_are _ _ _ _ _ _ (sym e ∙ is) in cc)

pub gives_as_asked : GivesAsAsked
gives_as_asked opening after kept left asked now one is = asked_seq opening after kept left asked now one (draw_of opening kept asked now) is (draws_by opening kept now asked)

-- ---- a new value

within_by : (opening after : Opening) (kept left : List Draw) (asked : DrawKind) (now : ℕ) (name : List ℕ) (value : ℤ) (result : Option DrawnFrom)
    → first_kept asked kept ≡ None → result ≡ told (drawn.Value (draw.Seq name value)) after left → DrawsBy opening kept asked now result
    → (sequence : SeqState) × (sequence_of opening.sequences name ≡ Some sequence) × (value ≡ sequence.next) × IsTrue (int_le value sequence.upto)
within_by opening after kept left asked now name value result new is (absent missing e) =
    absurd (let clash : ◌≡◌ {A = Option DrawnFrom} None (told (drawn.Value (draw.Seq name value)) after left) = sym e ∙ is in cc)
within_by opening after kept left asked now name value result new is (first given there found e) =
    absurd (let clash : ◌≡◌ {A = Option Draw} None (Some given) = sym new ∙ found in cc)
within_by opening after kept left asked now name value result new is (ticked of_clock none e) =
    absurd (let clash : drawn.Value (draw.Clock now) ≡ drawn.Value (draw.Seq name value) = answers_are _ _ _ _ _ _ (sym e ∙ is) in cc)
within_by opening after kept left asked now name value result new is (named of_id none e) =
    absurd (let clash : ◌≡◌ {A = Drawn} _ (drawn.Value (draw.Seq name value)) = answers_are _ _ _ _ _ _ (sym e ∙ is) in let no : true ≡ false = ap is_identifier clash in cc)
  where
    is_identifier : Drawn → Bool
    is_identifier (drawn.Value (draw.Id id)) = true
    is_identifier _ = false
within_by opening after kept left asked now name value result new is (valued sequence there of_name none found within e) =
    let same : drawn.Value (draw.Seq sequence.name sequence.next) ≡ drawn.Value (draw.Seq name value) = answers_are _ _ _ _ _ _ (sym e ∙ is) in
    let names : sequence.name ≡ name = cc in
    let values : sequence.next ≡ value = cc in
    (sequence, ap (sequence_of opening.sequences) (sym names) ∙ found, sym values, ap (λ v. int_le v sequence.upto) (sym values) ∙ within)
within_by opening after kept left asked now name value result new is (reserves sequence there of_name none found past e) =
    absurd (let clash : drawn.Reserve sequence.name (sequence.upto +ℤ reservation_size) ≡ drawn.Value (draw.Seq name value) = answers_are _ _ _ _ _ _ (sym e ∙ is) in cc)

pub lies_within : LiesWithin
lies_within opening after kept left asked now name value new is = within_by opening after kept left asked now name value (draw_of opening kept asked now) new is (draws_by opening kept now asked)

-- ---- once it is reserved

found_by : (test : SeqState → Bool) (one sequence : SeqState) (rest : List SeqState) (name : List ℕ) (t : Bool) → bytes_eq one.name name ≡ t → test one ≡ true
    → (sequence_of rest name ≡ Some sequence → test sequence ≡ true) → (if t then Some one else sequence_of rest name) ≡ Some sequence → test sequence ≡ true
found_by test one sequence rest name true e passes more is = let same : one ≡ sequence = cc in ap test (sym same) ∙ passes
found_by test one sequence rest name false e passes more is = more is

-- a test that all sequences pass is passed by the one that is found
pub found_passes : (test : SeqState → Bool) (sequences : List SeqState) (name : List ℕ) (sequence : SeqState) → list_all test sequences ≡ true → sequence_of sequences name ≡ Some sequence → test sequence ≡ true
found_passes test [] name sequence all is = absurd (let none : ◌≡◌ {A = Option SeqState} None (Some sequence) = is in cc)
found_passes test (one ∷ rest) name sequence all is =
    let parts = both (test one) (list_all test rest) all in
    found_by test one sequence rest name (bytes_eq one.name name) refl parts.0 (found_passes test rest name sequence parts.1) is

-- the next value lies in the reservation behind the one that it was past
past_within : (next upto : ℤ) → int_le next (upto +ℤ pos 1) ≡ true → int_le next (upto +ℤ pos 16) ≡ true
past_within next upto within = grind (arith, ints)

module _ (opening : Opening) (kept : List Draw) (later : ℕ) (sequence : SeqState) (are : are_sequences opening.sequences ≡ true)
    (none : first_kept (kind.Seq sequence.name) kept ≡ None) (there : is_there (names_of opening.sequences) (kind.Seq sequence.name) ≡ true)
    (found : sequence_of opening.sequences sequence.name ≡ Some sequence) where
  abbrev end_of : ℤ
  end_of = sequence.upto +ℤ reservation_size

  abbrev longer : SeqState → SeqState
  longer s = record s { upto = end_of }

  abbrev after_it : Opening
  after_it = reserved_to opening sequence.name end_of

  ends : may_reserve opening sequence.name end_of ≡ true
  ends = ap (λ (o : Option SeqState). ends_next o end_of) found ∙ (Decides-int_eq end_of end_of).1 refl

  still_there : is_there (names_of after_it.sequences) (kind.Seq sequence.name) ≡ true
  still_there = ap (λ l. is_there l (kind.Seq sequence.name)) (names_kept longer (λ s. refl) sequence.name opening.sequences) ∙ there

  found_again : sequence_of after_it.sequences sequence.name ≡ Some (longer sequence)
  found_again =
      sequence_changed longer (λ s. refl) sequence.name sequence.name opening.sequences
      ∙ ap (option_map (change_of longer sequence.name)) found
      ∙ ap (λ t. Some (if t then longer sequence else sequence)) (same_bytes sequence.name)

  lies_in : int_le sequence.next end_of ≡ true
  lies_in = past_within sequence.next sequence.upto (found_passes is_within opening.sequences sequence.name sequence (both (names_differ (names_of opening.sequences)) (list_all is_within opening.sequences) are).1 found)

  abbrev end : Opening
  end = record after_it { sequences = changed next_value sequence.name after_it.sequences }

  abbrev given : DrawnFrom
  given = record { answer = drawn.Value (draw.Seq sequence.name sequence.next); opening = end; kept = kept }

  abbrev wanted : DrawnFrom
  wanted = record { answer = drawn.Reserve sequence.name (end_of +ℤ reservation_size); opening = after_it; kept = kept }

  gives : draw_of after_it kept (kind.Seq sequence.name) later ≡ told (drawn.Value (draw.Seq sequence.name sequence.next)) end kept
  gives =
      draw_new after_it kept (kind.Seq sequence.name) later still_there none
      ∙ ap (option_map (new_value after_it kept)) found_again
      ∙ ap (λ (t : Bool). let one : DrawnFrom = if t then given else wanted in Some one) lies_in

module _ (opening : Opening) (are : are_sequences opening.sequences ≡ true) where
  once_by : (after : Opening) (kept left : List Draw) (asked : DrawKind) (now later : ℕ) (name : List ℕ) (upto : ℤ) (result : Option DrawnFrom)
      → result ≡ told (drawn.Reserve name upto) after left → DrawsBy opening kept asked now result
      → IsTrue (may_reserve opening name upto)
      × (value : ℤ) × (end : Opening) × (draw_of (reserved_to opening name upto) kept asked later ≡ told (drawn.Value (draw.Seq name value)) end kept)
  once_by after kept left asked now later name upto result is (absent missing e) =
      absurd (let clash : ◌≡◌ {A = Option DrawnFrom} None (told (drawn.Reserve name upto) after left) = sym e ∙ is in cc)
  once_by after kept left asked now later name upto result is (first given there found e) =
      absurd (let clash : drawn.Value given ≡ drawn.Reserve name upto = answers_are _ _ _ _ _ _ (sym e ∙ is) in cc)
  once_by after kept left asked now later name upto result is (ticked of_clock none e) =
      absurd (let clash : drawn.Value (draw.Clock now) ≡ drawn.Reserve name upto = answers_are _ _ _ _ _ _ (sym e ∙ is) in cc)
  once_by after kept left asked now later name upto result is (named of_id none e) =
      absurd (let clash : ◌≡◌ {A = Drawn} _ (drawn.Reserve name upto) = answers_are _ _ _ _ _ _ (sym e ∙ is) in let no : true ≡ false = ap is_value clash in cc)
    where
      is_value : Drawn → Bool
      is_value (drawn.Value one) = true
      is_value (drawn.Reserve other end) = false
  once_by after kept left asked now later name upto result is (valued sequence there of_name none found within e) =
      absurd (let clash : drawn.Value (draw.Seq sequence.name sequence.next) ≡ drawn.Reserve name upto = answers_are _ _ _ _ _ _ (sym e ∙ is) in cc)
  once_by after kept left asked now later name upto result is (reserves sequence there of_name none found past e) =
      let same : drawn.Reserve sequence.name (sequence.upto +ℤ reservation_size) ≡ drawn.Reserve name upto = answers_are _ _ _ _ _ _ (sym e ∙ is) in
      let names : sequence.name ≡ name = cc in
      let ends_are : sequence.upto +ℤ reservation_size ≡ upto = cc in
      let none_kept : first_kept (kind.Seq sequence.name) kept ≡ None = ap (λ a. first_kept a kept) (sym of_name) ∙ none in
      let is_there_so : is_there (names_of opening.sequences) (kind.Seq sequence.name) ≡ true = ap (is_there (names_of opening.sequences)) (sym of_name) ∙ there in (
        ap₂ (may_reserve opening) (sym names) (sym ends_are) ∙ ends opening kept later sequence are none_kept is_there_so found,
        sequence.next,
        end opening kept later sequence are none_kept is_there_so found,
        ap₂ (λ n u. draw_of (reserved_to opening n u) kept asked later) (sym names) (sym ends_are)
            ∙ ap (λ a. draw_of (reserved_to opening sequence.name (sequence.upto +ℤ reservation_size)) kept a later) of_name
            ∙ gives opening kept later sequence are none_kept is_there_so found
            ∙ ap (λ n. told (drawn.Value (draw.Seq n sequence.next)) (end opening kept later sequence are none_kept is_there_so found) kept) names,
      )

pub gives_once_reserved : GivesOnceReserved
gives_once_reserved opening after kept left asked now later name upto are is =
    once_by opening are after kept left asked now later name upto (draw_of opening kept asked now) is (draws_by opening kept now asked)
