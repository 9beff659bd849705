-- What a draw tells, case by case.
use Rattle.std.proofs.Common.{◌≡◌, ℕ, ℤ, pos, ◌+ℤ◌, Bool, true, false, List, [], ◌∷◌, refl, sym, ap, subst, ◌∙◌, set, get_or, if◌then◌else◌, arith, length, ◌<◌}
use Rattle.std.proofs.lemmas.Bool.Decides.{Decides-int_eq}
use Rattle.std.proofs.lemmas.Int.{ints}
use Rattle.std.proofs.lemmas.List.{get_or_default}
use Rattle.std.proofs.lemmas.List.Quantifiers.{position-Some}
use Rattle.std.specs.Prelude.{⊤, Option, Some, None, Result, Ok, Err, IfOk, OnErr, IsErrOf, ◌↔◌, int_le, position}
use Rattle.std.specs.List.{list_all}
use Rattle.std.specs.Option.{is_some, option_map}
use Rattle.std.specs.Str.{bytes_eq}
use Rattle.svc_values.specs.declared.draw.Draw.{Draw}
use Rattle.svc_values.specs.declared.draw.Draw.TheVariants as draw
use Rattle.svc_values.specs.declared.draw.DrawKind.{DrawKind}
use Rattle.svc_values.specs.declared.draw.DrawKind.TheVariants as kind
use Rattle.svc_values.specs.Draws.{is_there}
use Rattle.svc_values.specs.meaning.Names.{is_name_of, names_differ}
use Rattle.mutable_values.specs.declared.source.SeqState.{SeqState}
use Rattle.mutable_values.specs.declared.source.Drawn.{Drawn}
use Rattle.mutable_values.specs.declared.source.Drawn.TheVariants as drawn
use Rattle.mutable_values.specs.declared.source.DrawFault.{DrawFault}
use Rattle.mutable_values.specs.declared.source.DrawFault.TheVariants as fault
use Rattle.mutable_values.specs.Sources.{Opening, DrawnFrom, are_sequences, reservation_size, changed, draw_from, draw_of, ends_next, first_kept, is_within, may_reserve, names_of, new_draw, new_value, next_value, reserved_to, sequence_of, without_first}
use Rattle.mutable_values.proofs.Histories.{found_name}
use Rattle.mutable_values.proofs.Firsts.{sequence_none, sequence_some}
use Rattle.mutable_values.proofs.Places.{are_changed, both, changed_at, name_at, passes_at, there_is}

-- the place of a sequence tells whether it is there
pub place_there : (sequences : List SeqState) (name : List ℕ) (at : Option ℕ) → position (λ sequence. bytes_eq sequence.name name) sequences ≡ at → is_some at ≡ is_name_of (names_of sequences) name
place_there sequences name None e = ap is_some (sym (sequence_none sequences name e)) ∙ there_is sequences name
place_there [] name (Some at) e = absurd (let none : ◌≡◌ {A = Option ℕ} None (Some at) = e in cc)
place_there (one ∷ rest) name (Some at) e = ap is_some (sym (sequence_some (one ∷ rest) name at one e)) ∙ there_is (one ∷ rest) name

-- a sequence that has a place is there
pub placed : (sequences : List SeqState) (name : List ℕ) (at : ℕ) → position (λ sequence. bytes_eq sequence.name name) sequences ≡ Some at → sequence_of sequences name ≡ None → ⊥
placed sequences name at e none = let clash : ◌≡◌ {A = Bool} true false = place_there sequences name (Some at) e ∙ sym (there_is sequences name) ∙ ap is_some none in cc

pub draw_absent : (opening : Opening) (kept : List Draw) (asked : DrawKind) (now : ℕ) → is_there (names_of opening.sequences) asked ≡ false → draw_of opening kept asked now ≡ None
unfolding draw_of
draw_absent opening kept asked now e = rw e refl

pub draw_first : (opening : Opening) (kept : List Draw) (asked : DrawKind) (now : ℕ) (one : Draw) → is_there (names_of opening.sequences) asked ≡ true → first_kept asked kept ≡ Some one
    → draw_of opening kept asked now ≡ Some (record { answer = drawn.Value one; opening = opening; kept = without_first asked kept })
unfolding draw_of
draw_first opening kept asked now one e first = rw e (ap (λ f. draw_from f opening kept asked now) first)

pub draw_new : (opening : Opening) (kept : List Draw) (asked : DrawKind) (now : ℕ) → is_there (names_of opening.sequences) asked ≡ true → first_kept asked kept ≡ None → draw_of opening kept asked now ≡ new_draw opening kept asked now
unfolding draw_of
draw_new opening kept asked now e first = rw e (ap (λ f. draw_from f opening kept asked now) first)

-- past its reservation a sequence asks for the next one
pub new_past : (opening : Opening) (kept : List Draw) (name : List ℕ) (now at : ℕ) (sequence : SeqState)
    → position (λ one. bytes_eq one.name name) opening.sequences ≡ Some at → sequence ≡ get_or opening.sequences at sequence → int_le sequence.next sequence.upto ≡ false
    → new_draw opening kept (kind.Seq name) now ≡ Some (record { answer = drawn.Reserve name (sequence.upto +ℤ reservation_size); opening = opening; kept = kept })
new_past opening kept name now at sequence place is past =
    let named : sequence.name ≡ name = ap (λ (s : SeqState). s.name) is ∙ name_at name opening.sequences at sequence place in
    let found : sequence_of opening.sequences name ≡ Some sequence = sequence_some opening.sequences name at sequence place ∙ ap Some (sym is) in
    let told : ℕ → List ℕ → DrawnFrom = λ _ n. record { answer = drawn.Reserve n (sequence.upto +ℤ reservation_size); opening = opening; kept = kept } in
    ap (option_map (new_value opening kept)) found ∙ rw past (ap (λ n. Some (told 0 n)) named)

-- in its reservation a sequence gives its next value
pub new_within : (opening : Opening) (kept : List Draw) (name : List ℕ) (now at : ℕ) (sequence : SeqState) → are_sequences opening.sequences ≡ true
    → position (λ one. bytes_eq one.name name) opening.sequences ≡ Some at → sequence ≡ get_or opening.sequences at sequence → int_le sequence.next sequence.upto ≡ true
    → new_draw opening kept (kind.Seq name) now
    ≡ Some (record { answer = drawn.Value (draw.Seq name sequence.next); opening = record opening { sequences = set opening.sequences at (next_value sequence) }; kept = kept })
new_within opening kept name now at sequence are place is within =
    let named : sequence.name ≡ name = ap (λ (s : SeqState). s.name) is ∙ name_at name opening.sequences at sequence place in
    let found : sequence_of opening.sequences name ≡ Some sequence = sequence_some opening.sequences name at sequence place ∙ ap Some (sym is) in
    let moved : changed next_value name opening.sequences ≡ set opening.sequences at (next_value sequence) =
    changed_at next_value name opening.sequences at sequence are place ∙ ap (λ s. set opening.sequences at (next_value s)) (sym is) in
    ap (option_map (new_value opening kept)) found ∙ rw within (
    ap (λ n. Some (told n (changed next_value n opening.sequences))) named ∙ ap (λ l. Some (told name l)) moved
    )
  where
    told : List ℕ → List SeqState → DrawnFrom
    told n l = record { answer = drawn.Value (draw.Seq n sequence.next); opening = record opening { sequences = l }; kept = kept }

-- a reservation that may be made ends 16 values behind the one before
pub ends_at : (sequence : SeqState) (upto : ℤ) (found : Option SeqState) → found ≡ Some sequence → ends_next found upto ≡ true → upto ≡ sequence.upto +ℤ reservation_size
ends_at sequence upto None e ends = absurd (let none : ◌≡◌ {A = Option SeqState} None (Some sequence) = e in cc)
ends_at sequence upto (Some one) e ends =
    let is : one ≡ sequence = cc in
    (Decides-int_eq upto (one.upto +ℤ reservation_size)).0 ends ∙ ap (λ (s : SeqState). s.upto +ℤ reservation_size) is

-- the next value lies behind no longer reservation
pub still_within : (next upto longer : ℤ) → longer ≡ upto +ℤ pos 16 → int_le next (upto +ℤ pos 1) ≡ true → int_le next (longer +ℤ pos 1) ≡ true
still_within next upto longer is within = grind (arith, ints)

pub goes_within : (next upto : ℤ) → int_le next upto ≡ true → int_le (next +ℤ pos 1) (upto +ℤ pos 1) ≡ true
goes_within next upto within = grind (arith, ints)

pub reserve_keeps : (opening : Opening) (name : List ℕ) (at : ℕ) (sequence : SeqState) (upto : ℤ) → are_sequences opening.sequences ≡ true
    → position (λ one. bytes_eq one.name name) opening.sequences ≡ Some at → sequence ≡ get_or opening.sequences at sequence → may_reserve opening name upto ≡ true
    → are_sequences (set opening.sequences at (record sequence { upto = upto })) ≡ true
reserve_keeps opening name at sequence upto are place is may =
    let all = (both (names_differ (names_of opening.sequences)) (list_all is_within opening.sequences) are).1 in
    let before : is_within sequence ≡ true = ap is_within is ∙ passes_at is_within opening.sequences at sequence (position-Some (λ one. bytes_eq one.name name) opening.sequences at sequence place).0 all in
    let found : sequence_of opening.sequences name ≡ Some sequence = sequence_some opening.sequences name at sequence place ∙ ap Some (sym is) in
    let ends = ends_at sequence upto (sequence_of opening.sequences name) found may in
    let within : is_within (longer sequence) ≡ true = still_within sequence.next sequence.upto upto ends before in
    subst (λ s. are_sequences (set opening.sequences at (longer s)) ≡ true) (sym is)
    (are_changed longer (λ s. refl) name opening.sequences at sequence are place (subst (λ s. is_within (longer s) ≡ true) is within))
  where
    longer : SeqState → SeqState
    longer s = record s { upto = upto }

pub reserve_is : (opening : Opening) (name : List ℕ) (at : ℕ) (sequence : SeqState) (upto : ℤ) → are_sequences opening.sequences ≡ true
    → position (λ one. bytes_eq one.name name) opening.sequences ≡ Some at → sequence ≡ get_or opening.sequences at sequence
    → reserved_to opening name upto ≡ record opening { sequences = set opening.sequences at (record sequence { upto = upto }) }
reserve_is opening name at sequence upto are place is =
    ap with_sequences (changed_at longer name opening.sequences at sequence are place ∙ ap (λ s. set opening.sequences at (longer s)) (sym is))
  where
    longer : SeqState → SeqState
    longer s = record s { upto = upto }

    with_sequences : List SeqState → Opening
    with_sequences l = record opening { sequences = l }

-- where there is no place, nothing may be reserved
pub reserve_absent : (opening : Opening) (name : List ℕ) (upto : ℤ) → position (λ one. bytes_eq one.name name) opening.sequences ≡ None → may_reserve opening name upto ≡ true → ⊥
reserve_absent opening name upto none may =
    let clash : ◌≡◌ {A = Bool} true false = sym may ∙ ap (λ f. ends_next f upto) (sequence_none opening.sequences name none) in cc

-- the value that is given leaves sequences
pub give_keeps : (sequences : List SeqState) (name : List ℕ) (at : ℕ) (sequence : SeqState) → are_sequences sequences ≡ true
    → position (λ one. bytes_eq one.name name) sequences ≡ Some at → sequence ≡ get_or sequences at sequence → int_le sequence.next sequence.upto ≡ true
    → are_sequences (set sequences at (next_value sequence)) ≡ true
give_keeps sequences name at sequence are place is within =
    subst (λ s. are_sequences (set sequences at (next_value s)) ≡ true) (sym is)
    (are_changed next_value (λ s. refl) name sequences at sequence are place
    (subst (λ s. is_within (next_value s) ≡ true) is (goes_within sequence.next sequence.upto within)))

-- a new value of a sequence, where none is kept
pub sequence_drawn : (opening : Opening) (kept : List Draw) (asked : DrawKind) (name : List ℕ) (now : ℕ) (after : Opening) (left : List Draw) (result : Result Drawn DrawFault)
    → asked ≡ kind.Seq name → is_there (names_of opening.sequences) asked ≡ true → first_kept asked kept ≡ None → left ≡ kept
    → IfOk result (λ answer. (k : List Draw) → new_draw opening k (kind.Seq name) 0 ≡ Some (record { answer = answer; opening = after; kept = k }))
    → IfOk result (λ answer. draw_of opening kept asked now ≡ Some (record { answer = answer; opening = after; kept = left }))
sequence_drawn opening kept asked name now after left (Ok answer) of_name there none is gives =
    draw_new opening kept asked now there none ∙ ap (λ a. new_draw opening kept a now) of_name ∙ gives kept ∙ ap told (sym is)
  where
    told : List Draw → Option DrawnFrom
    told k = Some (record { answer = answer; opening = after; kept = k })
sequence_drawn opening kept asked name now after left (Err why) of_name there none is gives = tt

told_by : (opening : Opening) (kept : List Draw) (found : Option SeqState) → option_map (new_value opening kept) found ≡ None → found ≡ None
told_by opening kept None e = refl
told_by opening kept (Some sequence) e = absurd (let clash : ◌≡◌ {A = Option DrawnFrom} (Some (new_value opening kept sequence)) None = e in cc)

pub sequence_absent : (opening : Opening) (kept : List Draw) (asked : DrawKind) (name : List ℕ) (now : ℕ) (result : Result Drawn DrawFault)
    → asked ≡ kind.Seq name → is_there (names_of opening.sequences) asked ≡ true → first_kept asked kept ≡ None
    → (IsErrOf result fault.NoSequence ↔ (sequence_of opening.sequences name ≡ None))
    → (IsErrOf result fault.NoSequence ↔ (draw_of opening kept asked now ≡ None))
sequence_absent opening kept asked name now result of_name there none is =
    let new = draw_new opening kept asked now there none ∙ ap (λ a. new_draw opening kept a now) of_name in
    (λ err. new ∙ ap (option_map (new_value opening kept)) (is.0 err), λ absent. is.1 (told_by opening kept (sequence_of opening.sequences name) (sym new ∙ absent)))

pub sequence_fault : (old new : Opening) (kept left : List Draw) (result : Result Drawn DrawFault) → left ≡ kept → OnErr result (new ≡ old) → OnErr result ((new ≡ old) × (left ≡ kept))
sequence_fault old new kept left (Ok answer) is same = tt
sequence_fault old new kept left (Err why) is same = (same, is)

-- two reads of one place
pub same_item : (sequences : List SeqState) (at : ℕ) (a b : SeqState) → at < length sequences → a ≡ get_or sequences at a → b ≡ get_or sequences at b → a ≡ b
same_item sequences at a b within first second = first ∙ get_or_default sequences at a b within ∙ sym second

-- what a draw asks for may be reserved
abbrev MayFollow : Drawn → Opening → Type 0
MayFollow (drawn.Value one) opening = ⊤
MayFollow (drawn.Reserve name upto) opening = may_reserve opening name upto ≡ true

abbrev MayFollowDraw : Option DrawnFrom → Type 0
MayFollowDraw None = ⊤
MayFollowDraw (Some told) = MayFollow told.answer told.opening

may_value : (opening : Opening) (kept : List Draw) (sequence : SeqState) (t : Bool) → int_le sequence.next sequence.upto ≡ t → sequence_of opening.sequences sequence.name ≡ Some sequence → MayFollowDraw (Some (new_value opening kept sequence))
may_value opening kept sequence true e found = rw e tt
may_value opening kept sequence false e found =
    rw e (ap (λ f. ends_next f (sequence.upto +ℤ reservation_size)) found ∙ (Decides-int_eq (sequence.upto +ℤ reservation_size) (sequence.upto +ℤ reservation_size)).1 refl)

may_sequence : (opening : Opening) (kept : List Draw) (name : List ℕ) (found : Option SeqState) → sequence_of opening.sequences name ≡ found → MayFollowDraw (option_map (new_value opening kept) found)
may_sequence opening kept name None e = tt
may_sequence opening kept name (Some sequence) e =
    may_value opening kept sequence (int_le sequence.next sequence.upto) refl (ap (sequence_of opening.sequences) (found_name opening.sequences name sequence e) ∙ e)

may_new : (opening : Opening) (kept : List Draw) (asked : DrawKind) (now : ℕ) → MayFollowDraw (new_draw opening kept asked now)
may_new opening kept (kind.Seq name) now = may_sequence opening kept name (sequence_of opening.sequences name) refl
may_new opening kept kind.Clock now = tt
may_new opening kept kind.Id now = tt

may_from : (opening : Opening) (kept : List Draw) (asked : DrawKind) (now : ℕ) (first : Option Draw) (t : Bool) → MayFollowDraw (if t then draw_from first opening kept asked now else None)
may_from opening kept asked now first false = tt
may_from opening kept asked now None true = may_new opening kept asked now
may_from opening kept asked now (Some one) true = tt

may_follow : (opening : Opening) (kept : List Draw) (asked : DrawKind) (now : ℕ) → MayFollowDraw (draw_of opening kept asked now)
unfolding draw_of
may_follow opening kept asked now = may_from opening kept asked now (first_kept asked kept) (is_there (names_of opening.sequences) asked)

-- What a draw asks for may be reserved after it, as `reserved` needs.
pub may_reserve_next : (opening : Opening) (kept : List Draw) (asked : DrawKind) (now : ℕ) (name : List ℕ) (upto : ℤ) (after : Opening) (left : List Draw)
    → draw_of opening kept asked now ≡ Some (record { answer = drawn.Reserve name upto; opening = after; kept = left }) → may_reserve after name upto ≡ true
may_reserve_next opening kept asked now name upto after left told = subst MayFollowDraw told (may_follow opening kept asked now)
