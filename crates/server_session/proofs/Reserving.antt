-- A source goes on beside its journal.
use Rattle.std.proofs.Common.{◌≡◌, ◌+ℤ◌, ◌||◌, ℕ, ℤ, pos, Bool, true, false, List, [], ◌∷◌, ◌++◌, map, fold, if◌then◌else◌, refl, sym, ap, ap₂, ◌∙◌, subst}
use Rattle.std.proofs.lemmas.Slice.Eq.{bytes_eq-Decides}
use Rattle.std.specs.Prelude.{IsTrue, Option, Some, None, Result, Ok}
use Rattle.std.specs.List.{list_any}
use Rattle.std.specs.Ordering.{int_eq}
use Rattle.std.specs.Str.{bytes_eq}
use Rattle.disk_model.specs.Disk.{DiskState}
use Rattle.svc_values.specs.declared.draw.Draw.{Draw}
use Rattle.svc_values.specs.declared.draw.DrawKind.{DrawKind}
use Rattle.svc_values.specs.declared.draw.DrawKind.TheVariants as kind
use Rattle.svc_values.specs.Draws.{is_there}
use Rattle.mutable_values.specs.declared.source.SeqState.{SeqState}
use Rattle.mutable_values.specs.declared.source.Drawn.{Drawn}
use Rattle.mutable_values.specs.declared.source.Drawn.TheVariants as drawn
use Rattle.mutable_values.specs.History.{Drew, Reserved, opening_after}
use Rattle.mutable_values.specs.Sources.{Opening, DrawnFrom, are_sequences, changed, draw_of, ends_next, may_reserve, names_of, next_value, reserved_to, reservation_size, sequence_of}
use Rattle.mutable_values.proofs.Offered.{DrawsBy, absent, first, ticked, named, valued, reserves, draws_by, sequences_stay}
use Rattle.commit_log.specs.declared.base.BaseSequence.{BaseSequence}
use Rattle.commit_log.specs.declared.journal.Journal.{Journal}
use Rattle.commit_log.specs.declared.journal.Reservation.{Reservation}
use Rattle.commit_log.specs.declared.records.Record.TheVariants as kept
use Rattle.commit_log.specs.Adds.{MayAdd}
use Rattle.commit_log.specs.meaning.Journals.{journal_of}
use Rattle.commit_log.specs.meaning.Rules.{end_of, is_next_reservation, may_reserve as may_store, with_record}
use Rattle.server_model.specs.meaning.Base.{Sequence}
use Rattle.server_session.specs.Dealing.{reservation_of}
use Rattle.server_session.specs.Fits.{IsSourceOf, sequence_in, sequence_of as sequence_of_journal}

-- ---- a draw changes no reservation

sequence_by : (change : SeqState → SeqState) → ((s : SeqState) → sequence_in (change s) ≡ sequence_in s) → (s : SeqState) (t : Bool) → sequence_in (if t then change s else s) ≡ sequence_in s
sequence_by change same s true = same s
sequence_by change same s false = refl

sequences_changed : (change : SeqState → SeqState) → ((s : SeqState) → sequence_in (change s) ≡ sequence_in s) → (name : List ℕ) (sequences : List SeqState) → map sequence_in (changed change name sequences) ≡ map sequence_in sequences
sequences_changed change same name [] = refl
sequences_changed change same name (one ∷ rest) = ap₂ (λ (a : Sequence) (l : List Sequence). a ∷ l) (sequence_by change same one (bytes_eq one.name name)) (sequences_changed change same name rest)

-- an opening with the same incarnation and reservations
record IsAlike (before after : Opening) : Type 0 where
  pub incarnation : after.incarnation ≡ before.incarnation
  pub sequences : map sequence_in after.sequences ≡ map sequence_in before.sequences

same_opening : (a b : DrawnFrom) → ◌≡◌ {A = Option DrawnFrom} (Some a) (Some b) → b.opening ≡ a.opening
same_opening a b e = let same : a ≡ b = cc in ap (λ (d : DrawnFrom). d.opening) (sym same)

alike_by : (opening : Opening) (left : List Draw) (asked : DrawKind) (now : ℕ) (told : DrawnFrom) (result : Option DrawnFrom) → result ≡ Some told → DrawsBy opening left asked now result → IsAlike opening told.opening
alike_by opening left asked now told result e (absent gone is) = absurd (let clash : ◌≡◌ {A = Option DrawnFrom} None (Some told) = sym is ∙ e in cc)
alike_by opening left asked now told result e (first one there found is) =
    let same = same_opening _ told (sym is ∙ e) in record { incarnation = ap (λ (o : Opening). o.incarnation) same; sequences = ap (λ (o : Opening). map sequence_in o.sequences) same }
alike_by opening left asked now told result e (ticked which none is) =
    let same = same_opening _ told (sym is ∙ e) in record { incarnation = ap (λ (o : Opening). o.incarnation) same; sequences = ap (λ (o : Opening). map sequence_in o.sequences) same }
alike_by opening left asked now told result e (named which none is) =
    let same = same_opening _ told (sym is ∙ e) in record { incarnation = ap (λ (o : Opening). o.incarnation) same; sequences = ap (λ (o : Opening). map sequence_in o.sequences) same }
alike_by opening left asked now told result e (valued sequence there which none found within is) =
    let same = same_opening _ told (sym is ∙ e) in
    record {
      incarnation = ap (λ (o : Opening). o.incarnation) same;
      sequences = ap (λ (o : Opening). map sequence_in o.sequences) same ∙ sequences_changed next_value (λ s. refl) sequence.name opening.sequences;
    }
alike_by opening left asked now told result e (reserves sequence there which none found past is) =
    let same = same_opening _ told (sym is ∙ e) in record { incarnation = ap (λ (o : Opening). o.incarnation) same; sequences = ap (λ (o : Opening). map sequence_in o.sequences) same }

-- the source after a draw is that of the journal still
pub source_after : (opening : Opening) (left : List Draw) (asked : DrawKind) (now : ℕ) (told : DrawnFrom) (journal : Journal) → draw_of opening left asked now ≡ Some told → IsSourceOf opening journal → IsSourceOf told.opening journal
source_after opening left asked now told journal is source =
    let alike = alike_by opening left asked now told (draw_of opening left asked now) is (draws_by opening left now asked) in
    record { incarnation = alike.incarnation ∙ source.incarnation; sequences = alike.sequences ∙ source.sequences }

pub names_by : (sequences : List SeqState) → names_of sequences ≡ map (λ (s : Sequence). s.name) (map sequence_in sequences)
names_by [] = refl
names_by (one ∷ rest) = ap (λ (l : List (List ℕ)). one.name ∷ l) (names_by rest)

-- and has the same names
pub names_after : (opening : Opening) (left : List Draw) (asked : DrawKind) (now : ℕ) (told : DrawnFrom) → draw_of opening left asked now ≡ Some told → names_of told.opening.sequences ≡ names_of opening.sequences
names_after opening left asked now told is =
    let alike = alike_by opening left asked now told (draw_of opening left asked now) is (draws_by opening left now asked) in
    names_by told.opening.sequences ∙ ap (map (λ (s : Sequence). s.name)) alike.sequences ∙ sym (names_by opening.sequences)

-- and its sequences are such still
pub sequences_after : (opening : Opening) (left : List Draw) (asked : DrawKind) (now : ℕ) (told : DrawnFrom) → draw_of opening left asked now ≡ Some told → IsTrue (are_sequences opening.sequences) → IsTrue (are_sequences told.opening.sequences)
sequences_after opening left asked now told is are =
    subst (λ (result : Option DrawnFrom). IsTrue (are_sequences (opening_after opening result).sequences)) is (sequences_stay opening (Drew left asked now) tt are).0

-- ---- what asks for a reservation

pub record AsksReservation (opening : Opening) (left : List Draw) (asked : DrawKind) (name : List ℕ) (after : Opening) (rest : List Draw) : Type 0 where
  pub opening_is : after ≡ opening
  pub left_is : rest ≡ left
  pub kind_is : asked ≡ kind.Seq name

-- a draw tells a value or a reservation, never both
pub told_value : (one : Draw) (o : Opening) (k : List Draw) (name : List ℕ) (upto : ℤ) (after : Opening) (rest : List Draw)
    → ◌≡◌ {A = Option DrawnFrom} (Some (record { answer = drawn.Value one; opening = o; kept = k })) (Some (record { answer = drawn.Reserve name upto; opening = after; kept = rest })) → ⊥
told_value one o k name upto after rest e =
    let answer_in : DrawnFrom → Drawn = λ (d : DrawnFrom). d.answer in
    let same : ◌≡◌ {A = DrawnFrom} (record { answer = drawn.Value one; opening = o; kept = k }) (record { answer = drawn.Reserve name upto; opening = after; kept = rest }) = cc in
    let clash : ◌≡◌ {A = Drawn} (drawn.Value one) (drawn.Reserve name upto) = ap answer_in same in
    cc

asks_by : (opening : Opening) (left : List Draw) (asked : DrawKind) (now : ℕ) (name : List ℕ) (upto : ℤ) (after : Opening) (rest : List Draw) (result : Option DrawnFrom)
    → result ≡ Some (record { answer = drawn.Reserve name upto; opening = after; kept = rest }) → DrawsBy opening left asked now result → AsksReservation opening left asked name after rest
asks_by opening left asked now name upto after rest result e (absent gone is) = absurd (let clash : ◌≡◌ {A = Option DrawnFrom} None (Some (record { answer = drawn.Reserve name upto; opening = after; kept = rest })) = sym is ∙ e in cc)
asks_by opening left asked now name upto after rest result e (first one there found is) = absurd (told_value _ _ _ name upto after rest (sym is ∙ e))
asks_by opening left asked now name upto after rest result e (ticked which none is) = absurd (told_value _ _ _ name upto after rest (sym is ∙ e))
asks_by opening left asked now name upto after rest result e (named which none is) = absurd (told_value _ _ _ name upto after rest (sym is ∙ e))
asks_by opening left asked now name upto after rest result e (valued sequence there which none found within is) = absurd (told_value _ _ _ name upto after rest (sym is ∙ e))
asks_by opening left asked now name upto after rest result e (reserves sequence there which none found past is) =
    let one : DrawnFrom = record { answer = drawn.Reserve sequence.name (sequence.upto +ℤ reservation_size); opening = opening; kept = left } in
    let other : DrawnFrom = record { answer = drawn.Reserve name upto; opening = after; kept = rest } in
    let options : ◌≡◌ {A = Option DrawnFrom} (Some one) (Some other) = sym is ∙ e in
    let same : one ≡ other = cc in
    let answers : ◌≡◌ {A = Drawn} (drawn.Reserve sequence.name (sequence.upto +ℤ reservation_size)) (drawn.Reserve name upto) = ap (λ (d : DrawnFrom). d.answer) same in
    let names : sequence.name ≡ name = cc in
    record {
      opening_is = ap (λ (d : DrawnFrom). d.opening) (sym same);
      left_is = ap (λ (d : DrawnFrom). d.kept) (sym same);
      kind_is = which ∙ ap kind.Seq names;
    }

pub asks_reservation : (opening : Opening) (left : List Draw) (asked : DrawKind) (now : ℕ) (name : List ℕ) (upto : ℤ) (after : Opening) (rest : List Draw)
    → draw_of opening left asked now ≡ Some (record { answer = drawn.Reserve name upto; opening = after; kept = rest }) → AsksReservation opening left asked name after rest
asks_reservation opening left asked now name upto after rest is = asks_by opening left asked now name upto after rest (draw_of opening left asked now) is (draws_by opening left now asked)

-- ---- what is there is drawn

never_none : (told : DrawnFrom) → ◌≡◌ {A = Option DrawnFrom} None (Some told) → ⊥
never_none told clash = cc

draws_by_case : (opening : Opening) (left : List Draw) (asked : DrawKind) (now : ℕ) (result : Option DrawnFrom) → is_there (names_of opening.sequences) asked ≡ true → result ≡ None → DrawsBy opening left asked now result → ⊥
draws_by_case opening left asked now result there none (absent gone is) = let clash : ◌≡◌ {A = Bool} true false = sym there ∙ gone in cc
draws_by_case opening left asked now result there none (first one here found is) = never_none _ (sym none ∙ is)
draws_by_case opening left asked now result there none (ticked which unkept is) = never_none _ (sym none ∙ is)
draws_by_case opening left asked now result there none (named which unkept is) = never_none _ (sym none ∙ is)
draws_by_case opening left asked now result there none (valued sequence here which unkept found within is) = never_none _ (sym none ∙ is)
draws_by_case opening left asked now result there none (reserves sequence here which unkept found past is) = never_none _ (sym none ∙ is)

pub draws_there : (opening : Opening) (left : List Draw) (asked : DrawKind) (now : ℕ) → is_there (names_of opening.sequences) asked ≡ true → draw_of opening left asked now ≡ None → ⊥
draws_there opening left asked now there none = draws_by_case opening left asked now (draw_of opening left asked now) there none (draws_by opening left now asked)

-- ---- it may be stored

pub heads : (a b : Sequence) (l m : List Sequence) → a ∷ l ≡ b ∷ m → (a ≡ b) × (l ≡ m)
heads a b l m e = (let same : a ≡ b = cc in same, let same : l ≡ m = cc in same)

may_by : (reserved : List Reservation) (name : List ℕ) (upto : ℤ) (s : SeqState) (b : BaseSequence) (rest : List SeqState) (bases : List BaseSequence) (own : Bool) → bytes_eq s.name name ≡ own
    → s.name ≡ b.name → s.upto ≡ end_of reserved b → ends_next (if own then Some s else sequence_of rest name) upto ≡ true
    → (ends_next (sequence_of rest name) upto ≡ true → list_any (is_next_reservation reserved (reservation_of name upto)) bases ≡ true)
    → (is_next_reservation reserved (reservation_of name upto) b || list_any (is_next_reservation reserved (reservation_of name upto)) bases) ≡ true
may_by reserved name upto s b rest bases true e names ends is more =
    let here : bytes_eq b.name name ≡ true = ap (λ n. bytes_eq n name) (sym names) ∙ e in
    let there : int_eq upto (end_of reserved b +ℤ pos 16) ≡ true = ap (λ z. int_eq upto (z +ℤ pos 16)) (sym ends) ∙ is in
    rw (here, there) refl
may_by reserved name upto s b rest bases false e names ends is more = by (is_next_reservation reserved (reservation_of name upto) b) (more is)
  where
    by : (t : Bool) {u : Bool} → u ≡ true → (t || u) ≡ true
    by true h = refl
    by false h = h

may_all : (journal : Journal) (name : List ℕ) (upto : ℤ) (sequences : List SeqState) (bases : List BaseSequence) → map sequence_in sequences ≡ map (sequence_of_journal journal) bases
    → ends_next (sequence_of sequences name) upto ≡ true → list_any (is_next_reservation journal.reserved (reservation_of name upto)) bases ≡ true
may_all journal name upto [] bases e is = absurd (let clash : ◌≡◌ {A = Bool} false true = is in cc)
may_all journal name upto (s ∷ rest) [] e is = absurd (let clash : ◌≡◌ {A = List Sequence} (sequence_in s ∷ map sequence_in rest) [] = e in cc)
may_all journal name upto (s ∷ rest) (b ∷ bases) e is =
    let both = heads (sequence_in s) (sequence_of_journal journal b) (map sequence_in rest) (map (sequence_of_journal journal) bases) e in
    may_by journal.reserved name upto s b rest bases (bytes_eq s.name name) refl (ap (λ (q : Sequence). q.name) both.0) (ap (λ (q : Sequence). q.upto) both.0) is
    (may_all journal name upto rest bases both.1)

pub may_be_reserved : (opening : Opening) (name : List ℕ) (upto : ℤ) (disk : DiskState) (journal : Journal) → journal_of disk.now.seen ≡ Ok journal → IsSourceOf opening journal → IsTrue (may_reserve opening name upto)
    → MayAdd disk (kept.Reserved (reservation_of name upto))
unfolding may_store
may_be_reserved opening name upto disk journal reads source may other reads_other =
    let same : journal ≡ other = (let e : ◌≡◌ {A = Result Journal ℕ} (Ok journal) (Ok other) = sym reads ∙ reads_other in cc) in
    subst (λ (j : Journal). list_any (is_next_reservation j.reserved (reservation_of name upto)) j.base.sequences ≡ true) same
    (may_all journal name upto opening.sequences journal.base.sequences source.sequences may)

-- ---- the source is told of it

fold_push : (reserved : List Reservation) (one : Reservation) (f : ℤ → Reservation → ℤ) (start : ℤ) → fold f start (reserved ++ one ∷ []) ≡ f (fold f start reserved) one
fold_push [] one f start = refl
fold_push (next ∷ reserved) one f start = fold_push reserved one f (f start next)

same_test : (a b : List ℕ) → bytes_eq a b ≡ bytes_eq b a
same_test a b = by (bytes_eq a b) (bytes_eq b a) refl refl
  where
    by : (x y : Bool) → bytes_eq a b ≡ x → bytes_eq b a ≡ y → x ≡ y
    by true true e f = refl
    by true false e f = sym ((bytes_eq-Decides b a).1 (sym ((bytes_eq-Decides a b).0 e))) ∙ f
    by false true e f = sym (sym ((bytes_eq-Decides a b).1 (sym ((bytes_eq-Decides b a).0 f))) ∙ e)
    by false false e f = refl

told_by : (journal : Journal) (name : List ℕ) (upto : ℤ) (s : SeqState) (b : BaseSequence) (own : Bool) → bytes_eq s.name name ≡ own → sequence_in s ≡ sequence_of_journal journal b
    → sequence_in (if own then (let changed_to : SeqState = record s { upto = upto } in changed_to) else s) ≡ record { name = b.name; upto = (if own then upto else end_of journal.reserved b); keep = b.keep }
told_by journal name upto s b true e same = λ i. record { name = (same i).name; upto = upto; keep = (same i).keep }
told_by journal name upto s b false e same = same

end_with : (journal : Journal) (name : List ℕ) (upto : ℤ) (s : SeqState) (b : BaseSequence) → s.name ≡ b.name → end_of (journal.reserved ++ reservation_of name upto ∷ []) b ≡ (if bytes_eq s.name name then upto else end_of journal.reserved b)
end_with journal name upto s b names =
    fold_push journal.reserved (reservation_of name upto) _ _
    ∙ ap (λ t. if t then upto else end_of journal.reserved b) (same_test name b.name ∙ ap (λ n. bytes_eq n name) (sym names))

told_all : (journal : Journal) (name : List ℕ) (upto : ℤ) (sequences : List SeqState) (bases : List BaseSequence) → map sequence_in sequences ≡ map (sequence_of_journal journal) bases
    → map sequence_in (changed (λ s. record s { upto = upto }) name sequences) ≡ map (sequence_of_journal (with_record journal (kept.Reserved (reservation_of name upto)))) bases
told_all journal name upto [] [] e = refl
told_all journal name upto [] (b ∷ bases) e = absurd (let clash : ◌≡◌ {A = List Sequence} [] (sequence_of_journal journal b ∷ map (sequence_of_journal journal) bases) = e in cc)
told_all journal name upto (s ∷ rest) [] e = absurd (let clash : ◌≡◌ {A = List Sequence} (sequence_in s ∷ map sequence_in rest) [] = e in cc)
told_all journal name upto (s ∷ rest) (b ∷ bases) e =
    let both = heads (sequence_in s) (sequence_of_journal journal b) (map sequence_in rest) (map (sequence_of_journal journal) bases) e in
    ap₂ (λ (a : Sequence) (l : List Sequence). a ∷ l)
    (told_by journal name upto s b (bytes_eq s.name name) refl both.0
    ∙ ap (λ z. let q : Sequence = record { name = b.name; upto = z; keep = b.keep } in q) (sym (end_with journal name upto s b (ap (λ (q : Sequence). q.name) both.0))))
    (told_all journal name upto rest bases both.1)

-- the source that was told of a reservation is that of the journal with it
pub source_told : (opening : Opening) (name : List ℕ) (upto : ℤ) (journal : Journal) → IsSourceOf opening journal → IsSourceOf (reserved_to opening name upto) (with_record journal (kept.Reserved (reservation_of name upto)))
source_told opening name upto journal source = record {
  incarnation = source.incarnation;
  sequences = told_all journal name upto opening.sequences journal.base.sequences source.sequences;
}

-- and its sequences are such, where it may be reserved
pub sequences_told : (opening : Opening) (name : List ℕ) (upto : ℤ) → IsTrue (may_reserve opening name upto) → IsTrue (are_sequences opening.sequences) → IsTrue (are_sequences (reserved_to opening name upto).sequences)
sequences_told opening name upto may are = (sequences_stay opening (Reserved name upto) may are).0

-- and has the same names
pub names_told : (opening : Opening) (name : List ℕ) (upto : ℤ) → names_of (reserved_to opening name upto).sequences ≡ names_of opening.sequences
names_told opening name upto = by opening.sequences
  where
    at : (s : SeqState) (t : Bool) → (if t then (let c : SeqState = record s { upto = upto } in c) else s).name ≡ s.name
    at s true = refl
    at s false = refl

    by : (sequences : List SeqState) → names_of (changed (λ s. record s { upto = upto }) name sequences) ≡ names_of sequences
    by [] = refl
    by (s ∷ rest) = ap₂ (λ (a : List ℕ) (l : List (List ℕ)). a ∷ l) (at s (bytes_eq s.name name)) (by rest)
