-- What the reservations of a journal keep, with one more.
use Rattle.std.proofs.Common.{◌≡◌, ℕ, ◌+◌, ◌*◌, ◌≤◌, ◌&&◌, ◌||◌, not, Bool, true, false, ℤ, List, [], ◌∷◌, ◌++◌, length, map, filter, refl, sym, ◌∙◌, ap, subst, arith, length-append, append-nil, get_or}
use Rattle.std.proofs.lemmas.Int.{ints}
use Rattle.std.proofs.lemmas.List.{map-append}
use Rattle.std.proofs.lemmas.List.Elements.{All-nil, All-cons, All-push, filter-append}
use Rattle.std.proofs.lemmas.Slice.Eq.{bytes_eq-Decides}
use Rattle.std.proofs.lemmas.Bool.Decides.{Decides-int_eq}
use Rattle.std.specs.Prelude.{All, IsTrue, pos, ◌+ℤ◌, ◌-ℤ◌, if◌then◌else◌}
use Rattle.std.specs.List.{range_with_len, list_any}
use Rattle.std.specs.Ordering.{int_eq}
use Rattle.std.specs.Str.{bytes_eq}
use Rattle.svc_values.specs.meaning.Names.{is_name_of, names_differ}
use Rattle.commit_log.specs.declared.base.BaseSequence.{BaseSequence}
use Rattle.commit_log.specs.declared.journal.Reservation.{Reservation}
use Rattle.commit_log.specs.meaning.Bases.{sequence_name}
use Rattle.commit_log.specs.meaning.Rules.{reservation_size, end_of, is_next_reservation}
use Rattle.commit_log.specs.Keeping.{AreReservations, ends_of, end_after}
use Rattle.commit_log.proofs.Reserving.{end_more}
use Rattle.commit_log.proofs.KeepingCommits.{counted_push}

-- ---- the sequence of a reservation

-- a reservation that comes next has the name of a sequence
has_name : (reserved : List Reservation) (reservation : Reservation) (sequences : List BaseSequence) → list_any (is_next_reservation reserved reservation) sequences ≡ true → is_name_of (map sequence_name sequences) reservation.name ≡ true
has_name reserved reservation [] e = absurd (let none : ⊥ = cc in none)
has_name reserved reservation (sequence ∷ sequences) e = by (bytes_eq sequence.name reservation.name) (int_eq reservation.upto (end_of reserved sequence +ℤ reservation_size)) (has_name reserved reservation sequences) e
  where
    by : (named next : Bool) → (list_any (is_next_reservation reserved reservation) sequences ≡ true → is_name_of (map sequence_name sequences) reservation.name ≡ true) → ((named && next) || list_any (is_next_reservation reserved reservation) sequences) ≡ true → (named || is_name_of (map sequence_name sequences) reservation.name) ≡ true
    by true next later h = refl
    by false next later h = later h

-- where it has the name of a sequence, it is the next one of this sequence
abbrev pub IsNextOf : List Reservation → Reservation → BaseSequence → Type 0
IsNextOf reserved reservation sequence = bytes_eq reservation.name sequence.name ≡ true → reservation.upto ≡ end_of reserved sequence +ℤ reservation_size

-- no sequence has the name
none_named : (reserved : List Reservation) (reservation : Reservation) (sequences : List BaseSequence) → is_name_of (map sequence_name sequences) reservation.name ≡ false → All (IsNextOf reserved reservation) sequences
none_named reserved reservation [] e = All-nil (IsNextOf reserved reservation)
none_named reserved reservation (sequence ∷ sequences) e = by (bytes_eq sequence.name reservation.name) refl (none_named reserved reservation sequences) e
  where
    by : (named : Bool) → bytes_eq sequence.name reservation.name ≡ named → (is_name_of (map sequence_name sequences) reservation.name ≡ false → All (IsNextOf reserved reservation) sequences) → (named || is_name_of (map sequence_name sequences) reservation.name) ≡ false → All (IsNextOf reserved reservation) (sequence ∷ sequences)
    by true is later h = absurd (let none : ⊥ = cc in none)
    by false is later h =
        All-cons (IsNextOf reserved reservation) sequence sequences
        (λ own. absurd (let back = (bytes_eq-Decides sequence.name reservation.name).1 (sym ((bytes_eq-Decides reservation.name sequence.name).0 own)) in let none : ⊥ = cc in none))
        (later h)

first_differs : (a b : Bool) → (not a && b) ≡ true → a ≡ false
first_differs true b e = absurd (let none : ⊥ = cc in none)
first_differs false b e = refl

others_differ : (a b : Bool) → (not a && b) ≡ true → b ≡ true
others_differ true b e = absurd (let none : ⊥ = cc in none)
others_differ false b e = e

-- a reservation that comes next is the next one of its sequence, since no other has this name
pub next_of_each : (reserved : List Reservation) (reservation : Reservation) (sequences : List BaseSequence) → names_differ (map sequence_name sequences) ≡ true → list_any (is_next_reservation reserved reservation) sequences ≡ true
    → All (IsNextOf reserved reservation) sequences
next_of_each reserved reservation [] differ e = All-nil (IsNextOf reserved reservation)
next_of_each reserved reservation (sequence ∷ sequences) differ e =
    by (bytes_eq sequence.name reservation.name) (int_eq reservation.upto (end_of reserved sequence +ℤ reservation_size)) refl refl
    (next_of_each reserved reservation sequences (others_differ (is_name_of (map sequence_name sequences) sequence.name) (names_differ (map sequence_name sequences)) differ))
    e
  where
    alone : is_name_of (map sequence_name sequences) sequence.name ≡ false
    alone = first_differs (is_name_of (map sequence_name sequences) sequence.name) (names_differ (map sequence_name sequences)) differ

    by : (named next : Bool) → bytes_eq sequence.name reservation.name ≡ named → int_eq reservation.upto (end_of reserved sequence +ℤ reservation_size) ≡ next
        → (list_any (is_next_reservation reserved reservation) sequences ≡ true → All (IsNextOf reserved reservation) sequences)
        → ((named && next) || list_any (is_next_reservation reserved reservation) sequences) ≡ true → All (IsNextOf reserved reservation) (sequence ∷ sequences)
    by true true named next later h =
        All-cons (IsNextOf reserved reservation) sequence sequences (λ own. (Decides-int_eq reservation.upto (end_of reserved sequence +ℤ reservation_size)).0 next)
        (none_named reserved reservation sequences (ap (is_name_of (map sequence_name sequences)) (sym ((bytes_eq-Decides sequence.name reservation.name).0 named)) ∙ alone))
    by true false named next later h =
        let named_later = has_name reserved reservation sequences h in
        let never : is_name_of (map sequence_name sequences) reservation.name ≡ false = ap (is_name_of (map sequence_name sequences)) (sym ((bytes_eq-Decides sequence.name reservation.name).0 named)) ∙ alone in
        absurd (let none : ⊥ = cc in none)
    by false next other is later h =
        All-cons (IsNextOf reserved reservation) sequence sequences
        (λ own. absurd (let back = (bytes_eq-Decides sequence.name reservation.name).1 (sym ((bytes_eq-Decides reservation.name sequence.name).0 own)) in let none : ⊥ = cc in none))
        (later h)

-- ---- the reservations of one sequence

ends_more : (reserved : List Reservation) (reservation : Reservation) (sequence : BaseSequence) (own : Bool) → bytes_eq reservation.name sequence.name ≡ own
    → ends_of (reserved ++ reservation ∷ []) sequence ≡ (if own then ends_of reserved sequence ++ reservation.upto ∷ [] else ends_of reserved sequence)
ends_more reserved reservation sequence own is =
    ap (map (λ (r : Reservation). r.upto)) (filter-append (λ (r : Reservation). bytes_eq r.name sequence.name) reserved (reservation ∷ []))
    ∙ map-append (λ (r : Reservation). r.upto) (filter (λ (r : Reservation). bytes_eq r.name sequence.name) reserved) (filter (λ (r : Reservation). bytes_eq r.name sequence.name) (reservation ∷ []))
    ∙ ap (λ (b : Bool). ends_of reserved sequence ++ map (λ (r : Reservation). r.upto) (if b then reservation ∷ [] else [])) is
    ∙ tail own
  where
    tail : (b : Bool) → ends_of reserved sequence ++ map (λ (r : Reservation). r.upto) (if b then reservation ∷ [] else []) ≡ (if b then ends_of reserved sequence ++ reservation.upto ∷ [] else ends_of reserved sequence)
    tail true = refl
    tail false = append-nil _

-- those of one sequence are no more than all
pub ends_few : (reserved : List Reservation) (sequence : BaseSequence) → length (ends_of reserved sequence) ≤ length reserved
ends_few [] sequence = omega arith
ends_few (reservation ∷ reserved) sequence = by (bytes_eq reservation.name sequence.name) (ends_few reserved sequence)
  where
    by : (own : Bool) → length (ends_of reserved sequence) ≤ length reserved → length (map (λ (r : Reservation). r.upto) (if own then reservation ∷ filter (λ (r : Reservation). bytes_eq r.name sequence.name) reserved else filter (λ (r : Reservation). bytes_eq r.name sequence.name) reserved)) ≤ length (reservation ∷ reserved)
    by true few = omega (arith, few)
    by false few = omega (arith, few)

-- numbers, on which the rest is arithmetic
next_end : (start upto end : ℤ) (n : ℕ) → upto ≡ end +ℤ pos 16 → end ≡ (start -ℤ pos 1) +ℤ pos (16 * n) → upto ≡ start +ℤ pos (16 * n + 15)
next_end start upto end n next last = omega (arith, ints, next, last)

later_end : (start upto end : ℤ) (n m : ℕ) → upto ≡ end +ℤ pos 16 → end ≡ (start -ℤ pos 1) +ℤ pos (16 * n) → m ≡ n + 1 → upto ≡ (start -ℤ pos 1) +ℤ pos (16 * m)
later_end start upto end n m next last more = omega (arith, ints, next, last, more)

first_end : (start : ℤ) → (start -ℤ pos 1) ≡ (start -ℤ pos 1) +ℤ pos (16 * 0)
first_end start = omega (arith, ints)

module _ (reserved : List Reservation) (reservation : Reservation) (sequence : BaseSequence) (next : IsNextOf reserved reservation sequence) (last : end_of reserved sequence ≡ (sequence.start -ℤ pos 1) +ℤ pos (16 * length (ends_of reserved sequence))) where
  turn_more : (own : Bool) → bytes_eq reservation.name sequence.name ≡ own
      → ends_of reserved sequence ≡ map (end_after sequence) (range_with_len 0 (length (ends_of reserved sequence)))
      → ends_of (reserved ++ reservation ∷ []) sequence ≡ map (end_after sequence) (range_with_len 0 (length (ends_of (reserved ++ reservation ∷ []) sequence)))
  turn_more true own turn =
      subst (λ (l : List ℤ). l ≡ map (end_after sequence) (range_with_len 0 (length l))) (sym (ends_more reserved reservation sequence true own))
      (counted_push (end_after sequence) (ends_of reserved sequence) reservation.upto turn (next_end sequence.start reservation.upto (end_of reserved sequence) (length (ends_of reserved sequence)) (next own) last))
  turn_more false other turn = subst (λ (l : List ℤ). l ≡ map (end_after sequence) (range_with_len 0 (length l))) (sym (ends_more reserved reservation sequence false other)) turn

  last_more : (own : Bool) → bytes_eq reservation.name sequence.name ≡ own → end_of (reserved ++ reservation ∷ []) sequence ≡ (sequence.start -ℤ pos 1) +ℤ pos (16 * length (ends_of (reserved ++ reservation ∷ []) sequence))
  last_more true own =
      end_more reserved reservation sequence
      ∙ ap (λ (b : Bool). if b then reservation.upto else end_of reserved sequence) own
      ∙ later_end sequence.start reservation.upto (end_of reserved sequence) (length (ends_of reserved sequence)) (length (ends_of (reserved ++ reservation ∷ []) sequence)) (next own) last
      (ap length (ends_more reserved reservation sequence true own) ∙ length-append (ends_of reserved sequence) (reservation.upto ∷ []))
  last_more false other =
      end_more reserved reservation sequence
      ∙ ap (λ (b : Bool). if b then reservation.upto else end_of reserved sequence) other
      ∙ last
      ∙ ap (λ n. (sequence.start -ℤ pos 1) +ℤ pos (16 * n)) (sym (ap length (ends_more reserved reservation sequence false other)))

-- ---- all sequences

pub no_reservations : (sequences : List BaseSequence) → AreReservations sequences []
no_reservations sequences = record {
  named = All-nil (λ (reservation : Reservation). IsTrue (is_name_of (map sequence_name sequences) reservation.name));
  in_turn = λ k d within. refl;
  last = λ k d within. let sequence : BaseSequence = get_or sequences k d in first_end sequence.start;
}

pub reservations_more : (sequences : List BaseSequence) (reserved : List Reservation) (reservation : Reservation) → names_differ (map sequence_name sequences) ≡ true → list_any (is_next_reservation reserved reservation) sequences ≡ true
    → AreReservations sequences reserved → AreReservations sequences (reserved ++ reservation ∷ [])
reservations_more sequences reserved reservation differ may are =
    let next = next_of_each reserved reservation sequences differ may in
    record {
      named = All-push (λ (r : Reservation). IsTrue (is_name_of (map sequence_name sequences) r.name)) reserved reservation are.named (has_name reserved reservation sequences may);
      in_turn = λ k d within. turn_more reserved reservation (get_or sequences k d) (next k d within) (are.last k d within) _ refl (are.in_turn k d within);
      last = λ k d within. last_more reserved reservation (get_or sequences k d) (next k d within) (are.last k d within) _ refl;
    }
