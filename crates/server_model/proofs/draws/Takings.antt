-- What one draw of a call takes: a kept value, or a new one and what is left of the opening then.
use Rattle.std.specs.Prelude.{◌≡◌, ◌+◌, ◌+ℤ◌, ℕ, ℤ, pos, int_le, Bool, true, false, List, Option, Some, None, if◌then◌else◌}
use Rattle.std.specs.Option.{option_map}
use Rattle.std.specs.Str.{bytes_eq}
use Rattle.std.proofs.Common.{refl, sym, ◌∙◌, ap}
use Rattle.std.proofs.lemmas.Slice.Eq.{bytes_eq-Decides}
use Rattle.svc_values.specs.declared.draw.Draw.{Draw}
use Rattle.svc_values.specs.declared.draw.Draw.TheVariants as draw
use Rattle.svc_values.specs.declared.draw.DrawKind.{DrawKind}
use Rattle.svc_values.specs.declared.draw.DrawKind.TheVariants as kind
use Rattle.mutable_values.specs.declared.source.SeqState.{SeqState}
use Rattle.mutable_values.specs.declared.source.Drawn.{Drawn}
use Rattle.mutable_values.specs.declared.source.Drawn.TheVariants as drawn
use Rattle.mutable_values.specs.meaning.Sources.{identifier}
use Rattle.mutable_values.specs.Sources.{Opening, DrawnFrom as Told, draw_of, first_kept, without_first, sequence_of, changed, next_value, reservation_size, reserved_to}
use Rattle.mutable_values.proofs.Offered.{DrawsBy, absent, first, ticked, named, valued, reserves, draws_by, found_name, change_of, sequence_changed}
use Rattle.stmt_meaning.specs.Asked.{kind_drawn}
use Rattle.server_model.specs.Draws.{Draws, Gives, Reserves}
use Rattle.server_model.proofs.draws.CountedBlocks.{raised}

-- ---- words

pub same_name : (a : List ℕ) → bytes_eq a a ≡ true
same_name a = (bytes_eq-Decides a a).1 refl

pub names_are : (a b : List ℕ) → bytes_eq a b ≡ true → a ≡ b
names_are a b e = (bytes_eq-Decides a b).0 e

pub some_same : {A : Type 0} (a b : A) → Some a ≡ Some b → a ≡ b
some_same a b same = cc

pub none_some : {A : Type 0} (a : A) → ◌≡◌ {A = Option A} None (Some a) → ⊥
none_some a same = let none : ⊥ = cc in none

pub yes_no : (b : Bool) → b ≡ true → b ≡ false → ⊥
yes_no true one other = let none : ⊥ = cc in none
yes_no false one other = let none : ⊥ = cc in none

-- the sequence of a name gives its next value
abbrev pub raise : List ℕ → SeqState → SeqState
raise name sequence = if bytes_eq sequence.name name then raised sequence else sequence

-- What a draw that gave a value took of the kept ones and of the opening.
pub data Takes (kept : List Draw) (now : ℕ) (before : Opening) (given : Draw) (after : Opening) (left : List Draw) : Type 0 where
  TakesKept : first_kept (kind_drawn given) kept ≡ Some given → after ≡ before → left ≡ without_first (kind_drawn given) kept → Takes kept now before given after left
  TakesTick : first_kept (kind_drawn given) kept ≡ None → given ≡ draw.Clock now → after ≡ before → left ≡ kept → Takes kept now before given after left
  TakesName : first_kept (kind_drawn given) kept ≡ None → given ≡ draw.Id (identifier before.incarnation (before.identifiers + 1)) → after ≡ record before { identifiers = before.identifiers + 1 } → left ≡ kept → Takes kept now before given after left
  TakesNext : (sequence : SeqState) → first_kept (kind_drawn given) kept ≡ None → sequence_of before.sequences sequence.name ≡ Some sequence → given ≡ draw.Seq sequence.name sequence.next
      → after.incarnation ≡ before.incarnation → after.identifiers ≡ before.identifiers → ((name : List ℕ) → sequence_of after.sequences name ≡ option_map (raise sequence.name) (sequence_of before.sequences name))
      → left ≡ kept → Takes kept now before given after left

-- ---- what was told

abbrev pub told : Drawn → Opening → List Draw → Option Told
told answer opening kept = Some (record { answer = answer; opening = opening; kept = kept })

pub answers_are : (a b : Drawn) (m n : Opening) (k l : List Draw) → told a m k ≡ told b n l → a ≡ b
answers_are a b m n k l e = some_same a b (ap (option_map (λ (t : Told). t.answer)) e)

pub openings_are : (a b : Drawn) (m n : Opening) (k l : List Draw) → told a m k ≡ told b n l → m ≡ n
openings_are a b m n k l e = some_same m n (ap (option_map (λ (t : Told). t.opening)) e)

pub kept_are : (a b : Drawn) (m n : Opening) (k l : List Draw) → told a m k ≡ told b n l → k ≡ l
kept_are a b m n k l e = some_same k l (ap (option_map (λ (t : Told). t.kept)) e)

value_or : Draw → Drawn → Draw
value_or none (drawn.Value given) = given
value_or none (drawn.Reserve name upto) = none

values_are : (a b : Draw) → drawn.Value a ≡ drawn.Value b → a ≡ b
unfolding value_or
values_are a b same = ap (value_or a) same

is_value : Drawn → Bool
is_value (drawn.Value given) = true
is_value (drawn.Reserve name upto) = false

pub no_value : (name : List ℕ) (upto : ℤ) (given : Draw) → drawn.Reserve name upto ≡ drawn.Value given → ⊥
unfolding is_value
no_value name upto given same = yes_no false (ap is_value same) refl

reserved_name : List ℕ → Drawn → List ℕ
reserved_name none (drawn.Value one) = none
reserved_name none (drawn.Reserve name upto) = name

reserved_upto : ℤ → Drawn → ℤ
reserved_upto none (drawn.Value one) = none
reserved_upto none (drawn.Reserve name upto) = upto

pub reserves_are : (a b : List ℕ) (m n : ℤ) → drawn.Reserve a m ≡ drawn.Reserve b n → (a ≡ b) × (m ≡ n)
unfolding reserved_name reserved_upto
reserves_are a b m n same = (ap (reserved_name a) same, ap (reserved_upto m) same)

is_sequence : DrawKind → Bool
is_sequence (kind.Seq name) = true
is_sequence kind.Clock = false
is_sequence kind.Id = false

no_clock : (name : List ℕ) → kind.Seq name ≡ kind.Clock → ⊥
unfolding is_sequence
no_clock name same = yes_no true refl (ap is_sequence same)

no_identifier : (name : List ℕ) → kind.Seq name ≡ kind.Id → ⊥
unfolding is_sequence
no_identifier name same = yes_no true refl (ap is_sequence same)

name_or : List ℕ → DrawKind → List ℕ
name_or none (kind.Seq name) = name
name_or none kind.Clock = none
name_or none kind.Id = none

kinds_are : (a b : List ℕ) → kind.Seq a ≡ kind.Seq b → a ≡ b
unfolding name_or
kinds_are a b same = ap (name_or a) same

-- ---- the changed sequence

-- what one change leaves of the sequence that is found
raise_found : (sequences : List SeqState) (sequence : SeqState) (change : SeqState → SeqState) → sequence_of sequences sequence.name ≡ Some sequence → change sequence ≡ raised sequence
    → (name : List ℕ) (found : Option SeqState) → sequence_of sequences name ≡ found → option_map (change_of change sequence.name) found ≡ option_map (raise sequence.name) found
raise_found sequences sequence change there is name None at = refl
raise_found sequences sequence change there is name (Some one) at = ap Some (by (bytes_eq one.name sequence.name) refl)
  where
    by : (b : Bool) → bytes_eq one.name sequence.name ≡ b → (if b then change one else one) ≡ (if b then raised one else one)
    by true e =
        let same_at : sequence_of sequences sequence.name ≡ Some one = ap (sequence_of sequences) (sym (names_are one.name sequence.name e) ∙ found_name sequences name one at) ∙ at in
        let same : one ≡ sequence = some_same one sequence (sym same_at ∙ there) in
        (λ i. change (same i)) ∙ is ∙ (λ i. raised (sym same i))
    by false e = refl

raised-within : (sequence : SeqState) → int_le sequence.next sequence.upto ≡ true → next_value sequence ≡ raised sequence
raised-within sequence within = λ i. record sequence { next = sequence.next +ℤ pos 1; upto = sym (ap (λ b. if b then sequence.upto else sequence.upto +ℤ pos 16) within) i }

raised-past : (sequence : SeqState) → int_le sequence.next sequence.upto ≡ false → next_value (record sequence { upto = sequence.upto +ℤ pos 16 }) ≡ raised sequence
raised-past sequence past = λ i. record sequence { next = sequence.next +ℤ pos 1; upto = sym (ap (λ b. if b then sequence.upto else sequence.upto +ℤ pos 16) past) i }

module _ (kept : List Draw) (asked : DrawKind) (now : ℕ) (before : Opening) (given : Draw) (after : Opening) (left : List Draw) (is_kind : kind_drawn given ≡ asked) where
  kept_so : (found : Option Draw) → first_kept asked kept ≡ found → first_kept (kind_drawn given) kept ≡ found
  kept_so found is = ap (λ k. first_kept k kept) is_kind ∙ is

  by-given : (result : Option Told) → result ≡ told (drawn.Value given) after left → DrawsBy before kept asked now result → Takes kept now before given after left
  by-given result is (absent missing e) = absurd (none_some _ (sym e ∙ is))
  by-given result is (first one there found e) =
      let same : one ≡ given = values_are one given (answers_are _ _ _ _ _ _ (sym e ∙ is)) in
      TakesKept (kept_so (Some given) (found ∙ ap Some same)) (sym (openings_are _ _ _ _ _ _ (sym e ∙ is))) (sym (kept_are _ _ _ _ _ _ (sym e ∙ is)) ∙ ap (λ k. without_first k kept) (sym is_kind))
  by-given result is (ticked of_clock none e) =
      TakesTick (kept_so None none) (sym (values_are _ _ (answers_are _ _ _ _ _ _ (sym e ∙ is)))) (sym (openings_are _ _ _ _ _ _ (sym e ∙ is))) (sym (kept_are _ _ _ _ _ _ (sym e ∙ is)))
  by-given result is (named of_id none e) =
      TakesName (kept_so None none) (sym (values_are _ _ (answers_are _ _ _ _ _ _ (sym e ∙ is)))) (sym (openings_are _ _ _ _ _ _ (sym e ∙ is))) (sym (kept_are _ _ _ _ _ _ (sym e ∙ is)))
  by-given result is (valued sequence there of_name none found within e) =
      let opened : record before { sequences = changed next_value sequence.name before.sequences } ≡ after = openings_are _ _ _ _ _ _ (sym e ∙ is) in
      TakesNext sequence (kept_so None none) found (sym (values_are _ _ (answers_are _ _ _ _ _ _ (sym e ∙ is))))
      (sym (ap (λ (o : Opening). o.incarnation) opened)) (sym (ap (λ (o : Opening). o.identifiers) opened))
      (λ name. sym (ap (λ (o : Opening). sequence_of o.sequences name) opened) ∙ sequence_changed next_value (λ s. refl) sequence.name name before.sequences
      ∙ raise_found before.sequences sequence next_value found (raised-within sequence within) name (sequence_of before.sequences name) refl)
      (sym (kept_are _ _ _ _ _ _ (sym e ∙ is)))
  by-given result is (reserves sequence there of_name none found past e) = absurd (no_value _ _ given (answers_are _ _ _ _ _ _ (sym e ∙ is)))

  module _ (sequence : SeqState) (of_name : asked ≡ kind.Seq sequence.name) (none : first_kept asked kept ≡ None) (found : sequence_of before.sequences sequence.name ≡ Some sequence) (past : int_le sequence.next sequence.upto ≡ false) where
    abbrev end : ℤ
    end = sequence.upto +ℤ pos 16

    abbrev longer : SeqState → SeqState
    longer s = record s { upto = sequence.upto +ℤ pos 16 }

    abbrev between : Opening
    between = reserved_to before sequence.name (sequence.upto +ℤ pos 16)

    found-longer : sequence_of between.sequences sequence.name ≡ Some (longer sequence)
    found-longer = sequence_changed longer (λ s. refl) sequence.name sequence.name before.sequences ∙ ap (option_map (change_of longer sequence.name)) found
        ∙ ap (λ b. Some (if b then longer sequence else sequence)) (same_name sequence.name)

    -- one change behind the other is one
    twice : (name : List ℕ) (one : Option SeqState) → option_map (change_of next_value sequence.name) (option_map (change_of longer sequence.name) one) ≡ option_map (change_of (λ s. next_value (longer s)) sequence.name) one
    twice name None = refl
    twice name (Some one) = ap Some (by (bytes_eq one.name sequence.name) refl)
      where
        by : (b : Bool) → bytes_eq one.name sequence.name ≡ b → change_of next_value sequence.name (if b then longer one else one) ≡ (if b then next_value (longer one) else one)
        by true e = ap (λ b. if b then next_value (longer one) else longer one) e
        by false e = ap (λ b. if b then next_value one else one) e

    again : (result : Option Told) → result ≡ told (drawn.Value given) after left → DrawsBy between kept asked now result → Takes kept now before given after left
    again result is (absent missing e) = absurd (none_some _ (sym e ∙ is))
    again result is (first one there kept_one e) = absurd (none_some one (sym none ∙ kept_one))
    again result is (ticked of_clock new e) = absurd (no_clock sequence.name (sym of_name ∙ of_clock))
    again result is (named of_id new e) = absurd (no_identifier sequence.name (sym of_name ∙ of_id))
    again result is (valued other there of_other new found_other within e) =
        let names : other.name ≡ sequence.name = kinds_are other.name sequence.name (sym of_other ∙ of_name) in
        let same : other ≡ longer sequence = some_same other (longer sequence) (sym found_other ∙ ap (sequence_of between.sequences) names ∙ found-longer) in
        let opened : record between { sequences = changed next_value other.name between.sequences } ≡ after = openings_are _ _ _ _ _ _ (sym e ∙ is) in
        TakesNext sequence (kept_so None none) found
        (sym (values_are _ _ (answers_are _ _ _ _ _ _ (sym e ∙ is))) ∙ (λ i. draw.Seq (same i).name (same i).next))
        (sym (ap (λ (o : Opening). o.incarnation) opened)) (sym (ap (λ (o : Opening). o.identifiers) opened))
        (λ name. sym (ap (λ (o : Opening). sequence_of o.sequences name) opened)
        ∙ ap (λ n. sequence_of (changed next_value n between.sequences) name) names
        ∙ sequence_changed next_value (λ s. refl) sequence.name name between.sequences
        ∙ ap (option_map (change_of next_value sequence.name)) (sequence_changed longer (λ s. refl) sequence.name name before.sequences)
        ∙ twice name (sequence_of before.sequences name)
        ∙ raise_found before.sequences sequence (λ s. next_value (longer s)) found (raised-past sequence past) name (sequence_of before.sequences name) refl)
        (sym (kept_are _ _ _ _ _ _ (sym e ∙ is)))
    again result is (reserves other there of_other new found_other past_other e) = absurd (no_value _ _ given (answers_are _ _ _ _ _ _ (sym e ∙ is)))

  by-reserved : (middle : Opening) (name : List ℕ) (upto : ℤ) (same : List Draw) (result : Option Told) → result ≡ told (drawn.Reserve name upto) middle same → DrawsBy before kept asked now result
      → draw_of (reserved_to middle name upto) kept asked now ≡ told (drawn.Value given) after left → Takes kept now before given after left
  by-reserved middle name upto same result is (absent missing e) behind = absurd (none_some _ (sym e ∙ is))
  by-reserved middle name upto same result is (first one there found e) behind = absurd (no_value _ _ one (sym (answers_are _ _ _ _ _ _ (sym e ∙ is))))
  by-reserved middle name upto same result is (ticked of_clock none e) behind = absurd (no_value _ _ _ (sym (answers_are _ _ _ _ _ _ (sym e ∙ is))))
  by-reserved middle name upto same result is (named of_id none e) behind = absurd (no_value _ _ _ (sym (answers_are _ _ _ _ _ _ (sym e ∙ is))))
  by-reserved middle name upto same result is (valued sequence there of_name none found within e) behind = absurd (no_value _ _ _ (sym (answers_are _ _ _ _ _ _ (sym e ∙ is))))
  by-reserved middle name upto same result is (reserves sequence there of_name none found past e) behind =
      let both = reserves_are sequence.name name (sequence.upto +ℤ reservation_size) upto (answers_are _ _ _ _ _ _ (sym e ∙ is)) in
      let names : sequence.name ≡ name = both.0 in
      let ends : sequence.upto +ℤ reservation_size ≡ upto = both.1 in
      let opened : before ≡ middle = openings_are _ _ _ _ _ _ (sym e ∙ is) in
      again sequence of_name none found past (draw_of (reserved_to before sequence.name (sequence.upto +ℤ pos 16)) kept asked now)
      ((λ i. draw_of (reserved_to (opened i) (names i) (ends i)) kept asked now) ∙ behind)
      (draws_by (reserved_to before sequence.name (sequence.upto +ℤ pos 16)) kept now asked)

-- Each draw of a call takes what it gives.
pub takes : (kept : List Draw) (given : Draw) (now : ℕ) (before after : Opening) (left : List Draw) → Draws kept (kind_drawn given) now before given after left → Takes kept now before given after left
takes kept given now before after left drew = by before after left drew
  where
    by : (one other : Opening) (rest : List Draw) → Draws kept (kind_drawn given) now one given other rest → Takes kept now one given other rest
    by _ _ _ (Gives one other _ rest room is) = by-given kept (kind_drawn given) now one given other rest refl (draw_of one kept (kind_drawn given) now) is (draws_by one kept now (kind_drawn given))
    by _ _ _ (Reserves one between other name upto same _ rest room wants is) = by-reserved kept (kind_drawn given) now one given other rest refl between name upto same (draw_of one kept (kind_drawn given) now) wants (draws_by one kept now (kind_drawn given)) is
