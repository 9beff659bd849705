-- Over all openings of a store the new values of a sequence rise.
use Rattle.std.proofs.Common.{◌≡◌, ◌+ℤ◌, ℕ, ℤ, pos, Bool, true, false, List, [], ◌∷◌, ◌++◌, if◌then◌else◌, refl, sym, ap, subst, ◌∙◌, arith}
use Rattle.std.proofs.lemmas.Int.{ints}
use Rattle.std.proofs.lemmas.List.Elements.{All-cons, All-nil}
use Rattle.std.proofs.lemmas.List.Kept.{AllPairs-cons}
use Rattle.std.specs.Prelude.{IsTrue, Option, Some, None, int_le, int_lt}
use Rattle.std.specs.List.{All, AllPairs, list_all}
use Rattle.std.specs.Option.{option_map}
use Rattle.std.specs.Str.{bytes_eq}
use Rattle.svc_values.specs.declared.draw.Draw.{Draw}
use Rattle.svc_values.specs.meaning.Names.{names_differ}
use Rattle.mutable_values.specs.declared.source.SeqState.{SeqState}
use Rattle.mutable_values.specs.Sources.{Opening, are_sequences, is_within, names_of, sequence_of}
use Rattle.mutable_values.specs.History.{Did, MayDoAll, after_one, after_all, all_anew, drawn_anew, values_of}
use Rattle.mutable_values.specs.Epochs.{Epoch, last_of, IsEpoch, GoOn, Follows, AreEpochs, anew_over}
use Rattle.mutable_values.specs.Laws.{ValuesRise}
use Rattle.mutable_values.proofs.Given.{found_passes}
use Rattle.mutable_values.proofs.Histories.{Counts, stays, goes_on, counts_by, next_of, next_some, one_call, values_of-append}
use Rattle.mutable_values.proofs.Places.{both}
use Rattle.mutable_values.proofs.Staying.{sequences_stay}

-- the first is at least the bound, and each later one above the one before it
abbrev RisesFrom : ℤ → List ℤ → Type 0
RisesFrom bound [] = Unit {0}
RisesFrom bound (value ∷ values) = IsTrue (int_le bound value) × RisesFrom (value +ℤ pos 1) values

le_trans : (a b c : ℤ) → int_le a b ≡ true → int_le b c ≡ true → int_le a c ≡ true
le_trans a b c p q = grind (arith, ints)

le_self : (a : ℤ) → int_le a a ≡ true
le_self a = grind (arith, ints)

le_more : (a b : ℤ) → int_le a b ≡ true → int_le (a +ℤ pos 1) (b +ℤ pos 1) ≡ true
le_more a b p = grind (arith, ints)

lt_below : (a b : ℤ) → int_le (a +ℤ pos 1) b ≡ true → int_lt a b ≡ true
lt_below a b p = grind (arith, ints)

le_behind : (a b : ℤ) → int_le (a +ℤ pos 1) b ≡ true → int_le (a +ℤ pos 1) (b +ℤ pos 1) ≡ true
le_behind a b p = grind (arith, ints)

lower : (a b : ℤ) (values : List ℤ) → int_le a b ≡ true → RisesFrom b values → RisesFrom a values
lower a b [] p rises = tt
lower a b (value ∷ values) p rises = (le_trans a b value p rises.0, rises.1)

all_above : (v bound : ℤ) (values : List ℤ) → int_le (v +ℤ pos 1) bound ≡ true → RisesFrom bound values → All (λ w. IsTrue (int_lt v w)) values
all_above v bound [] p rises = All-nil (λ w. IsTrue (int_lt v w))
all_above v bound (value ∷ values) p rises =
    let above : int_le (v +ℤ pos 1) value ≡ true = le_trans (v +ℤ pos 1) bound value p rises.0 in
    All-cons (λ w. IsTrue (int_lt v w)) value values (lt_below v value above) (all_above v (value +ℤ pos 1) values (le_behind v value above) rises.1)

rises_pairs : (bound : ℤ) (values : List ℤ) → RisesFrom bound values → AllPairs (λ one other. IsTrue (int_lt one other)) values
rises_pairs bound [] rises = λ i j d below within. absurd (omega arith)
rises_pairs bound (value ∷ values) rises =
    AllPairs-cons (λ one other. IsTrue (int_lt one other)) value values (all_above value (value +ℤ pos 1) values (le_self (value +ℤ pos 1)) rises.1) (rises_pairs (value +ℤ pos 1) values rises.1)

-- ---- one opening

-- what rises behind the last sequence rises behind the values of the history too
rises_on : (name : List ℕ) (rest : List ℤ) (opening : Opening) (next : ℤ) (gave more : List Draw) (after last : Opening) → Counts name next gave after.sequences
    → ((n : ℤ) → next_of after.sequences name ≡ Some n → RisesFrom n (values_of name more ++ rest))
    → RisesFrom next (values_of name (gave ++ more) ++ rest)
rises_on name rest opening next gave more after last (stays none is) on =
    subst (λ l. RisesFrom next (l ++ rest)) (sym (values_of-append name gave more ∙ ap (λ l. l ++ values_of name more) none)) (on next is)
rises_on name rest opening next gave more after last (goes_on one is) on =
    subst (λ l. RisesFrom next (l ++ rest)) (sym (values_of-append name gave more ∙ ap (λ l. l ++ values_of name more) one)) (le_self next, on (next +ℤ pos 1) is)

rises_through : (name : List ℕ) (rest : List ℤ) (history : List Did) (opening : Opening) (next : ℤ) → next_of opening.sequences name ≡ Some next
    → ((n : ℤ) → next_of (after_all opening history).sequences name ≡ Some n → RisesFrom n rest)
    → RisesFrom next (values_of name (all_anew opening history) ++ rest)
rises_through name rest [] opening next at last = last next at
rises_through name rest (did ∷ more) opening next at last =
    rises_on name rest opening next (drawn_anew opening did) (all_anew (after_one opening did) more) (after_one opening did) (after_all (after_one opening did) more)
    (counts_by opening name next at (drawn_anew opening did) (after_one opening did) (one_call opening did))
    (λ n is. rises_through name rest more (after_one opening did) n is last)

-- sequences stay sequences over a history
are_after : (history : List Did) (opening : Opening) → MayDoAll opening history → are_sequences opening.sequences ≡ true → are_sequences (after_all opening history).sequences ≡ true
are_after [] opening may are = are
are_after (did ∷ more) opening may are = are_after more (after_one opening did) may.1 (sequences_stay opening did may.0 are).0

-- ---- one opening after the other

go_on_by : (name : List ℕ) (before after sequence : SeqState) (befores afters : List SeqState) → after.name ≡ before.name → int_le (before.upto +ℤ pos 1) after.next ≡ true
    → (sequence_of befores name ≡ Some sequence → (next : SeqState) × (sequence_of afters name ≡ Some next) × IsTrue (int_le (sequence.upto +ℤ pos 1) next.next))
    → (t : Bool) → bytes_eq before.name name ≡ t → (if t then Some before else sequence_of befores name) ≡ Some sequence
    → (next : SeqState) × ((if bytes_eq after.name name then Some after else sequence_of afters name) ≡ Some next) × IsTrue (int_le (sequence.upto +ℤ pos 1) next.next)
go_on_by name before after sequence befores afters named behind more true e is =
    let same : before ≡ sequence = cc in (
      after,
      ap (λ t. if t then Some after else sequence_of afters name) (ap (λ n. bytes_eq n name) named ∙ e),
      ap (λ (s : SeqState). int_le (s.upto +ℤ pos 1) after.next) (sym same) ∙ behind,
    )
go_on_by name before after sequence befores afters named behind more false e is =
    let found = more is in (
      found.0,
      ap (λ t. if t then Some after else sequence_of afters name) (ap (λ n. bytes_eq n name) named ∙ e) ∙ found.1,
      found.2,
    )

go_on_found : (name : List ℕ) (befores afters : List SeqState) (sequence : SeqState) → GoOn befores afters → sequence_of befores name ≡ Some sequence
    → (next : SeqState) × (sequence_of afters name ≡ Some next) × IsTrue (int_le (sequence.upto +ℤ pos 1) next.next)
go_on_found name [] [] sequence go is = absurd (let none : ◌≡◌ {A = Option SeqState} None (Some sequence) = is in cc)
go_on_found name [] (after ∷ afters) sequence go is = absurd go
go_on_found name (before ∷ befores) [] sequence go is = absurd go
go_on_found name (before ∷ befores) (after ∷ afters) sequence go is =
    go_on_by name before after sequence befores afters go.0 go.1 (go_on_found name befores afters sequence go.2) (bytes_eq before.name name) refl is

abbrev own_next : SeqState → ℤ
own_next sequence = sequence.next

-- the values of one opening and of those behind it
joined : (name : List ℕ) (later : List Epoch) (epoch : Epoch) (sequence : SeqState) → sequence_of epoch.opening.sequences name ≡ Some sequence
    → ((n : ℤ) → next_of (last_of epoch).sequences name ≡ Some n → RisesFrom n (values_of name (anew_over later)))
    → RisesFrom sequence.next (values_of name (anew_over (epoch ∷ later)))
joined name later epoch sequence is behind =
    subst (RisesFrom sequence.next) (sym (values_of-append name (all_anew epoch.opening epoch.history) (anew_over later)))
    (rises_through name (values_of name (anew_over later)) epoch.history epoch.opening sequence.next (ap (option_map own_next) is) behind)

-- where the last sequence stands, that of the next opening stands behind it
stands_behind : (name : List ℕ) (epoch next : Epoch) → IsEpoch epoch → Follows (last_of epoch) next.opening → (n : ℤ) → next_of (last_of epoch).sequences name ≡ Some n
    → (found : SeqState) × (sequence_of next.opening.sequences name ≡ Some found) × IsTrue (int_le n found.next)
stands_behind name epoch next is follows n at =
    let last = next_some (last_of epoch).sequences name n (sequence_of (last_of epoch).sequences name) refl at in
    let all = are_after epoch.history epoch.opening is.history is.sequences in
    let within : is_within last.0 ≡ true = found_passes is_within (last_of epoch).sequences name last.0 (both (names_differ (names_of (last_of epoch).sequences)) (list_all is_within (last_of epoch).sequences) all).1 last.1 in
    let found = go_on_found name (last_of epoch).sequences next.opening.sequences last.0 follows.sequences last.1 in
    (found.0, found.1, ap (λ m. int_le m found.0.next) (sym last.2) ∙ le_trans last.0.next (last.0.upto +ℤ pos 1) found.0.next within found.2)

epochs_rise : (name : List ℕ) (later : List Epoch) (epoch : Epoch) (sequence : SeqState) → AreEpochs (epoch ∷ later) → sequence_of epoch.opening.sequences name ≡ Some sequence
    → RisesFrom sequence.next (values_of name (anew_over (epoch ∷ later)))
epochs_rise name [] epoch sequence are is = joined name [] epoch sequence is (λ n at. tt)
epochs_rise name (next ∷ rest) epoch sequence are is = joined name (next ∷ rest) epoch sequence is (λ n at.
    let found = stands_behind name epoch next are.0 are.1 n at in
    lower n found.0.next (values_of name (anew_over (next ∷ rest))) found.2 (epochs_rise name rest next found.0 are.2 found.1))

pub values_rise : ValuesRise
values_rise first later sequence are is = rises_pairs sequence.next (values_of sequence.name (anew_over (first ∷ later))) (epochs_rise sequence.name later first sequence are is)
