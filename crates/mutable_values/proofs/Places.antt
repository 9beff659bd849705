-- The sequence of a name is changed at its place, and the sequences keep their order.
use Rattle.std.proofs.Common.{◌≡◌, ℕ, ◌<◌, suc, zero, Bool, true, false, not, ◌&&◌, ◌||◌, List, [], ◌∷◌, length, if◌then◌else◌, refl, sym, ap, ap₂, ◌∙◌, arith, get_or, set}
use Rattle.std.proofs.lemmas.List.Quantifiers.{position-Some}
use Rattle.std.proofs.lemmas.List.Elements.{All-set, All-get_or}
use Rattle.std.proofs.lemmas.List.Sums.{AllPass-from_list_all, list_all-from_AllPass}
use Rattle.std.proofs.lemmas.Slice.Eq.{bytes_eq-Decides}
use Rattle.std.specs.Prelude.{Some, position}
use Rattle.std.specs.Option.{is_some}
use Rattle.std.specs.List.{list_all}
use Rattle.std.specs.Str.{bytes_eq}
use Rattle.svc_values.specs.meaning.Names.{is_name_of, names_differ}
use Rattle.mutable_values.specs.declared.source.SeqState.{SeqState}
use Rattle.mutable_values.specs.Sources.{are_sequences, changed, is_within, names_of, sequence_of}

pub same_bytes : (a : List ℕ) → bytes_eq a a ≡ true
same_bytes a = (bytes_eq-Decides a a).1 refl

there_by : (one : SeqState) (rest : List SeqState) (name : List ℕ) (t : Bool) → bytes_eq one.name name ≡ t → is_some (sequence_of rest name) ≡ is_name_of (names_of rest) name → is_some (sequence_of (one ∷ rest) name) ≡ is_name_of (names_of (one ∷ rest)) name
there_by one rest name true e more = rw e refl
there_by one rest name false e more = rw e more

-- a sequence is there where its name is one of the names
pub there_is : (sequences : List SeqState) (name : List ℕ) → is_some (sequence_of sequences name) ≡ is_name_of (names_of sequences) name
there_is [] name = refl
there_is (one ∷ rest) name = there_by one rest name (bytes_eq one.name name) refl (there_is rest name)

-- one sequence, changed where it has the name
abbrev pub change_of : (SeqState → SeqState) → List ℕ → SeqState → SeqState
change_of change name sequence = if bytes_eq sequence.name name then change sequence else sequence

name_by : (change : SeqState → SeqState) → ((sequence : SeqState) → (change sequence).name ≡ sequence.name) → (sequence : SeqState) (t : Bool) → (if t then change sequence else sequence).name ≡ sequence.name
name_by change keeps sequence true = keeps sequence
name_by change keeps sequence false = refl

pub names_kept : (change : SeqState → SeqState) → ((sequence : SeqState) → (change sequence).name ≡ sequence.name) → (name : List ℕ) (sequences : List SeqState) → names_of (changed change name sequences) ≡ names_of sequences
names_kept change keeps name [] = refl
names_kept change keeps name (one ∷ rest) = ap₂ (λ a l. a ∷ l) (name_by change keeps one (bytes_eq one.name name)) (names_kept change keeps name rest)

pub differ_kept : (change : SeqState → SeqState) → ((sequence : SeqState) → (change sequence).name ≡ sequence.name) → (name : List ℕ) (sequences : List SeqState) → names_differ (names_of (changed change name sequences)) ≡ names_differ (names_of sequences)
differ_kept change keeps name [] = refl
differ_kept change keeps name (one ∷ rest) =
    ap₂ (λ (a : Bool) b. a && b)
    (ap₂ (λ l n. not (is_name_of l n)) (names_kept change keeps name rest) (name_by change keeps one (bytes_eq one.name name)))
    (differ_kept change keeps name rest)

pub both : (a b : Bool) → (a && b) ≡ true → (a ≡ true) × (b ≡ true)
both true b e = (refl, e)
both false b e = absurd (let no : ◌≡◌ {A = Bool} false true = e in cc)

pub neither : (a b : Bool) → (a || b) ≡ false → (a ≡ false) × (b ≡ false)
neither false b e = (refl, e)
neither true b e = absurd (let no : ◌≡◌ {A = Bool} true false = e in cc)

pub is_false : (b : Bool) → not b ≡ true → b ≡ false
is_false false e = refl
is_false true e = absurd (let no : ◌≡◌ {A = Bool} false true = e in cc)

-- where no sequence has the name, nothing changes
pub unchanged : (change : SeqState → SeqState) (name : List ℕ) (sequences : List SeqState) → is_name_of (names_of sequences) name ≡ false → changed change name sequences ≡ sequences
unchanged change name [] none = refl
unchanged change name (one ∷ rest) none =
    let parts = neither (bytes_eq one.name name) (is_name_of (names_of rest) name) none in
    ap₂ (λ a l. a ∷ l) (ap (λ t. if t then change one else one) parts.0) (unchanged change name rest parts.1)

changed_first : (change : SeqState → SeqState) (name : List ℕ) (sequences : List SeqState) (i : ℕ) (d : SeqState) → names_differ (names_of sequences) ≡ true → i < length sequences
    → bytes_eq (get_or sequences i d).name name ≡ true → ((k : ℕ) → k < i → bytes_eq (get_or sequences k d).name name ≡ false)
    → changed change name sequences ≡ set sequences i (change (get_or sequences i d))
changed_first change name [] i d differ within here before = absurd (omega arith)
changed_first change name (one ∷ rest) zero d differ within here before =
    let parts = both (not (is_name_of (names_of rest) one.name)) (names_differ (names_of rest)) differ in
    let same : one.name ≡ name = (bytes_eq-Decides one.name name).0 here in
    let none : is_name_of (names_of rest) name ≡ false = ap (is_name_of (names_of rest)) (sym same) ∙ is_false _ parts.0 in
    ap₂ (λ a l. a ∷ l) (ap (λ t. if t then change one else one) here) (unchanged change name rest none)
changed_first change name (one ∷ rest) (suc i) d differ within here before =
    let parts = both (not (is_name_of (names_of rest) one.name)) (names_differ (names_of rest)) differ in
    ap₂ (λ a l. a ∷ l) (ap (λ t. if t then change one else one) (before 0 (omega arith)))
    (changed_first change name rest i d parts.1 (omega arith) here (λ k below. before (suc k) (omega arith)))

-- the one sequence of the name is changed, at its place
pub changed_at : (change : SeqState → SeqState) (name : List ℕ) (sequences : List SeqState) (i : ℕ) (d : SeqState) → are_sequences sequences ≡ true
    → position (λ sequence. bytes_eq sequence.name name) sequences ≡ Some i
    → changed change name sequences ≡ set sequences i (change (get_or sequences i d))
changed_at change name sequences i d are some =
    let at = position-Some (λ sequence. bytes_eq sequence.name name) sequences i d some in
    changed_first change name sequences i d (both (names_differ (names_of sequences)) (list_all is_within sequences) are).0 at.0 at.1 at.2

-- the sequence at this place has the name
pub name_at : (name : List ℕ) (sequences : List SeqState) (i : ℕ) (d : SeqState) → position (λ sequence. bytes_eq sequence.name name) sequences ≡ Some i → (get_or sequences i d).name ≡ name
name_at name sequences i d some = (bytes_eq-Decides (get_or sequences i d).name name).0 (position-Some (λ sequence. bytes_eq sequence.name name) sequences i d some).1

-- a test that all sequences pass is passed at each place
pub passes_at : (test : SeqState → Bool) (sequences : List SeqState) (i : ℕ) (d : SeqState) → i < length sequences → list_all test sequences ≡ true → test (get_or sequences i d) ≡ true
passes_at test sequences i d within all = All-get_or (λ sequence. test sequence ≡ true) sequences i d within (AllPass-from_list_all test sequences all)

-- the sequence of the name, changed, leaves sequences
pub are_changed : (change : SeqState → SeqState) → ((sequence : SeqState) → (change sequence).name ≡ sequence.name) → (name : List ℕ) (sequences : List SeqState) (i : ℕ) (d : SeqState) → are_sequences sequences ≡ true
    → position (λ sequence. bytes_eq sequence.name name) sequences ≡ Some i → is_within (change (get_or sequences i d)) ≡ true
    → are_sequences (set sequences i (change (get_or sequences i d))) ≡ true
are_changed change keeps name sequences i d are some within =
    let parts = both (names_differ (names_of sequences)) (list_all is_within sequences) are in
    let is = changed_at change name sequences i d are some in
    let differ : names_differ (names_of (set sequences i (change (get_or sequences i d)))) ≡ true = ap (λ l. names_differ (names_of l)) (sym is) ∙ differ_kept change keeps name sequences ∙ parts.0 in
    let all : list_all is_within (set sequences i (change (get_or sequences i d))) ≡ true =
    list_all-from_AllPass is_within _ (All-set (λ sequence. is_within sequence ≡ true) sequences i (change (get_or sequences i d)) within (AllPass-from_list_all is_within sequences parts.1)) in
    ap₂ (λ (a : Bool) b. a && b) differ all
