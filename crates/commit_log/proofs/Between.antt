-- An image whose records lie between those of two stores.
use Rattle.std.proofs.Common.{◌≡◌, ℕ, zero, suc, ◌≤◌, List, [], ◌∷◌, ◌++◌, length, map, take, Option, Some, refl, sym, ◌∙◌, ap, arith, append_assoc, fold}
use Rattle.std.specs.Prelude.{Result, Ok}
use Rattle.std.proofs.lemmas.Simd.{map-map}
use Rattle.redo_store.specs.meaning.Records.{records_of}
use Rattle.commit_log.specs.declared.journal.Journal.{Journal}
use Rattle.commit_log.specs.declared.records.Record.{Record}
use Rattle.commit_log.specs.RecordBytes.{spell_record}
use Rattle.commit_log.specs.meaning.Rules.{with_record}
use Rattle.commit_log.specs.meaning.Journals.{whole_record}
use Rattle.commit_log.specs.Growth.{with_records, with_payloads}
use Rattle.commit_log.specs.Laws.{FrontsAreGrown}
use Rattle.commit_log.proofs.Fronts.{fronts_are_journals}

abbrev as_some : Record → Option Record
as_some one = Some one

abbrev read_again : Record → Option Record
read_again one = whole_record (spell_record one)

-- what stands behind equal records is equal
behind : (front a b : List (List ℕ)) → front ++ a ≡ front ++ b → a ≡ b
behind [] a b e = e
behind (payload ∷ front) a b e = behind front a b cc

-- the payloads of a front are those of the first records
record IsFront (added : List Record) (some : List (List ℕ)) : Type 0 where
  few : length some ≤ length added
  spelled : some ≡ map spell_record (take (length some) added)

front_of : (added : List Record) (some more : List (List ℕ)) → map spell_record added ≡ some ++ more → IsFront added some
front_of added [] more e = record { few = omega arith; spelled = refl }
front_of [] (payload ∷ some) more e = absurd (let none : ⊥ = cc in none)
front_of (one ∷ added) (payload ∷ some) more e =
    let rest = front_of added some more cc in
    let same : payload ≡ spell_record one = cc in
    record { few = omega (arith, rest.few); spelled = ap (λ (p : List ℕ). p ∷ some) same ∙ ap (λ (l : List (List ℕ)). spell_record one ∷ l) rest.spelled }

read_front : (count : ℕ) (added : List Record) → map read_again added ≡ map as_some added → map read_again (take count added) ≡ map as_some (take count added)
read_front zero added e = refl
read_front (suc count) [] e = refl
read_front (suc count) (one ∷ added) e =
    let here : read_again one ≡ as_some one = cc in
    ap (λ (o : Option Record). o ∷ map read_again (take count added)) here ∙ ap (λ (l : List (Option Record)). as_some one ∷ l) (read_front count added cc)

same_records : (a b : List Record) → map as_some a ≡ map as_some b → a ≡ b
same_records [] [] e = refl
same_records [] (one ∷ b) e = absurd (let none : ⊥ = cc in none)
same_records (one ∷ a) [] e = absurd (let none : ⊥ = cc in none)
same_records (one ∷ a) (other ∷ b) e =
    let here : one ≡ other = cc in
    ap (λ (r : Record). r ∷ a) here ∙ ap (λ (l : List Record). other ∷ l) (same_records a b cc)

ok_is : (a b : List (List ℕ)) (r : Result (List (List ℕ)) ℕ) → r ≡ Ok a → r ≡ Ok b → a ≡ b
ok_is a b r first second = cc

pub fronts_are_grown : FrontsAreGrown
fronts_are_grown old image whole added journal first mine some more has holds olds images wholes =
    let count = length some in
    let all : (first ∷ mine) ++ map spell_record added ≡ (first ∷ mine) ++ (some ++ more) =
    ok_is ((first ∷ mine) ++ map spell_record added) ((first ∷ mine) ++ (some ++ more)) (records_of whole) (has.records ∙ ap (with_payloads added) olds)
    (wholes ∙ ap (λ (l : List (List ℕ)). Ok l) (append_assoc (first ∷ mine) some more)) in
    let front = front_of added some more (behind (first ∷ mine) (map spell_record added) (some ++ more) all) in
    let reads = read_front count added has.read in
    let between = fronts_are_journals whole image journal first (mine ++ some) more holds wholes images in
    let before = fronts_are_journals image old between.earlier first mine some between.read images olds in
    let since : before.since ≡ take count added =
    same_records before.since (take count added)
    (sym before.spelled ∙ ap (map whole_record) front.spelled ∙ map-map whole_record spell_record (take count added) ∙ reads) in
    record {
      count = count;
      within = front.few;
      has = record {
        records = images ∙ ap (λ (l : List (List ℕ)). Ok ((first ∷ mine) ++ l)) front.spelled ∙ sym (ap (with_payloads (take count added)) olds);
        read = reads;
        journal = between.read
            ∙ ap (λ (j : Journal). Ok j) (sym before.grown ∙ ap (fold with_record before.earlier) since)
            ∙ sym (ap (with_records (take count added)) before.read);
      };
    }
