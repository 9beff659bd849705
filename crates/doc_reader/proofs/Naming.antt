-- Names noted one after the other.
use Rattle.std.proofs.Common.{◌≡◌, ◌≤◌, ◌<◌, ℕ, ◌+◌, List, [], ◌∷◌, ◌++◌, length, drop, get_or, subst, Bool, true, false, cond, nat_le, nat_lt, Result, Ok, Err, refl, sym, ap, ◌∙◌, arith}
use Rattle.std.specs.List.{flat_map}
use Rattle.std.specs.Prelude.{⊤}
use Rattle.std.proofs.lemmas.Bool.{le-leb, lt-leb, ltb-true, ltb-false}
use Rattle.std.proofs.lemmas.List.{length_push, append-nil, drop_more}
use Rattle.json_form.specs.declared.fault.DocCode.TheVariants.{Limit}
use Rattle.json_form.specs.declared.fault.DocFault.{DocFault}
use Rattle.json_form.specs.declared.fault.DocFault.TheVariants.{NoMemory, At}
use Rattle.json_form.specs.meaning.Faults.{Fault, ◌>>=◌, here}
use Rattle.json_form.specs.Faults.{Fails}
use Rattle.svc_values.specs.meaning.Names.{is_name_of}
use Rattle.svc_values.specs.declared.statement.Operand.{Operand}
use Rattle.outage_schedule.specs.declared.document.Document.{Document}
use Rattle.doc_reader.specs.meaning.Counts.{with_others, different, names_in_operand, names_in, has_few_names}
use Rattle.doc_reader.specs.InnerCounting.{noted, noted_all, if_few_names}

ends : {A : Type 0} (r : Result A Fault) → (r >>= λ x. Ok x) ≡ r
ends (Ok x) = refl
ends (Err e) = refl

-- one name alone
pub one_noted : (before : List (List ℕ)) (name : List ℕ) → noted_all before (name ∷ []) ≡ noted before name
one_noted before name = ends (noted before name)

-- an operand alone
pub only_one : (one : Operand) → flat_map names_in_operand (one ∷ []) ≡ names_in_operand one
only_one one = append-nil (names_in_operand one)

after_both : {A B C : Type 0} (r : Result A Fault) (f : A → Result B Fault) (g : B → Result C Fault) → ((r >>= f) >>= g) ≡ (r >>= λ x. f x >>= g)
after_both (Ok x) f g = refl
after_both (Err e) f g = refl

same_steps : {A B : Type 0} (r : Result A Fault) (f g : A → Result B Fault) → ((x : A) → f x ≡ g x) → (r >>= f) ≡ (r >>= g)
same_steps (Ok x) f g same = same x
same_steps (Err e) f g same = refl

-- names behind others
pub both_noted : (before names more : List (List ℕ)) → noted_all before (names ++ more) ≡ (noted_all before names >>= λ so_far. noted_all so_far more)
both_noted before [] more = refl
both_noted before (name ∷ names) more =
    same_steps (noted before name) (λ b. noted_all b (names ++ more)) (λ b. noted_all b names >>= λ so_far. noted_all so_far more) (λ b. both_noted b names more)
    ∙ sym (after_both (noted before name) (λ b. noted_all b names) (λ so_far. noted_all so_far more))

pub more_noted : (before names more so_far : List (List ℕ)) → noted_all before names ≡ Ok so_far → noted_all before (names ++ more) ≡ noted_all so_far more
more_noted before names more so_far h = both_noted before names more ∙ ap (λ (r : Result (List (List ℕ)) Fault). r >>= λ b. noted_all b more) h

none_noted : (before names more : List (List ℕ)) (fault : Fault) → noted_all before names ≡ Err fault → noted_all before (names ++ more) ≡ Err fault
none_noted before names more fault h = both_noted before names more ∙ ap (λ (r : Result (List (List ℕ)) Fault). r >>= λ b. noted_all b more) h

-- a fault among the first is that of all
pub fails_noted : (e : DocFault) (before names more : List (List ℕ)) → Fails e (noted_all before names) → Fails e (noted_all before (names ++ more))
fails_noted NoMemory before names more h = tt
fails_noted (At c p) before names more h = none_noted before names more (record { code = c; path = p }) h

longer_by : (before names : List (List ℕ)) (name : List ℕ) (b : Bool) → ((more : List (List ℕ)) → length more ≤ length (with_others more names)) → length before ≤ length (with_others (cond b before (before ++ name ∷ [])) names)
longer_by before names name true longer = longer before
longer_by before names name false longer =
    let long = length_push before name in
    let more = longer (before ++ name ∷ []) in omega (arith, long, more)

-- no name is given up
grows : (before names : List (List ℕ)) → length before ≤ length (with_others before names)
grows before [] = omega arith
grows before (name ∷ names) = longer_by before names name (is_name_of before name) (λ more. grows more names)

abbrev in_all : List (List ℕ) → Result (List (List ℕ)) Fault
in_all names = cond (nat_le (length names) 16) (Ok names) (Err (here Limit))

is_in_all : (names : List (List ℕ)) → length names ≤ 16 → Ok names ≡ in_all names
is_in_all names few = ap (λ b. cond b (Ok names) (Err (here Limit))) (sym (le-leb (length names) 16 few))

not_in_all : (names : List (List ℕ)) → 16 < length names → Err (here Limit) ≡ in_all names
not_in_all names many = ap (λ b. cond b (Ok names) (Err (here Limit))) (sym (lt-leb (length names) 16 many))

-- one more name, if there is room for it
with_room : (before names : List (List ℕ)) (name : List ℕ) (b : Bool) → nat_lt (length before) 16 ≡ b → length before ≤ 16 → (length (before ++ name ∷ []) ≤ 16 → noted_all (before ++ name ∷ []) names ≡ in_all (with_others (before ++ name ∷ []) names))
    → (cond b (Ok (before ++ name ∷ [])) (Err (here Limit)) >>= λ more. noted_all more names) ≡ in_all (with_others (before ++ name ∷ []) names)
with_room before names name true e few rest =
    let long = length_push before name in
    let room = ltb-true (length before) 16 e in rest (omega (arith, long, room))
with_room before names name false e few rest =
    let long = length_push before name in
    let full = ltb-false (length before) 16 e in
    let more = grows (before ++ name ∷ []) names in not_in_all (with_others (before ++ name ∷ []) names) (omega (arith, long, full, more))

noted_by : (before names : List (List ℕ)) (name : List ℕ) (b : Bool) → length before ≤ 16 → ((more : List (List ℕ)) → length more ≤ 16 → noted_all more names ≡ in_all (with_others more names))
    → (cond b (Ok before) (cond (nat_lt (length before) 16) (Ok (before ++ name ∷ [])) (Err (here Limit))) >>= λ more. noted_all more names) ≡ in_all (with_others (cond b before (before ++ name ∷ [])) names)
noted_by before names name true few rest = rest before few
noted_by before names name false few rest = with_room before names name (nat_lt (length before) 16) refl few (rest (before ++ name ∷ []))

-- noting one after the other finds as many as there are different ones
all_noted : (before names : List (List ℕ)) → length before ≤ 16 → noted_all before names ≡ in_all (with_others before names)
all_noted before [] few = is_in_all before few
all_noted before (name ∷ names) few = noted_by before names name (is_name_of before name) few (λ more short. all_noted more names short)

abbrev fine : Result ⊤ Fault
fine = Ok tt

abbrev too_many : {A : Type 0} → Result A Fault
too_many = Err (here Limit)

tested : (b : Bool) (names : List (List ℕ)) → (cond b (Ok names) too_many >>= λ _. fine) ≡ cond b fine too_many
tested true names = refl
tested false names = refl

-- what noting all names of a document says of their number
few_are : (document : Document) → (noted_all [] (names_in document) >>= λ _. fine) ≡ if_few_names document
few_are document =
    ap (λ (r : Result (List (List ℕ)) Fault). r >>= λ _. fine) (all_noted [] (names_in document) (omega arith)) ∙ tested (has_few_names document) (different (names_in document))

pub few_given : (document : Document) (names : List (List ℕ)) → noted_all [] (names_in document) ≡ Ok names → if_few_names document ≡ fine
few_given document names h = sym (few_are document) ∙ ap (λ (r : Result (List (List ℕ)) Fault). r >>= λ _. fine) h

pub few_fails : (document : Document) (e : DocFault) → Fails e (noted_all [] (names_in document)) → Fails e (if_few_names document)
few_fails document NoMemory h = tt
few_fails document (At c p) h = sym (few_are document) ∙ ap (λ (r : Result (List (List ℕ)) Fault). r >>= λ _. fine) h

-- the next one of a list
at_item : {A : Type 0} (items : List A) (i : ℕ) (one : A) → i < length items → one ≡ get_or items i one → drop i items ≡ one ∷ drop (i + 1) items
at_item items i one lt is = drop_more items i one lt ∙ ap (λ x. x ∷ drop (i + 1) items) (sym is)

pub next_noted : {A : Type 0} (names : A → List (List ℕ)) (items : List A) (i : ℕ) (one : A) (before so_far : List (List ℕ)) → i < length items → one ≡ get_or items i one → noted_all before (names one) ≡ Ok so_far
    → noted_all so_far (flat_map names (drop (i + 1) items)) ≡ noted_all before (flat_map names (drop i items))
next_noted names items i one before so_far lt is h =
    sym (ap (λ rest. noted_all before (flat_map names rest)) (at_item items i one lt is) ∙ more_noted before (names one) (flat_map names (drop (i + 1) items)) so_far h)

pub fault_noted : {A : Type 0} (names : A → List (List ℕ)) (items : List A) (i : ℕ) (one : A) (before : List (List ℕ)) (e : DocFault) → i < length items → one ≡ get_or items i one → Fails e (noted_all before (names one))
    → Fails e (noted_all before (flat_map names (drop i items)))
fault_noted names items i one before e lt is h =
    subst (λ rest. Fails e (noted_all before (flat_map names rest))) (sym (at_item items i one lt is)) (fails_noted e before (names one) (flat_map names (drop (i + 1) items)) h)
