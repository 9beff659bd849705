-- The records of a store stand one behind the other, so those that two stores begin with end at one
-- place.
use Rattle.std.proofs.Common.{◌≡◌, ℕ, ◌+◌, ◌^◌, ◌<◌, List, [], ◌∷◌, ◌++◌, length, get_or, take, drop, refl, sym, ◌∙◌, ap, subst, arith, append_assoc, length-append, append-nil}
use Rattle.std.specs.Prelude.{Ok, Result, All}
use Rattle.std.proofs.lemmas.List.{take_at, drop_at, drop-drop}
use Rattle.std.proofs.lemmas.List.Elements.{All-head, All-tail, All-take}
use Rattle.disk_model.specs.Moment.{Torn, with_bytes}
use Rattle.disk_model.specs.Disk.{DiskState}
use Rattle.redo_store.specs.declared.redo.Redo.{Redo}
use Rattle.redo_store.specs.meaning.Records.{magic, records_of}
use Rattle.redo_store.specs.Records.{length_bytes, spelling_of}
use Rattle.redo_store.specs.Redo.{CanAppend, tail_of}
use Rattle.redo_store.specs.Store.{IsStore}
use Rattle.redo_store.specs.Gate.{HasRecord}
use Rattle.redo_store.specs.Walk.{StandsBehind, KeepsFront}
use Rattle.redo_store.proofs.Grammar.{length-length_bytes}
use Rattle.redo_store.proofs.Gates.{reads, few_spelled, past, begins_so, begins_still}
use Rattle.redo_store.proofs.Walking.{walk_on, walk_start}

abbrev IsShort : List ℕ → Type 0
IsShort payload = length payload < 2 ^ 64

-- from a gate over the records that are spelled there, behind which more bytes stand
walk_over : (image : List ℕ) (place : ℕ) (before done : List (List ℕ)) (gate : ℕ) (rest : List ℕ) → StandsBehind place before image → All IsShort done → drop place image ≡ spelling_of done ++ gate ∷ rest
    → StandsBehind (place + length (spelling_of done)) (before ++ done) image
walk_over image place before [] gate rest stands short bytes =
    subst (λ (at : ℕ). StandsBehind at (before ++ []) image) (omega arith) (subst (λ (l : List (List ℕ)). StandsBehind place l image) (sym (append-nil before)) stands)
walk_over image place before (payload ∷ done) gate rest stands short bytes =
    let n = length payload in
    let spelling = 1 ∷ length_bytes n ++ payload in
    let behind = spelling_of done ++ gate ∷ rest in
    let long : length spelling ≡ 9 + n = omega (arith, length-append (1 ∷ length_bytes n) payload, length-length_bytes n) in
    let apart : drop place image ≡ spelling ++ behind = bytes ∙ append_assoc spelling (spelling_of done) (gate ∷ rest) in
    let one : HasRecord place payload image = record { rest = behind; bytes = apart; more = omega (arith, length-append (spelling_of done) (gate ∷ rest)); short = All-head IsShort payload done short } in
    let next : drop (place + (9 + n)) image ≡ behind = sym (drop-drop (9 + n) place image) ∙ ap (drop (9 + n)) apart ∙ drop_at spelling behind (9 + n) long in
    let on = walk_over image (place + (9 + n)) (before ++ payload ∷ []) done gate rest (walk_on image place before payload stands one) (All-tail IsShort payload done short) next in
    subst (λ (at : ℕ). StandsBehind at (before ++ payload ∷ done) image) (omega (arith, long, length-append spelling (spelling_of done)))
    (subst (λ (l : List (List ℕ)). StandsBehind (place + (9 + n) + length (spelling_of done)) l image) (append_assoc before (payload ∷ []) done) on)

spelling_of-append : (a b : List (List ℕ)) → spelling_of (a ++ b) ≡ spelling_of a ++ spelling_of b
spelling_of-append [] b = refl
spelling_of-append (payload ∷ a) b =
    ap (λ (l : List ℕ). (1 ∷ length_bytes (length payload) ++ payload) ++ l) (spelling_of-append a b) ∙ sym (append_assoc (1 ∷ length_bytes (length payload) ++ payload) (spelling_of a) (spelling_of b))

-- behind the first records stands the closed gate, or the gate of the next one
gate_behind : (more : List (List ℕ)) (gate : ℕ) (rest : List ℕ) → (g : ℕ) × ((r : List ℕ) × (spelling_of more ++ gate ∷ rest ≡ g ∷ r))
gate_behind [] gate rest = (gate, (rest, refl))
gate_behind (payload ∷ more) gate rest = (1, (length_bytes (length payload) ++ payload ++ spelling_of more ++ gate ∷ rest, refl))

front_short : (done more : List (List ℕ)) → All IsShort (done ++ more) → All IsShort done
front_short done more short = subst (λ (l : List (List ℕ)). All IsShort l) (take_at done more (length done) refl) (All-take IsShort (length done) (done ++ more) short)

-- these records stand first, and a gate behind them
stands_at : (image : List ℕ) (done : List (List ℕ)) (gate : ℕ) (rest : List ℕ) → All IsShort done → image ≡ magic ++ (spelling_of done ++ gate ∷ rest) → StandsBehind (8 + length (spelling_of done)) done image
stands_at image done gate rest short all =
    let begins : take 8 image ≡ magic = ap (take 8) all ∙ take_at magic (spelling_of done ++ gate ∷ rest) 8 refl in
    let behind : drop 8 image ≡ spelling_of done ++ gate ∷ rest = ap (drop 8) all ∙ drop_at magic (spelling_of done ++ gate ∷ rest) 8 refl in
    walk_over image 8 [] done gate rest (walk_start image begins) short behind

stands_first : (tail : ℕ) (image : List ℕ) (w : IsStore tail image) (done more : List (List ℕ)) → w.records ≡ done ++ more → StandsBehind (8 + length (spelling_of done)) done image
stands_first tail image w done more is =
    let next = gate_behind more w.gate w.rest in
    stands_at image done next.0 next.1.0 (front_short done more (subst (λ (r : List (List ℕ)). All IsShort r) is w.lengths))
    (w.bytes
    ∙ ap (λ (r : List (List ℕ)). (magic ++ spelling_of r) ++ w.gate ∷ w.rest) is
    ∙ ap (λ (l : List ℕ). (magic ++ l) ++ w.gate ∷ w.rest) (spelling_of-append done more)
    ∙ append_assoc magic (spelling_of done ++ spelling_of more) (w.gate ∷ w.rest)
    ∙ ap (λ (l : List ℕ). magic ++ l) (append_assoc (spelling_of done) (spelling_of more) (w.gate ∷ w.rest))
    ∙ ap (λ (l : List ℕ). magic ++ (spelling_of done ++ l)) next.1.1)

-- a gate stands behind more bytes than records
pub few_behind : (place : ℕ) (done : List (List ℕ)) (image : List ℕ) → StandsBehind place done image → length done < place
few_behind place done image stands = omega (arith, stands.at_place, few_spelled done)

read_is : (r : Result (List (List ℕ)) ℕ) (a b : List (List ℕ)) → r ≡ Ok a → r ≡ Ok b → a ≡ b
read_is r a b here there = let e : ◌≡◌ {A = Result (List (List ℕ)) ℕ} (Ok a) (Ok b) = sym here ∙ there in cc

-- the records of one store end where those that another begins with do
pub stands_over : (store : Redo) (disk : DiskState) → CanAppend store disk → (tail : ℕ) (other : List ℕ) → IsStore tail other → (done more : List (List ℕ)) → records_of disk.now.seen ≡ Ok done → records_of other ≡ Ok (done ++ more)
    → StandsBehind (tail_of store) done other
stands_over store disk ready tail other w done more here there =
    let own = read_is (records_of disk.now.seen) ready.store.records done (reads store.tail disk.now.seen ready.store) here in
    subst (λ (at : ℕ). StandsBehind at done other) (sym (ready.store.at_tail ∙ ap (λ (r : List (List ℕ)). 8 + length (spelling_of r)) own))
    (stands_first tail other w done more (read_is (records_of other) w.records (done ++ more) (reads tail other w) there))

-- ---- what an append leaves of the records before it

module _ (tail : ℕ) (old : List ℕ) (w : IsStore tail old) where
  -- an image with the same bytes up to the gate
  keeps_at : (image : List ℕ) (gate : ℕ) (rest : List ℕ) → image ≡ (magic ++ spelling_of w.records) ++ gate ∷ rest → KeepsFront tail old image
  keeps_at image gate rest is done here =
      let own = read_is (records_of old) w.records done (reads tail old w) here in
      subst (λ (at : ℕ). StandsBehind at done image) (sym (w.at_tail ∙ ap (λ (r : List (List ℕ)). 8 + length (spelling_of r)) own))
      (stands_at image done gate rest (subst (λ (r : List (List ℕ)). All IsShort r) own w.lengths)
      (is ∙ ap (λ (r : List (List ℕ)). (magic ++ spelling_of r) ++ gate ∷ rest) own ∙ append_assoc magic (spelling_of done) (gate ∷ rest)))

  -- one that stands there itself
  pub keeps_itself : KeepsFront tail old old
  keeps_itself = keeps_at old w.gate w.rest w.bytes

  -- while its body is written
  pub keeps_behind : (n : ℕ) (image : List ℕ) → Torn (tail + 1) n old image → KeepsFront tail old image
  keeps_behind n image torn = keeps_at image w.gate (drop (tail + 1) image) (begins_so tail old w n image torn)

  -- and while its gate is
  pub keeps_gate : (payload body : List ℕ) (short : length payload < 2 ^ 64) (is : body ≡ length_bytes (length payload) ++ payload ++ 0 ∷ []) (image : List ℕ) → Torn tail 1 (with_bytes (tail + 1) body old) image
      → KeepsFront tail old image
  keeps_gate payload body short is image torn = keeps_at image (get_or image tail 0) (body ++ past tail old w payload body short is) (begins_still tail old w payload body short is image torn)
