-- How many identifiers are in lists that differ.
use Rattle.std.proofs.Common.{◌≡◌, ℕ, ◌+◌, ◌-◌, ◌≤◌, ◌<◌, leb, List, [], ◌∷◌, ◌++◌, Bool, true, false, not, cond, ◌&&◌, ◌||◌, refl, sym, ap, ◌∙◌, arith}
use Rattle.std.proofs.lemmas.Bool.{and_parts, not-true, lt-leb}
use Rattle.std.proofs.lemmas.Bool.Decides.{nat_tests}
use Rattle.svc_values.specs.declared.entry.Ltxid.{Ltxid}
use Rattle.svc_values.specs.meaning.Identifiers.{same_ltxid}
use Rattle.run_clauses.specs.meaning.Tried.{holds, ids_differ}
use Rattle.identifier_sets.proofs.Offered.{same_symm}
use Rattle.entry_check.specs.Once.{known_in}
use Rattle.entry_check.proofs.Sets.{are_one}

-- one more identifier
pub known_cons : (p : Ltxid → Bool) (x : Ltxid) (ids : List Ltxid) → known_in p (x ∷ ids) ≡ cond (p x) 1 0 + known_in p ids
known_cons p x ids = by (p x) refl
  where
    by : (b : Bool) → p x ≡ b → known_in p (x ∷ ids) ≡ cond (p x) 1 0 + known_in p ids
    by true is = rw is (omega arith)
    by false is = rw is (omega arith)

pub known_none : (ids : List Ltxid) → known_in (λ x. false) ids ≡ 0
known_none [] = refl
known_none (x ∷ ids) = known_none ids

either : (p q : Bool) → (p && q) ≡ false → cond (p || q) 1 0 ≡ cond p 1 0 + cond q 1 0
either true true apart = absurd (let no : true ≡ false = apart in cc)
either true false apart = refl
either false true apart = refl
either false false apart = refl

pub known_or : (p q : Ltxid → Bool) → ((x : Ltxid) → (p x && q x) ≡ false) → (ids : List Ltxid)
    → known_in (λ x. p x || q x) ids ≡ known_in p ids + known_in q ids
known_or p q apart [] = refl
known_or p q apart (x ∷ ids) =
    let one = known_cons (λ y. p y || q y) x ids in
    let first = known_cons p x ids in
    let second = known_cons q x ids in
    let here = either (p x) (q x) (apart x) in
    let more = known_or p q apart ids in
    omega (arith, one, first, second, here, more)

-- an identifier is at most once among identifiers that differ
pub known_one : (x : Ltxid) (ids : List Ltxid) → ids_differ ids ≡ true → known_in (λ y. same_ltxid y x) ids ≡ cond (holds ids x) 1 0
known_one x [] differ = refl
known_one x (y ∷ ids) differ =
    let parts = and_parts (not (holds ids y)) (ids_differ ids) differ in
    by (same_ltxid x y) refl (not-true (holds ids y) parts.0) (known_one x ids parts.1)
  where
    by : (b : Bool) → same_ltxid x y ≡ b → holds ids y ≡ false → known_in (λ z. same_ltxid z x) ids ≡ cond (holds ids x) 1 0
        → known_in (λ z. same_ltxid z x) (y ∷ ids) ≡ cond (holds (y ∷ ids) x) 1 0
    by true is fresh rest =
        let none : holds ids x ≡ false = ap (holds ids) (are_one x y is) ∙ fresh in
        let now : known_in (λ z. same_ltxid z x) ids ≡ 0 = rest ∙ ap (λ b. cond b 1 0) none in
        let one : ◌≡◌ {A = ℕ} (cond (same_ltxid y x) 1 0) 1 = ap (λ b. cond b 1 0) (same_symm y x ∙ is) in
        let all : ◌≡◌ {A = ℕ} (cond (holds (y ∷ ids) x) 1 0) 1 = ap (λ b. cond (b || holds ids x) 1 0) is in
        let cons = known_cons (λ z. same_ltxid z x) y ids in
        omega (arith, cons, one, now, all)
    by false is fresh rest =
        let one : ◌≡◌ {A = ℕ} (cond (same_ltxid y x) 1 0) 0 = ap (λ b. cond b 1 0) (same_symm y x ∙ is) in
        let all : ◌≡◌ {A = ℕ} (cond (holds (y ∷ ids) x) 1 0) (cond (holds ids x) 1 0) = ap (λ b. cond (b || holds ids x) 1 0) is in
        let cons = known_cons (λ z. same_ltxid z x) y ids in
        omega (arith, cons, one, rest, all)

-- as many of the one are in the other as of the other in the one
pub known_swap : (a b : List Ltxid) → ids_differ a ≡ true → ids_differ b ≡ true → known_in (holds b) a ≡ known_in (holds a) b
known_swap [] b one two = sym (known_none b)
known_swap (x ∷ a) b one two =
    let parts = and_parts (not (holds a x)) (ids_differ a) one in
    let fresh : holds a x ≡ false = not-true (holds a x) parts.0 in
    let cons = known_cons (holds b) x a in
    let single = known_one x b two in
    let more = known_swap a b parts.1 two in
    let both = known_or (λ y. same_ltxid y x) (holds a) (apart fresh) b in
    omega (arith, cons, single, more, both)
  where
    apart : holds a x ≡ false → (y : Ltxid) → (same_ltxid y x && holds a y) ≡ false
    apart fresh y = by (same_ltxid y x) refl
      where
        by : (s : Bool) → same_ltxid y x ≡ s → (same_ltxid y x && holds a y) ≡ false
        by true is = ap (λ b. b && holds a y) is ∙ (ap (holds a) (are_one y x is) ∙ fresh)
        by false is = ap (λ b. b && holds a y) is

pub known-append : (p : Ltxid → Bool) (a b : List Ltxid) → known_in p (a ++ b) ≡ known_in p a + known_in p b
known-append p [] b = omega arith
known-append p (x ∷ a) b =
    let all = known_cons p x (a ++ b) in
    let one = known_cons p x a in
    let more = known-append p a b in
    omega (arith, all, one, more)

-- what is left of a limit
pub at_most_more : (a b left : ℕ) → a ≤ left → leb (a + b) left ≡ leb b (left - a)
at_most_more a b left within = grind (arith, nat_tests)

pub past_most : (a b left : ℕ) → left < a → leb (a + b) left ≡ false
past_most a b left past = let more : left < a + b = omega (arith, past) in lt-leb (a + b) left more
