-- Bytes that move in two steps.
use Rattle.std.proofs.Common.{◌≡◌, ℕ, ◌+◌, ◌-◌, ◌≤◌, List, ◌++◌, length, take, drop, Result, Ok, Err, OnErr, subst, sym, ap, ◌∙◌, arith, length-take, length-drop, ap₂, take-append-drop, drop-drop}
use Rattle.std.proofs.lemmas.Grind.{common_steps}
use Rattle.std.proofs.Math.Seq.{take-add, take-append_seam}
use Rattle.std.specs.declared.option.Option.{Option}
use Rattle.std.specs.Io.KnownBytes.{Appends, Consumes}
use Rattle.std.proofs.KnownBytes.{Appends-trans, Consumes-trans}
use Rattle.byte_streams.specs.Causes.{AppendsFront, ConsumesSome}

-- a fact that holds at any rate
pub OnErr-always : {T E : Type 0} (r : Result T E) (P : Type 0) → P → OnErr r P
OnErr-always (Ok x) P p = tt
OnErr-always (Err e) P p = p

rest_of : (text : List ℕ) (i : ℕ) → take (length text - i) (drop i text) ≡ drop i text
rest_of text i = grind (arith, common_steps)

-- the front grows by the next piece
pub Appends-more : (a b c : Option (List ℕ)) (text : List ℕ) (i n : ℕ) → Appends a b (take i text) → Appends b c (take n (take (length text - i) (drop i text))) → Appends a c (take (i + n) text)
Appends-more a b c text i n p q = subst (Appends a c) (sym (take-add i n text)) (Appends-trans a b c _ _ p (subst (λ s. Appends b c (take n s)) (rest_of text i) q))

pub AppendsFront-after : (a b c : Option (List ℕ)) (text : List ℕ) (i : ℕ) → Appends a b (take i text) → AppendsFront b c (take (length text - i) (drop i text)) → AppendsFront a c text
AppendsFront-after a b c text i p q = (i + q.0, Appends-more a b c text i q.0 p q.1)

pub front_within : (text : List ℕ) (i n : ℕ) → i ≤ length text → n ≤ length (take (length text - i) (drop i text)) → i + n ≤ length text
front_within text i n h k = omega (arith, length-take (length text - i) (drop i text), length-drop i text)

pub ConsumesSome-after : (a b c : Option (List ℕ)) (bs : List ℕ) → Consumes a b bs → ConsumesSome b c → ConsumesSome a c
ConsumesSome-after a b c bs p q = (bs ++ q.0, Consumes-trans a b c bs q.0 p q.1)

-- what was copied is the front of what was left
pub copied : (xs piece rest : List ℕ) (at n : ℕ) → piece ≡ take (at + n - at) (drop at xs) → length piece ≡ n → drop at xs ≡ take n (piece ++ rest) ++ drop (at + n) xs
copied xs piece rest at n e len =
    let same : at + n - at ≡ n = omega arith in
    let front : take n (piece ++ rest) ≡ take n (drop at xs) = ap (λ k. take k (piece ++ rest)) (sym len) ∙ take-append_seam piece rest ∙ e ∙ ap (λ k. take k (drop at xs)) (same) in
    sym (ap₂ (λ a b. a ++ b) front (sym (drop-drop n at xs)) ∙ take-append-drop n (drop at xs))
