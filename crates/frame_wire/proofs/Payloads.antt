-- Payloads: the one that a length announces, and those of no frame.
use Rattle.std.proofs.Common.{◌≡◌, ℕ, zero, suc, ◌+◌, ◌<◌, ◌≤◌, List, [], ◌∷◌, ◌++◌, length, take, drop, get_or, Result, Ok, Err, refl, sym, ap, ◌∙◌, append_assoc, arith}
use Rattle.std.specs.Int.{w64, from_be_bytes}
use Rattle.std.proofs.lemmas.List.{append-nil, take-append-drop, drop-drop, length-take}
use Rattle.std.proofs.lemmas.Nat.{be_bytes_8}
use Rattle.canon_bytes.specs.meaning.Numbers.{spell_u64}
use Rattle.canon_bytes.specs.meaning.TextBytes.{spell_bytes}
use Rattle.canon_bytes.specs.declared.fault.Fault.{Fault}

abbrev AreBytes : List ℕ → Type 0
AreBytes bytes = (i : ℕ) → get_or bytes i 0 < 256

bytes_take : (n : ℕ) (bytes : List ℕ) → AreBytes bytes → AreBytes (take n bytes)
bytes_take zero bytes are i = omega arith
bytes_take (suc n) [] are i = omega arith
bytes_take (suc n) (b ∷ bytes) are zero = are 0
bytes_take (suc n) (b ∷ bytes) are (suc i) = bytes_take n bytes (λ k. are (suc k)) i

-- the eight bytes that a number was read from are its spelling
length_spelled : (bytes : List ℕ) → AreBytes bytes → 8 ≤ length bytes → spell_u64 (from_be_bytes w64 (take 8 bytes)) ≡ take 8 bytes
unfolding spell_u64
length_spelled bytes are long = be_bytes_8 (take 8 bytes) (from_be_bytes w64 (take 8 bytes)) (omega (arith, length-take 8 bytes, long)) (bytes_take 8 bytes are) refl

-- bytes that begin with a length and that many bytes begin with the spelling of these bytes
pub payload_stands : (bytes : List ℕ) (n : ℕ) → AreBytes bytes → 8 ≤ length bytes → n ≡ from_be_bytes w64 (take 8 bytes) → n ≤ length (drop 8 bytes)
    → bytes ≡ spell_bytes (take n (drop 8 bytes)) ++ drop (8 + length (take n (drop 8 bytes))) bytes
unfolding spell_bytes
payload_stands bytes n are long is whole =
    let len : length (take n (drop 8 bytes)) ≡ n = omega (arith, length-take n (drop 8 bytes), whole) in
    let front : spell_u64 n ≡ take 8 bytes = ap spell_u64 is ∙ length_spelled bytes are long in
    let regrouped : (take 8 bytes ++ take n (drop 8 bytes)) ++ drop n (drop 8 bytes) ≡ bytes =
    append_assoc (take 8 bytes) (take n (drop 8 bytes)) (drop n (drop 8 bytes))
    ∙ ap (λ (r : List ℕ). take 8 bytes ++ r) (take-append-drop n (drop 8 bytes)) ∙ take-append-drop 8 bytes in
    rw (len, front, ← drop-drop) (sym regrouped)

module _ {F : Type 0} (spell : F → List ℕ) (fits : F → Type 0) (read : List ℕ → Result (F × List ℕ) Fault) (again : (f : F) (rest : List ℕ) → fits f → read (spell f ++ rest) ≡ Ok (f, rest)) where
  -- the payload of a frame is read whole
  pub read_whole : (payload : List ℕ) (f : F) → fits f → spell f ≡ payload → read payload ≡ Ok (f, [])
  read_whole payload f fit e = ap read (sym e ∙ sym (append-nil (spell f))) ∙ again f [] fit

  -- what is not read is that of no frame
  pub none_behind_fault : (payload : List ℕ) (fault : Fault) (f : F) → read payload ≡ Err fault → fits f → spell f ≡ payload → ⊥
  none_behind_fault payload fault f is fit e = let whole = read_whole payload f fit e in cc

  -- and where bytes are left behind it
  pub none_before_rest : (payload rest : List ℕ) (x f : F) → read payload ≡ Ok (x, rest) → (rest ≡ [] → ⊥) → fits f → spell f ≡ payload → ⊥
  none_before_rest payload rest x f is some fit e =
      let ok : F × List ℕ → Result (F × List ℕ) Fault = λ p. Ok p in
      let both : ok (x, rest) ≡ ok (f, []) = sym is ∙ read_whole payload f fit e in
      let pairs : ◌≡◌ {A = F × List ℕ} (x, rest) (f, []) = cc in
      some (ap (λ (p : F × List ℕ). p.1) pairs)
