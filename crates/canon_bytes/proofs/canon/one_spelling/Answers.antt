use Rattle.std.proofs.Common.{◌≡◌, ℕ, List, ◌++◌, Result, Ok, sym, ap, ◌∙◌}
use Rattle.canon_bytes.specs.declared.fault.Fault.{Fault}
use Rattle.canon_bytes.proofs.canon.one_spelling.Goals as goal

-- what reads its own spellings has one spelling for each value
one_reading : {X : Type 0} (spell : X → List ℕ) (fits : X → Type 0) (read : List ℕ → Result (X × List ℕ) Fault) → ((x : X) (rest : List ℕ) → fits x → read (spell x ++ rest) ≡ Ok (x, rest))
    → (a b : X) (x y : List ℕ) → fits a → fits b → spell a ++ x ≡ spell b ++ y → (a ≡ b) × (x ≡ y)
one_reading {X} spell fits read again a b x y fa fb e =
    let ok : X × List ℕ → Result (X × List ℕ) Fault = λ p. Ok p in
    let both : ok (a, x) ≡ ok (b, y) = sym (again a x fa) ∙ ap read e ∙ again b y fb in
    let pairs : ◌≡◌ {A = X × List ℕ} (a, x) (b, y) = cc in
    (ap (λ (p : X × List ℕ). p.0) pairs, ap (λ (p : X × List ℕ). p.1) pairs)

pub returns-clause-apart : goal.returns-clause-apart
returns-clause-apart g c = one_reading g.T.Take.spelling g.T.Take.fits g.T.Take.reading g.met.T.Take.again
