-- Rows are in order where each comes before the next.
use Rattle.std.proofs.Common.{◌≡◌, ℕ, ◌+◌, ◌<◌, ◌≤◌, Bool, true, false, List, [], ◌∷◌, length, take, drop, get_or, refl, sym, ap, ◌∙◌, ◌-◌, arith}
use Rattle.std.specs.Prelude.{◌&&◌, ◌↔◌}
use Rattle.std.proofs.lemmas.List.{drop_more, take_all}
use Rattle.std.proofs.Math.ListN.{drop_of_length-le}
use Rattle.svc_values.specs.declared.tables.PlainRow.{PlainRow}
use Rattle.svc_values.specs.meaning.Tables.{comes_before}
use Rattle.svc_values.specs.Tables.{AreTables}
use Rattle.svc_values.proofs.Offered.{ComesFirst-trans}
use Rattle.stmt_meaning.proofs.PlanFits.{both, and-true}

abbrev pub are_ordered : List PlainRow → Bool
are_ordered [] = true
are_ordered (row ∷ []) = true
are_ordered (row ∷ next ∷ rest) = comes_before row next && are_ordered (next ∷ rest)

pub AreTables-ordered : (rows : List PlainRow) → are_ordered rows ≡ true → AreTables rows
AreTables-ordered [] h = tt
AreTables-ordered (row ∷ []) h = (tt, tt)
AreTables-ordered (row ∷ next ∷ rest) h =
    let p = both (comes_before row next) (are_ordered (next ∷ rest)) h in
    let more = AreTables-ordered (next ∷ rest) p.1 in
    ((p.0, ComesFirst-trans row next rest p.0 more.0), more)

pub are_ordered-AreTables : (rows : List PlainRow) → AreTables rows → are_ordered rows ≡ true
are_ordered-AreTables [] h = refl
are_ordered-AreTables (row ∷ []) h = refl
are_ordered-AreTables (row ∷ next ∷ rest) h = and-true (comes_before row next) (are_ordered (next ∷ rest)) h.0.0 (are_ordered-AreTables (next ∷ rest) h.1)

module _ (before row : PlainRow) (rest : List PlainRow) (i : ℕ) (lt : i < length rest) (is : row ≡ get_or rest i row) where
  next_row : are_ordered (before ∷ drop i rest) ≡ comes_before before row && are_ordered (row ∷ drop (i + 1) rest)
  next_row = ap (λ l. are_ordered (before ∷ l)) (drop_more rest i row lt ∙ ap (λ r. r ∷ drop (i + 1) rest) (sym is))

  pub order_goes_on : (whole : Bool) → are_ordered (before ∷ drop i rest) ≡ whole → comes_before before row ≡ true → are_ordered (row ∷ drop (i + 1) rest) ≡ whole
  order_goes_on whole so_far h = sym (ap (λ b. b && are_ordered (row ∷ drop (i + 1) rest)) h) ∙ sym next_row ∙ so_far

  pub order_ends : (whole : Bool) → are_ordered (before ∷ drop i rest) ≡ whole → comes_before before row ≡ false → whole ≡ false
  order_ends whole so_far h = sym so_far ∙ next_row ∙ ap (λ b. b && are_ordered (row ∷ drop (i + 1) rest)) h

pub order_done : (before : PlainRow) (rest : List PlainRow) (i : ℕ) → length rest ≤ i → (whole : Bool) → are_ordered (before ∷ drop i rest) ≡ whole → whole ≡ true
order_done before rest i le whole so_far = sym so_far ∙ ap (λ l. are_ordered (before ∷ l)) (drop_of_length-le rest {i = i} le)

-- a test that is the adjacent one tells whether rows are in order
pub tells_order : (rows : List PlainRow) (b : Bool) → are_ordered rows ≡ b → (b ≡ true) ↔ AreTables rows
tells_order rows b is = (λ h. AreTables-ordered rows (is ∙ h), λ h. sym is ∙ are_ordered-AreTables rows h)

-- the first row and those after it
pub first_and_rest : (rows : List PlainRow) (first : PlainRow) → 1 ≤ length rows → first ≡ get_or rows 0 first → first ∷ take (length rows - 1) (drop 1 rows) ≡ rows
first_and_rest [] first some is = absurd (omega arith)
first_and_rest (row ∷ rows) first some is = ap (λ l. first ∷ l) (take_all (length (row ∷ rows) - 1) rows (omega arith)) ∙ ap (λ r. r ∷ rows) is
