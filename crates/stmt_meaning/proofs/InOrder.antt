-- Rows that are sorted stand xs they do when each is put in at its place.
use Rattle.std.proofs.Common.{◌≡◌, ℕ, ◌<◌, ◌≤◌, suc, Bool, true, false, not, List, [], ◌∷◌, ◌++◌, length, get_or, filter, refl, sym, ap, ◌∙◌, subst, arith, append-nil}
use Rattle.std.specs.Prelude.{◌&&◌, reverse}
use Rattle.std.specs.Cmp.{IsTotalOrder, IsStrictWeakOrder, on_total}
use Rattle.std.specs.Cmp.Lexicographic.{slice_cmp, on_texts}
use Rattle.std.specs.List.Sorted.{IsSortedBy, IsStableBy, ties}
use Rattle.std.specs.Ordering.{nat_cmp, is_lt, match_ordering, ordering_then}
use Rattle.std.specs.declared.cmp.Ordering.{Ordering}
use Rattle.std.specs.declared.cmp.Ordering.TheVariants.{Less, Equal, Greater}
use Rattle.std.proofs.lemmas.Cmp.{then_total}
use Rattle.std.proofs.lemmas.List.{reverse-append}
use Rattle.std.proofs.lemmas.List.Elements.{filter-append}
use Rattle.std.proofs.lemmas.List.Sorted.{ranks_by, sorted_far}
use Rattle.svc_values.specs.meaning.Order.{value_cmp}
use Rattle.svc_values.proofs.Offered.{value_cmp_total}
use Rattle.svc_values.specs.declared.tables.PlainRow.{PlainRow}
use Rattle.svc_values.specs.meaning.Tables.{comes_before, put_row, in_order}
use Rattle.svc_values.specs.Tables.{row_cmp}

row_cmp_total : IsTotalOrder row_cmp
row_cmp_total = then_total (on_texts (λ (row : PlainRow). row.table)) (on_total (λ (row : PlainRow). row.key) value_cmp_total)

pub row_cmp_weak : IsStrictWeakOrder (λ a b. is_lt (row_cmp a b))
row_cmp_weak = ranks_by row_cmp_total (λ (x : PlainRow). x)

before_by : (t k : Ordering) → match_ordering t true (match_ordering k true false false) false ≡ is_lt (ordering_then t k)
before_by Less k = refl
before_by Equal Less = refl
before_by Equal Equal = refl
before_by Equal Greater = refl
before_by Greater k = refl

never : (b : Bool) → (b ≡ true → b ≡ false) → b ≡ false
never true h = h refl
never false h = refl

must : (b c : Bool) → (b ≡ false → c ≡ false) → c ≡ true → b ≡ true
must true c h e = refl
must false c h e = sym (h refl) ∙ e

pass : (p : PlainRow → Bool) (row : PlainRow) (rows : List PlainRow) → p row ≡ true → filter p (row ∷ rows) ≡ row ∷ filter p rows
pass p row rows e = rw e refl

skip : (p : PlainRow → Bool) (row : PlainRow) (rows : List PlainRow) → p row ≡ false → filter p (row ∷ rows) ≡ filter p rows
skip p row rows e = rw e refl

neither : (a b : Bool) → a ≡ false → b ≡ false → (not a && not b) ≡ true
neither false false e f = refl
neither false true e f = cc
neither true b e f = cc

ahead_apart : (a b : Bool) → a ≡ true → (not a && not b) ≡ false
ahead_apart true b e = refl
ahead_apart false b e = cc

behind_too : (a b : Bool) → (not a && not b) ≡ true → b ≡ false
behind_too true b e = cc
behind_too false true e = cc
behind_too false false e = refl

first_same : (a b : PlainRow) (xs ys : List PlainRow) → a ∷ xs ≡ b ∷ ys → a ≡ b
first_same a b xs ys e = cc

rest_same : (a b : PlainRow) (xs ys : List PlainRow) → a ∷ xs ≡ b ∷ ys → xs ≡ ys
rest_same a b xs ys e = cc

not_empty : (a : PlainRow) (xs : List PlainRow) → [] ≡ a ∷ xs → ⊥
not_empty a xs e = cc

module _ (less : PlainRow → PlainRow → Bool) (weak : IsStrictWeakOrder less) where
  own : (a : PlainRow) → less a a ≡ false
  own a = never (less a a) (weak.one_way a a)

  -- no row of these is less than the first
  abbrev NoneLess : PlainRow → List PlainRow → Type 0
  NoneLess a [] = Unit {0}
  NoneLess a (b ∷ rest) = (less b a ≡ false) × NoneLess a rest

  abbrev AreSorted : List PlainRow → Type 0
  AreSorted [] = Unit {0}
  AreSorted (a ∷ rest) = NoneLess a rest × AreSorted rest

  none_less : (a : PlainRow) (rest : List PlainRow) → ((k : ℕ) → k < length rest → less (get_or rest k a) a ≡ false) → NoneLess a rest
  none_less a [] h = tt
  none_less a (b ∷ rest) h = (h 0 (omega arith), none_less a rest (λ k lt. h (suc k) (omega arith)))

  are_sorted : (rows : List PlainRow) → ((i j : ℕ) (d : PlainRow) → i ≤ j → j < length rows → less (get_or rows j d) (get_or rows i d) ≡ false) → AreSorted rows
  are_sorted [] h = tt
  are_sorted (a ∷ rest) h =
      (none_less a rest (λ k lt. h 0 (suc k) a (omega arith) (omega arith)), are_sorted rest (λ i j d le lt. h (suc i) (suc j) d (omega arith) (omega arith)))

  none_less-trans : (a b : PlainRow) (rest : List PlainRow) → less b a ≡ false → NoneLess b rest → NoneLess a rest
  none_less-trans a b [] h all = tt
  none_less-trans a b (c ∷ rest) h all = (weak.chain c b a all.0 h, none_less-trans a b rest h all.1)

  abbrev tied : PlainRow → PlainRow → Bool
  tied = ties less

  -- a row that a filter lets through is not less than what none is less than
  let_through : (p : PlainRow → Bool) (a first : PlainRow) (rows more : List PlainRow) → NoneLess a rows → filter p rows ≡ first ∷ more → less first a ≡ false
  let_through p a first [] more all e = absurd (not_empty first more e)
  let_through p a first (row ∷ rows) more all e = by (let_through p a first rows more all.1) (p row) refl
    where
      by : (filter p rows ≡ first ∷ more → less first a ≡ false) → (b : Bool) → p row ≡ b → less first a ≡ false
      by later true f = subst (λ (r : PlainRow). less r a ≡ false) (first_same row first (filter p rows) more (sym (pass p row rows f) ∙ e)) all.0
      by later false f = later (sym (skip p row rows f) ∙ e)

  tied_own : (a : PlainRow) → tied a a ≡ true
  tied_own a = neither (less a a) (less a a) (own a) (own a)

  -- sorted rows are told by which of them tie
  sorted_once : (xs ys : List PlainRow) → AreSorted xs → AreSorted ys → ((x : PlainRow) → filter (tied x) xs ≡ filter (tied x) ys) → xs ≡ ys
  sorted_once [] [] up down same = refl
  sorted_once [] (b ∷ ys) up down same = absurd (not_empty b (filter (tied b) ys) (same b ∙ pass (tied b) b ys (tied_own b)))
  sorted_once (a ∷ xs) [] up down same = absurd (not_empty a (filter (tied a) xs) (sym (same a) ∙ pass (tied a) a xs (tied_own a)))
  sorted_once (a ∷ xs) (b ∷ ys) up down same =
      let own_a : filter (tied a) (a ∷ xs) ≡ a ∷ filter (tied a) xs = pass (tied a) a xs (tied_own a) in
      let own_b : filter (tied b) (b ∷ ys) ≡ b ∷ filter (tied b) ys = pass (tied b) b ys (tied_own b) in
      let not_below : less a b ≡ false = let_through (tied a) b a (b ∷ ys) (filter (tied a) xs) (own b, down.0) (sym (same a) ∙ own_a) in
      let not_above : less b a ≡ false = let_through (tied b) a b (a ∷ xs) (filter (tied b) ys) (own a, up.0) (same b ∙ own_b) in
      let first : a ≡ b = first_same a b (filter (tied a) xs) (filter (tied a) ys) (sym own_a ∙ same a ∙ pass (tied a) b ys (neither (less a b) (less b a) not_below not_above)) in
      let rest : xs ≡ ys = sorted_once xs ys up.1 down.1 (λ x. behind x first (tied x a) refl) in
      ap (λ r. r ∷ xs) first ∙ ap (λ l. b ∷ l) rest
    where
      behind : (x : PlainRow) → a ≡ b → (t : Bool) → tied x a ≡ t → filter (tied x) xs ≡ filter (tied x) ys
      behind x first true e =
          rest_same a b (filter (tied x) xs) (filter (tied x) ys) (sym (pass (tied x) a xs e) ∙ same x ∙ pass (tied x) b ys (sym (ap (tied x) first) ∙ e))
      behind x first false e = sym (skip (tied x) a xs e) ∙ same x ∙ skip (tied x) b ys (sym (ap (tied x) first) ∙ e)

  module _ (before_is : (a b : PlainRow) → comes_before a b ≡ less a b) where
    -- ---- rows that are put in at their places are sorted

    put_keeps : (a row : PlainRow) (rows : List PlainRow) → less row a ≡ false → NoneLess a rows → NoneLess a (put_row row rows)
    put_keeps a row [] h all = (h, tt)
    put_keeps a row (first ∷ rest) h all = by (put_keeps a row rest h all.1) (comes_before row first) refl
      where
        by : NoneLess a (put_row row rest) → (b : Bool) → comes_before row first ≡ b → NoneLess a (put_row row (first ∷ rest))
        by later true e = rw e (h, all)
        by later false e = rw e (all.0, later)

    put_sorted : (row : PlainRow) (rows : List PlainRow) → AreSorted rows → AreSorted (put_row row rows)
    put_sorted row [] sorted = (tt, tt)
    put_sorted row (first ∷ rest) sorted = by (put_sorted row rest sorted.1) (comes_before row first) refl
      where
        by : AreSorted (put_row row rest) → (b : Bool) → comes_before row first ≡ b → AreSorted (put_row row (first ∷ rest))
        by later true e =
            let behind : less first row ≡ false = weak.one_way row first (sym (before_is row first) ∙ e) in
            rw e ((behind, none_less-trans row first rest behind sorted.0), sorted)
        by later false e = rw e (put_keeps first row rest (sym (before_is row first) ∙ e) sorted.0, later)

    in_order_sorted : (rows : List PlainRow) → AreSorted (in_order rows)
    in_order_sorted [] = tt
    in_order_sorted (row ∷ rest) = put_sorted row (in_order rest) (in_order_sorted rest)

    -- ---- and of those that tie the last stands first

    -- a row that ties with a lesser one ties with none of these
    none_tied : (x row first : PlainRow) (rows : List PlainRow) → less row x ≡ false → less row first ≡ true → NoneLess first rows → filter (tied x) rows ≡ []
    none_tied x row first [] h lesser all = refl
    none_tied x row first (b ∷ rest) h lesser all =
        let ahead : less x b ≡ true = must (less x b) (less row first) (λ e. weak.chain row x first h (weak.chain x b first e all.0)) lesser in
        skip (tied x) b rest (ahead_apart (less x b) (less b x) ahead) ∙ none_tied x row first rest h lesser all.1

    put_ties : (x row : PlainRow) (rows : List PlainRow) → AreSorted rows → filter (tied x) (put_row row rows) ≡ filter (tied x) rows ++ filter (tied x) (row ∷ [])
    put_ties x row [] sorted = refl
    put_ties x row (first ∷ rest) sorted = by (put_ties x row rest sorted.1) (comes_before row first) refl (tied x row) refl (tied x first) refl
      where
        by : filter (tied x) (put_row row rest) ≡ filter (tied x) rest ++ filter (tied x) (row ∷ []) → (b : Bool) → comes_before row first ≡ b → (t : Bool) → tied x row ≡ t → (u : Bool) → tied x first ≡ u → filter (tied x) (put_row row (first ∷ rest)) ≡ filter (tied x) (first ∷ rest) ++ filter (tied x) (row ∷ [])
        by later true e true t u f =
            let put : put_row row (first ∷ rest) ≡ row ∷ first ∷ rest = rw e refl in
            let none : filter (tied x) (first ∷ rest) ≡ [] = none_tied x row first (first ∷ rest) (behind_too (less x row) (less row x) t) (sym (before_is row first) ∙ e) (own first, sorted.0) in
            ap (filter (tied x)) put ∙ pass (tied x) row (first ∷ rest) t ∙ ap (λ l. row ∷ l) none
            ∙ sym (ap (λ l. l ++ filter (tied x) (row ∷ [])) none ∙ pass (tied x) row [] t)
        by later true e false t u f =
            let put : put_row row (first ∷ rest) ≡ row ∷ first ∷ rest = rw e refl in
            ap (filter (tied x)) put ∙ skip (tied x) row (first ∷ rest) t
            ∙ sym (ap (λ l. filter (tied x) (first ∷ rest) ++ l) (skip (tied x) row [] t) ∙ append-nil (filter (tied x) (first ∷ rest)))
        by later false e t g true f =
            let put : put_row row (first ∷ rest) ≡ first ∷ put_row row rest = rw e refl in
            ap (filter (tied x)) put ∙ pass (tied x) first (put_row row rest) f ∙ ap (λ l. first ∷ l) later
            ∙ sym (ap (λ l. l ++ filter (tied x) (row ∷ [])) (pass (tied x) first rest f))
        by later false e t g false f =
            let put : put_row row (first ∷ rest) ≡ first ∷ put_row row rest = rw e refl in
            ap (filter (tied x)) put ∙ skip (tied x) first (put_row row rest) f ∙ later
            ∙ sym (ap (λ l. l ++ filter (tied x) (row ∷ [])) (skip (tied x) first rest f))

    in_order_ties : (x : PlainRow) (rows : List PlainRow) → filter (tied x) (in_order rows) ≡ filter (tied x) (reverse rows)
    in_order_ties x [] = refl
    in_order_ties x (row ∷ rest) =
        put_ties x row (in_order rest) (in_order_sorted rest) ∙ ap (λ l. l ++ filter (tied x) (row ∷ [])) (in_order_ties x rest)
        ∙ sym (ap (filter (tied x)) (reverse-append (row ∷ []) rest) ∙ filter-append (tied x) (reverse rest) (row ∷ []))

    -- a stable sort of the rows turned about
    sorts : (rows sorted : List PlainRow) → IsSortedBy less sorted → IsStableBy less (reverse rows) sorted → sorted ≡ in_order rows
    sorts rows sorted up stable =
        sorted_once sorted (in_order rows) (are_sorted sorted (sorted_far less weak sorted up)) (in_order_sorted rows) (λ x. stable x ∙ sym (in_order_ties x rows))

pub sorted_in_order : (rows sorted : List PlainRow) → IsSortedBy (λ a b. is_lt (row_cmp a b)) sorted → IsStableBy (λ a b. is_lt (row_cmp a b)) (reverse rows) sorted → sorted ≡ in_order rows
sorted_in_order = sorts (λ a b. is_lt (row_cmp a b)) row_cmp_weak (λ a b. before_by (slice_cmp nat_cmp a.table b.table) (value_cmp a.key b.key))
