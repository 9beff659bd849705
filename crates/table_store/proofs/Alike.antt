-- Ordered tables with the same rows at each place are the same tables.
use Rattle.std.proofs.Common.{◌≡◌, inl, inr, ℕ, Bool, true, false, cond, List, [], ◌∷◌, refl, sym, ◌∙◌, ap, subst}
use Rattle.std.specs.Prelude.{filter}
use Rattle.std.proofs.lemmas.Bool.{cases_Bool}
use Rattle.svc_values.specs.declared.value.Value.{Value}
use Rattle.svc_values.specs.declared.tables.PlainRow.{PlainRow}
use Rattle.svc_values.specs.declared.tables.Place.{Place}
use Rattle.svc_values.specs.declared.tables.Place.TheVariants as place
use Rattle.svc_values.specs.meaning.Tables.{is_at, rows_at, comes_before}
use Rattle.svc_values.specs.Tables.{ComesFirst, AreTables}
use Rattle.table_store.proofs.Places.{before_one_way, before_not_at, at_own_place}

pub filter_pass : {X : Type 0} (p : X → Bool) (x : X) (xs : List X) → p x ≡ true → filter p (x ∷ xs) ≡ x ∷ filter p xs
filter_pass p x xs h = ap (λ b. cond b (x ∷ filter p xs) (filter p xs)) h

pub filter_skip : {X : Type 0} (p : X → Bool) (x : X) (xs : List X) → p x ≡ false → filter p (x ∷ xs) ≡ filter p xs
filter_skip p x xs h = ap (λ b. cond b (x ∷ filter p xs) (filter p xs)) h

-- no row that comes later stands at the place of the first
pub none_behind : (row : PlainRow) (rest : List PlainRow) → ComesFirst row rest → rows_at rest (place.Row row.table row.key) ≡ []
none_behind row [] first = refl
none_behind row (next ∷ rest) first =
    filter_skip (is_at (place.Row row.table row.key)) next rest (before_not_at row next first.0) ∙ none_behind row rest first.1

pub first_at_place : (row : PlainRow) (rest : List PlainRow) → ComesFirst row rest → rows_at (row ∷ rest) (place.Row row.table row.key) ≡ row ∷ []
first_at_place row rest first =
    filter_pass (is_at (place.Row row.table row.key)) row rest (at_own_place row) ∙ ap (λ l. row ∷ l) (none_behind row rest first)

same_head : (a b : PlainRow) (xs ys : List PlainRow) → a ∷ xs ≡ b ∷ ys → a ≡ b
same_head a b xs ys h = cc

same_tail : (a b : PlainRow) (xs ys : List PlainRow) → a ∷ xs ≡ b ∷ ys → xs ≡ ys
same_tail a b xs ys h = cc

-- a row that is found among later rows comes after the first
found_behind : (first found : PlainRow) (rest more : List PlainRow) (at : Place) → ComesFirst first rest → rows_at rest at ≡ found ∷ more → comes_before first found ≡ true
found_behind first found [] more at before h = cc
found_behind first found (next ∷ rest) more at before h =
    elim (cases_Bool (is_at at next)) [
      | inl here ↦ subst (λ (r : PlainRow). comes_before first r ≡ true) (same_head next found (rows_at rest at) more (sym (filter_pass (is_at at) next rest here) ∙ h)) before.0
      | inr apart ↦ found_behind first found rest more at before.1 (sym (filter_skip (is_at at) next rest apart) ∙ h)
    ]

-- where the first rows differ, each would have to come before the other
module _ (x y : PlainRow) (xs ys : List PlainRow) (first_x : ComesFirst x xs) (first_y : ComesFirst y ys) (same : (table : List ℕ) (key : Value) → rows_at (x ∷ xs) (place.Row table key) ≡ rows_at (y ∷ ys) (place.Row table key)) where
  found_x : rows_at (y ∷ ys) (place.Row x.table x.key) ≡ x ∷ []
  found_x = sym (same x.table x.key) ∙ first_at_place x xs first_x

  found_y : rows_at (x ∷ xs) (place.Row y.table y.key) ≡ y ∷ []
  found_y = same y.table y.key ∙ first_at_place y ys first_y

  same_first : x ≡ y
  same_first =
      elim (cases_Bool (is_at (place.Row x.table x.key) y)) [
        | inl here ↦ sym (same_head y x (rows_at ys (place.Row x.table x.key)) [] (sym (filter_pass (is_at (place.Row x.table x.key)) y ys here) ∙ found_x))
        | inr apart ↦ elim (cases_Bool (is_at (place.Row y.table y.key) x)) [
          | inl there ↦ same_head x y (rows_at xs (place.Row y.table y.key)) [] (sym (filter_pass (is_at (place.Row y.table y.key)) x xs there) ∙ found_y)
          | inr away ↦ absurd (before_one_way y x
              (found_behind y x ys [] (place.Row x.table x.key) first_y (sym (filter_skip (is_at (place.Row x.table x.key)) y ys apart) ∙ found_x))
              (found_behind x y xs [] (place.Row y.table y.key) first_x (sym (filter_skip (is_at (place.Row y.table y.key)) x xs away) ∙ found_y)))
        ]
      ]

  same_rest : (table : List ℕ) (key : Value) → rows_at xs (place.Row table key) ≡ rows_at ys (place.Row table key)
  same_rest table key =
      let at : Place = place.Row table key in
      elim (cases_Bool (is_at at x)) [
        | inl here ↦ same_tail x y (rows_at xs at) (rows_at ys at)
            (sym (filter_pass (is_at at) x xs here) ∙ same table key ∙ filter_pass (is_at at) y ys (subst (λ (r : PlainRow). is_at at r ≡ true) same_first here))
        | inr apart ↦ sym (filter_skip (is_at at) x xs apart) ∙ same table key ∙ filter_skip (is_at at) y ys (subst (λ (r : PlainRow). is_at at r ≡ false) same_first apart)
      ]

pub same_tables : (a b : List PlainRow) → AreTables a → AreTables b → ((table : List ℕ) (key : Value) → rows_at a (place.Row table key) ≡ rows_at b (place.Row table key)) → a ≡ b
same_tables [] [] ordered_a ordered_b same = refl
same_tables [] (y ∷ ys) ordered_a ordered_b same =
    let found : [] ≡ y ∷ [] = same y.table y.key ∙ first_at_place y ys ordered_b.0 in cc
same_tables (x ∷ xs) [] ordered_a ordered_b same =
    let found : [] ≡ x ∷ [] = sym (same x.table x.key) ∙ first_at_place x xs ordered_a.0 in cc
same_tables (x ∷ xs) (y ∷ ys) ordered_a ordered_b same =
    let heads : x ≡ y = same_first x y xs ys ordered_a.0 ordered_b.0 same in
    let tails : xs ≡ ys = same_tables xs ys ordered_a.1 ordered_b.1 (same_rest x y xs ys ordered_a.0 ordered_b.0 same) in
    ap (λ r. r ∷ xs) heads ∙ ap (λ l. y ∷ l) tails
