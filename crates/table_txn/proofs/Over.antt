-- Committed rows with writes over them, at one key and over a whole table.
use Rattle.std.proofs.Common.{◌≡◌, ◌⊎◌, inl, inr, ℕ, zero, suc, ◌<◌, Bool, true, false, cond, List, [], ◌∷◌, ◌++◌, length, refl, sym, ap, ◌∙◌, subst, append_assoc, append-nil, arith}
use Rattle.std.specs.Prelude.{Option, Some, None, map, slice_get, option_and_then}
use Rattle.std.proofs.lemmas.Bool.{cases_Bool}
use Rattle.std.proofs.lemmas.List.{length_push}
use Rattle.svc_values.specs.declared.value.Value.{Value}
use Rattle.svc_values.specs.declared.entry.Write.{Write}
use Rattle.svc_values.specs.declared.tables.PlainRow.{PlainRow}
use Rattle.svc_values.specs.declared.tables.Place.TheVariants as place
use Rattle.svc_values.specs.meaning.Tables.{is_at, rows_at, with_write, with_writes}
use Rattle.stmt_meaning.specs.meaning.Effects.{first_of}
use Rattle.stmt_meaning.specs.meaning.Meaning.{seen_at}
use Rattle.table_store.specs.Rows.{row_if_any}
use Rattle.table_store.specs.Shelves.{is_place}
use Rattle.table_store.proofs.Offered.{at_place, own_place, filter_with_write, with_writes-last}
use Rattle.table_txn.specs.declared.found.Committed.{Committed}
use Rattle.table_txn.specs.declared.found.Committed.TheVariants as committed
use Rattle.table_txn.specs.Found.{row_in, IsFoundIfAny}
use Rattle.table_txn.specs.Own.{last_at, last_write, row_over}
use Rattle.table_txn.proofs.OwnLaws.{last_at-push, place_is, own_place as is_own, at_end}

-- what holds of no write, and of one more, holds of all
pub each_more : (P : List Write → Type 0) → P [] → ((writes : List Write) (write : Write) → P writes → P (writes ++ write ∷ [])) → (writes : List Write) → P writes
each_more P none step writes = go [] none writes
  where
    go : (done : List Write) → P done → (left : List Write) → P (done ++ left)
    go done so_far [] = subst P (sym (append-nil done)) so_far
    go done so_far (write ∷ left) = subst P (append_assoc done (write ∷ []) left) (go (done ++ write ∷ []) (step done write so_far) left)

some_inj : {A : Type 0} (a b : A) → ◌≡◌ {A = Option A} (Some a) (Some b) → a ≡ b
some_inj a b e = cc

-- the place of a write is one of the writes
pub last_within : (table : List ℕ) (key : Value) (writes : List Write) (at : ℕ) → last_at writes table key ≡ Some at → at < length writes
last_within table key = each_more (λ writes. (at : ℕ) → last_at writes table key ≡ Some at → at < length writes) (λ at e. cc) step
  where
    by_place : (writes : List Write) (write : Write) (b : Bool) → ((at : ℕ) → last_at writes table key ≡ Some at → at < length writes) → (at : ℕ) → cond b (Some (length writes)) (last_at writes table key) ≡ Some at → at < length (writes ++ write ∷ [])
    by_place writes write true before at e = let n = length_push writes write in let same : length writes ≡ at = some_inj (length writes) at e in omega arith
    by_place writes write false before at e = let n = length_push writes write in let lt = before at e in omega arith

    step : (writes : List Write) (write : Write) → ((at : ℕ) → last_at writes table key ≡ Some at → at < length writes) → (at : ℕ) → last_at (writes ++ write ∷ []) table key ≡ Some at → at < length (writes ++ write ∷ [])
    step writes write before at e = by_place writes write (is_place write.table write.key table key) before at (sym (last_at-push writes write table key) ∙ e)

get_left : {A : Type 0} (xs ys : List A) (i : ℕ) → i < length xs → slice_get (xs ++ ys) i ≡ slice_get xs i
get_left [] ys i lt = absurd (omega arith)
get_left (x ∷ xs) ys zero lt = refl
get_left (x ∷ xs) ys (suc i) lt = get_left xs ys i (omega arith)

-- the last write, with one more behind
last_write-push : (writes : List Write) (write : Write) (table : List ℕ) (key : Value) → last_write (writes ++ write ∷ []) table key ≡ cond (is_place write.table write.key table key) (Some write) (last_write writes table key)
last_write-push writes write table key = ap (option_and_then (slice_get (writes ++ write ∷ []))) (last_at-push writes write table key) ∙ by_place (is_place write.table write.key table key)
  where
    before : (o : Option ℕ) → last_at writes table key ≡ o → option_and_then (slice_get (writes ++ write ∷ [])) o ≡ option_and_then (slice_get writes) o
    before None e = refl
    before (Some at) e = get_left writes (write ∷ []) at (last_within table key writes at e)

    by_place : (b : Bool) → option_and_then (slice_get (writes ++ write ∷ [])) (cond b (Some (length writes)) (last_at writes table key)) ≡ cond b (Some write) (last_write writes table key)
    by_place true = at_end writes write
    by_place false = before (last_at writes table key) refl

-- ---- one key

module _ (rows : List PlainRow) (table : List ℕ) (key : Value) where
  abbrev pub stands : Option Write → List PlainRow
  stands None = rows_at rows (place.Row table key)
  stands (Some write) = row_if_any table key write.row

  apart : (write : Write) → is_place write.table write.key table key ≡ false → (r : PlainRow) → is_at (place.Row write.table write.key) r ≡ true → is_at (place.Row table key) r ≡ false
  apart write away r here = by_place (cases_Bool (is_at (place.Row table key) r))
    where
      by_place : (is_at (place.Row table key) r ≡ true) ⊎ (is_at (place.Row table key) r ≡ false) → is_at (place.Row table key) r ≡ false
      by_place (inl there) =
          let one = at_place write.table write.key r here in
          let two = at_place table key r there in
          let tables : write.table ≡ table = sym one.0 ∙ two.0 in
          let keys : write.key ≡ key = sym one.1 ∙ two.1 in
          let own : is_place write.table write.key table key ≡ true = subst (λ (t : List ℕ). is_place write.table write.key t key ≡ true) tables (subst (λ (k : Value). is_place write.table write.key write.table k ≡ true) keys (is_own write.table write.key)) in
          let never : true ≡ false = sym own ∙ away in cc
      by_place (inr other) = other

  one_more : (before : List PlainRow) (write : Write) (b : Bool) (last : Option Write) → is_place write.table write.key table key ≡ b → rows_at before (place.Row table key) ≡ stands last
      → rows_at (with_write before write) (place.Row table key) ≡ stands (cond b (Some write) last)
  one_more before write true last here so_far =
      let same = place_is write.table write.key table key here in
      subst (λ (t : List ℕ). rows_at (with_write before write) (place.Row t key) ≡ row_if_any t key write.row) same.0
      (subst (λ (k : Value). rows_at (with_write before write) (place.Row write.table k) ≡ row_if_any write.table k write.row) same.1 (own_place before write.table write.key write.row))
  one_more before write false last away so_far = filter_with_write (is_at (place.Row table key)) before write.table write.key write.row (apart write away) ∙ so_far

  -- what stands at a key under writes is the last write's row, or the committed one
  pub over_row : (writes : List Write) → rows_at (with_writes rows writes) (place.Row table key) ≡ stands (last_write writes table key)
  over_row = each_more (λ writes. rows_at (with_writes rows writes) (place.Row table key) ≡ stands (last_write writes table key)) refl step
    where
      step : (writes : List Write) (write : Write) → rows_at (with_writes rows writes) (place.Row table key) ≡ stands (last_write writes table key) → rows_at (with_writes rows (writes ++ write ∷ [])) (place.Row table key) ≡ stands (last_write (writes ++ write ∷ []) table key)
      step writes write so_far =
          ap (λ l. rows_at l (place.Row table key)) (with_writes-last rows writes write)
          ∙ one_more (with_writes rows writes) write (is_place write.table write.key table key) (last_write writes table key) refl so_far
          ∙ ap stands (sym (last_write-push writes write table key))

first_if_any : (table : List ℕ) (key : Value) (row : Option (List Value)) → row ≡ first_of (map (λ one. one.row) (row_if_any table key row))
first_if_any table key None = refl
first_if_any table key (Some row) = refl

-- the row that a transaction sees at a key: that of its last write, or the committed one
pub row_seen : (rows : List PlainRow) (table : List ℕ) (key : Value) (writes : List Write) (row : Option (List Value)) → rows_at rows (place.Row table key) ≡ row_if_any table key row
    → row_over (last_write writes table key) row ≡ first_of (seen_at (with_writes rows writes) (Some (place.Row table key)))
row_seen rows table key writes row there = by_write (last_write writes table key) refl
  where
    by_write : (last : Option Write) → last_write writes table key ≡ last → row_over last row ≡ first_of (seen_at (with_writes rows writes) (Some (place.Row table key)))
    by_write None is = first_if_any table key row ∙ ap (λ l. first_of (map (λ one. one.row) l)) (sym there ∙ ap (stands rows table key) (sym is) ∙ sym (over_row rows table key writes))
    by_write (Some write) is = first_if_any table key write.row ∙ ap (λ l. first_of (map (λ one. one.row) l)) (ap (stands rows table key) (sym is) ∙ sym (over_row rows table key writes))

-- what is committed at the place of a row is its row
pub row_found : (rows : List PlainRow) (table : List ℕ) (key : Value) (what : Option Committed) → IsFoundIfAny rows (Some (place.Row table key)) what → rows_at rows (place.Row table key) ≡ row_if_any table key (row_in what)
row_found rows table key None is = absurd is
row_found rows table key (Some (committed.Row row)) is = is.stands
row_found rows table key (Some (committed.Table held)) is = absurd (let clash : false ≡ true = is.kind in cc)
