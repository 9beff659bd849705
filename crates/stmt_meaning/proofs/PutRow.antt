-- A row is put in at the first place that it comes before.
use Rattle.std.proofs.Common.{◌≡◌, ℕ, ◌+◌, ◌≤◌, suc, Bool, true, false, cond, List, [], ◌∷◌, length, refl, ap, arith, not, nat_lt}
use Rattle.std.proofs.lemmas.List.Sums.{prefix_len-le-length}
use Rattle.std.proofs.lemmas.Bool.{ltb-false}
use Rattle.std.specs.Prelude.{Some, None, position, unwrap_or, insert}
use Rattle.std.specs.List.{position_or_len}
use Rattle.svc_values.specs.declared.tables.PlainRow.{PlainRow}
use Rattle.svc_values.specs.meaning.Tables.{put_row, comes_before}

put_at : (row first : PlainRow) (rest : List PlainRow) (b : Bool) → comes_before row first ≡ b → put_row row rest ≡ insert rest (position_or_len (λ other. comes_before row other) rest) row
    → put_row row (first ∷ rest) ≡ insert (first ∷ rest) (position_or_len (λ other. comes_before row other) (first ∷ rest)) row
put_at row first rest true e ih = rw e refl
put_at row first rest false e ih =
    let n = position_or_len (λ other. comes_before row other) rest in
    let next : 1 + n ≡ suc n = omega arith in
    rw (e, next) (ap (λ l. first ∷ l) ih)

-- a row is put in at the first place that it comes before
pub put_row-insert : (row : PlainRow) (rows : List PlainRow) → put_row row rows ≡ insert rows (position_or_len (λ other. comes_before row other) rows) row
put_row-insert row [] = refl
put_row-insert row (first ∷ rest) = put_at row first rest (comes_before row first) refl (put_row-insert row rest)

-- and that place is at most the end
pub place_within : (row : PlainRow) (rows : List PlainRow) → position_or_len (λ other. comes_before row other) rows ≤ length rows
place_within row rows = prefix_len-le-length (λ other. not (comes_before row other)) rows

place_at : (n len : ℕ) → n ≤ len → (b : Bool) → nat_lt n len ≡ b → unwrap_or (cond b (Some n) None) len ≡ n
place_at n len le true e = refl
place_at n len le false e = let ge : len ≤ n = ltb-false n len e in omega arith

-- where the position is none, it is the end
pub place_is : (row : PlainRow) (rows : List PlainRow) → unwrap_or (position (λ other. comes_before row other) rows) (length rows) ≡ position_or_len (λ other. comes_before row other) rows
place_is row rows =
    let n = position_or_len (λ other. comes_before row other) rows in
    place_at n (length rows) (place_within row rows) (nat_lt n (length rows)) refl
