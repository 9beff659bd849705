-- Places, values and rows that are compared as the same are the same.
use Rattle.std.proofs.Common.{◌≡◌, ℕ, Bool, true, false, List, refl, sym, ap, ◌∙◌}
use Rattle.std.specs.Prelude.{◌&&◌}
use Rattle.std.specs.Bool.{Decides, one_answer}
use Rattle.std.specs.Str.{bytes_eq}
use Rattle.std.specs.Ordering.{is_eq}
use Rattle.std.specs.Cmp.Lexicographic.{pointwise, pointwise_decides}
use Rattle.svc_values.specs.declared.value.Value.{Value}
use Rattle.svc_values.specs.meaning.Same.{same_value, same_row, same_rows}
use Rattle.svc_values.specs.Same.{same_place}
use Rattle.svc_values.specs.SameLaws.{bytes_decide, same_value_decides}
use Rattle.svc_values.specs.Tables.{place_cmp}
use Rattle.svc_values.proofs.Offered.{place_tied}
use Rattle.svc_values.specs.declared.tables.PlainRow.{PlainRow}
use Rattle.svc_values.specs.declared.tables.Place.{Place}
use Rattle.svc_values.specs.declared.tables.Place.TheVariants as place

pub both : (a b : Bool) → (a && b) ≡ true → (a ≡ true) × (b ≡ true)
both true true h = (refl, refl)
both true false h = cc
both false b h = cc

pub both_if : (a b : Bool) → a ≡ true → b ≡ true → (a && b) ≡ true
both_if true true h k = refl
both_if true false h k = k
both_if false b h k = h

rows_alike : (t u : List ℕ) (k l : Value) → t ≡ u → k ≡ l → place.Row t k ≡ place.Row u l
rows_alike t u k l p q = ap (λ x. place.Row x k) p ∙ ap (place.Row u) q

pub same_place_decides : (a b : Place) → Decides (same_place a b) (a ≡ b)
same_place_decides (place.Row t k) (place.Row u l) =
    let d = bytes_decide t u in
    let e = same_value_decides k l in
    (λ h. let p = both (bytes_eq t u) (same_value k l) h in rows_alike t u k l (d.0 p.0) (e.0 p.1), λ h. both_if (bytes_eq t u) (same_value k l) (d.1 (cc)) (e.1 (cc)))
same_place_decides (place.Row t k) (place.Table u) = (λ h. cc, λ e. cc)
same_place_decides (place.Table t) (place.Row u l) = (λ h. cc, λ e. cc)
same_place_decides (place.Table t) (place.Table u) = let d = bytes_decide t u in (λ h. ap place.Table (d.0 h), λ e. d.1 (cc))

-- the order of places tells them apart
pub cmp_place_is : (a b : Place) → is_eq (place_cmp a b) ≡ same_place a b
cmp_place_is a b = sym (place_tied a b)

pub same_place_sym : (a b : Place) → same_place a b ≡ same_place b a
same_place_sym a b = one_answer (same_place a b) (same_place b a) (same_place_decides a b) (let d = same_place_decides b a in (λ h. sym (d.0 h), λ e. d.1 (sym e)))

values_decide : (a b : List Value) → Decides (pointwise same_value a b) (a ≡ b)
values_decide = pointwise_decides same_value_decides

row_is : (a b : PlainRow) → a.table ≡ b.table → a.key ≡ b.key → a.row ≡ b.row → a ≡ b
row_is a b p q r = λ i. record { table = p i; key = q i; row = r i }

same_row_decides : (a b : PlainRow) → Decides (same_row a b) (a ≡ b)
same_row_decides a b =
    let tables = bytes_decide a.table b.table in
    let keys = same_value_decides a.key b.key in
    let rows = values_decide a.row b.row in (
      λ h.
          let p = both (bytes_eq a.table b.table) (same_value a.key b.key && pointwise same_value a.row b.row) h in
          let q = both (same_value a.key b.key) (pointwise same_value a.row b.row) p.1 in
          row_is a b (tables.0 p.0) (keys.0 q.0) (rows.0 q.1),
      λ e. both_if (bytes_eq a.table b.table) (same_value a.key b.key && pointwise same_value a.row b.row) (tables.1 (ap (λ (r : PlainRow). r.table) e))
          (both_if (same_value a.key b.key) (pointwise same_value a.row b.row) (keys.1 (ap (λ (r : PlainRow). r.key) e)) (rows.1 (ap (λ (r : PlainRow). r.row) e))),
    )

pub same_rows_decide : (a b : List PlainRow) → Decides (same_rows a b) (a ≡ b)
same_rows_decide = pointwise_decides same_row_decides
