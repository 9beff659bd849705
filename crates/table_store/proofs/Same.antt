-- Rows that are compared as the same.
use Rattle.std.proofs.Common.{arith, ◌≡◌, ℕ, zero, suc, ◌+◌, ◌<◌, get_or, drop, Bool, true, false, cond, List, [], ◌∷◌, length, map, refl, sym, ◌∙◌, ap}
use Rattle.std.specs.Prelude.{Option, Some, ◌&&◌}
use Rattle.std.specs.Map.{update, update_all}
use Rattle.std.specs.Ordering.{eq_by_cmp}
use Rattle.std.specs.Cmp.Lexicographic.{pointwise}
use Rattle.std.proofs.lemmas.Bool.{and_right}
use Rattle.svc_values.specs.declared.value.Value.{Value}
use Rattle.svc_values.specs.meaning.Order.{value_cmp}
use Rattle.svc_values.specs.meaning.Same.{same_value}
use Rattle.svc_values.specs.meaning.Schemas.{key_of}
use Rattle.table_store.specs.Given.{keyed}
use Rattle.table_store.specs.Rows.{Keyed, same_keyed}

abbrev pub same_entry : Value → List Value → Value → List Value → Bool
same_entry k a l b = same_value k l && pointwise same_value a b

once : (a b : Bool) → (a && b) ≡ (a && (a && b))
once true b = refl
once false b = refl

-- rows that are the same have the same keys
keys_too : (a b : List Value) → pointwise same_value a b ≡ same_entry (key_of a) a (key_of b) b
keys_too [] [] = refl
keys_too [] (w ∷ b) = sym (and_right (same_value (key_of []) w) false refl)
keys_too (v ∷ a) [] = sym (and_right (same_value v (key_of [])) false refl)
keys_too (v ∷ a) (w ∷ b) = once (same_value v w) (pointwise same_value a b)

pub sorted_same : (a b : List (List Value)) → pointwise (pointwise same_value) a b ≡ same_keyed (map keyed a) (map keyed b)
sorted_same [] [] = refl
sorted_same [] (y ∷ b) = refl
sorted_same (x ∷ a) [] = refl
sorted_same (x ∷ a) (y ∷ b) =
    ap (λ t. t && pointwise (pointwise same_value) a b) (keys_too x y)
    ∙ ap (λ t. same_entry (key_of x) x (key_of y) y && t) (sorted_same a b)

drop_first : (rows : List (List Value)) (at : ℕ) (d : List Value) → at < length rows → drop at rows ≡ get_or rows at d ∷ drop (suc at) rows
drop_first [] at d within = absurd (omega (arith, within))
drop_first (row ∷ rows) zero d within = refl
drop_first (row ∷ rows) (suc at) d within = drop_first rows at d (omega (arith, within))

-- the rows that are left, with their keys
pub keyed_next : (rows : List (List Value)) (at : ℕ) (r : List Value) → r ≡ get_or rows at r → at < length rows → map keyed (drop at rows) ≡ keyed r ∷ map keyed (drop (at + 1) rows)
keyed_next rows at r is within =
    let one : suc at ≡ at + 1 = omega arith in
    ap (map keyed) (drop_first rows at r within)
    ∙ ap (λ (f : List Value). keyed f ∷ map keyed (drop (suc at) rows)) (sym is)
    ∙ ap (λ (n : ℕ). keyed r ∷ map keyed (drop n rows)) one

-- rows that are put in one after the other over others that are the same
pub same_updates : (f g : Value → Option (List Value)) → ((q : Value) → f q ≡ g q) → (es : Keyed) (q : Value) → update_all (eq_by_cmp value_cmp) f es q ≡ update_all (eq_by_cmp value_cmp) g es q
same_updates f g same [] q = same q
same_updates f g same (e ∷ es) q =
    same_updates (update (eq_by_cmp value_cmp) f e.0 (Some e.1)) (update (eq_by_cmp value_cmp) g e.0 (Some e.1)) (λ p. ap (λ o. cond (eq_by_cmp value_cmp e.0 p) (Some e.1) o) (same p)) es q
