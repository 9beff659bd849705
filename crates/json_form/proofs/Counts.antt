-- How many items an array has.
use Rattle.std.proofs.Common.{◌≡◌, ℕ, ◌≤◌, ◌<◌, List, length, cond, ◌&&◌, nat_le, Result, Ok, Err, refl, ap, ◌∙◌, eqb}
use Rattle.std.proofs.lemmas.Bool.{le-leb, lt-leb, eq-eqb, ne_eqb}
use Rattle.serde_json.specs.Data.{Data, Items}
use Rattle.serde_json.specs.Events.{items_len}
use Rattle.serde_json.specs.View.{items_view}
use Rattle.serde_json.specs.declared.value.Value.{Value}
use Rattle.serde_json.proofs.Views.{items_len-items_view}
use Rattle.json_form.specs.declared.fault.DocCode.TheVariants.{WrongKind, Limit}
use Rattle.json_form.specs.meaning.Faults.{Fault, ◌>>=◌, here}
use Rattle.json_form.specs.meaning.Values.{items_of}
use Rattle.json_form.specs.meaning.Arrays.{in_count, counted_of, exactly, exact_of}

-- the count is that of the values
counted_is : (low high : ℕ) (d : Data) (vs : List Value) → items_of d ≡ Ok (items_view vs)
    → counted_of low high d ≡ cond (nat_le low (length vs) && nat_le (length vs) high) (Ok (items_view vs)) (Err (here Limit))
counted_is low high d vs e =
    ap (λ (r : Result Items Fault). r >>= in_count low high) e ∙ ap (λ n. cond (nat_le low n && nat_le n high) (Ok (items_view vs)) (Err (here Limit))) (items_len-items_view vs)

pub is_counted : (low high : ℕ) (d : Data) (vs : List Value) → items_of d ≡ Ok (items_view vs) → low ≤ length vs → length vs ≤ high → counted_of low high d ≡ Ok (items_view vs)
is_counted low high d vs e enough few =
    rw (counted_is low high d vs e, le-leb low (length vs) enough, le-leb (length vs) high few) refl

pub is_too_few : (low high : ℕ) (d : Data) (vs : List Value) → items_of d ≡ Ok (items_view vs) → length vs < low → counted_of low high d ≡ Err (here Limit)
is_too_few low high d vs e few = rw (counted_is low high d vs e, lt-leb low (length vs) few) refl

pub is_too_many : (low high : ℕ) (d : Data) (vs : List Value) → items_of d ≡ Ok (items_view vs) → low ≤ length vs → high < length vs → counted_of low high d ≡ Err (here Limit)
is_too_many low high d vs e enough many =
    rw (counted_is low high d vs e, le-leb low (length vs) enough, lt-leb (length vs) high many) refl

exact_is : (n : ℕ) (d : Data) (vs : List Value) → items_of d ≡ Ok (items_view vs) → exact_of n d ≡ cond (eqb (length vs) n) (Ok (items_view vs)) (Err (here WrongKind))
exact_is n d vs e =
    ap (λ (r : Result Items Fault). r >>= exactly n) e ∙ ap (λ len. cond (eqb len n) (Ok (items_view vs)) (Err (here WrongKind))) (items_len-items_view vs)

pub is_exact : (n : ℕ) (d : Data) (vs : List Value) → items_of d ≡ Ok (items_view vs) → length vs ≡ n → exact_of n d ≡ Ok (items_view vs)
is_exact n d vs e same = rw (exact_is n d vs e, eq-eqb (length vs) n same) refl

pub is_not_exact : (n : ℕ) (d : Data) (vs : List Value) → items_of d ≡ Ok (items_view vs) → (length vs ≡ n → ⊥) → exact_of n d ≡ Err (here WrongKind)
is_not_exact n d vs e other = rw (exact_is n d vs e, ne_eqb (length vs) n other) refl
