-- The tokens of an array as it is written, item by item.
use Rattle.std.proofs.Common.{◌≡◌, List, [], ◌∷◌, ◌++◌, map, Result, Ok, Err, OnOk, refl, sym, ap, ◌∙◌, append_assoc}
use Rattle.std.specs.Prelude.{⊤}
use Rattle.std.specs.List.{flat_map}
use Rattle.json.specs.Token.{Token, begin_array, end_array}
use Rattle.json.specs.Tree.{items_tokens}
use Rattle.serde_json.specs.Data.{Data}
use Rattle.serde_json.specs.View.{items_of}
use Rattle.serde_json.specs.Written.{items_outline}
use Rattle.json_form.specs.Tokens.{tokens_of}
use Rattle.json_form.specs.meaning.Writing.{list_by}

-- the items' tokens one after the other, and the bracket behind them
pub each_written : {A : Type 0} (writes : A → Data) (xs : List A) → items_tokens (items_outline (items_of (map writes xs))) ≡ flat_map (λ x. tokens_of (writes x)) xs ++ end_array ∷ []
each_written writes [] = refl
each_written writes (x ∷ xs) =
    ap (λ ts. tokens_of (writes x) ++ ts) (each_written writes xs) ∙ sym (append_assoc (tokens_of (writes x)) (flat_map (λ y. tokens_of (writes y)) xs) (end_array ∷ []))

-- a bracket, each item, and a bracket are the array
pub array_written : {A E : Type 0} (result : Result ⊤ E) (old begun after new : List Token) (writes : A → Data) (xs : List A) → begun ≡ old ++ begin_array ∷ [] → after ≡ begun ++ flat_map (λ x. tokens_of (writes x)) xs
    → OnOk result (new ≡ after ++ end_array ∷ []) → OnOk result (new ≡ old ++ tokens_of (list_by writes xs))
array_written (Err e) old begun after new writes xs first each last = tt
array_written (Ok x) old begun after new writes xs first each last =
    let told : List Token = flat_map (λ y. tokens_of (writes y)) xs in
    last ∙ ap (λ (ts : List Token). ts ++ end_array ∷ []) (each ∙ ap (λ (ts : List Token). ts ++ told) first)
    ∙ append_assoc (old ++ begin_array ∷ []) told (end_array ∷ []) ∙ append_assoc old (begin_array ∷ []) (told ++ end_array ∷ []) ∙ ap (λ (ts : List Token). old ++ begin_array ∷ ts) (sym (each_written writes xs))
