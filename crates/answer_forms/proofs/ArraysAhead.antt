-- Arrays of three parts that were read one after the other.
use Rattle.std.proofs.Common.{◌≡◌, ℕ, List, Some, Result, Ok, ap, ◌∙◌}
use Rattle.json.specs.Token.{Token}
use Rattle.json.specs.Json.{parse_map}
use Rattle.serde_json.specs.Data.{Data, array, no_items, item}
use Rattle.json_form.specs.meaning.Faults.{Fault, ◌>>=◌, within_item}
use Rattle.json_form.specs.meaning.Arrays.{fixed, part}
use Rattle.json_form.specs.Streams.{value_ahead, items_ahead, Begins, IsLastItem}
use Rattle.json_form.proofs.Offered.{read_ahead}

module _ {A B C X : Type 0} (first : Data → Result A Fault) (second : Data → Result B Fault) (third : Data → Result C Fault) (make : A → B → C → X) where
  abbrev pub of_three : Data → Result X Fault
  of_three d = fixed 3 d >>= λ ds. part 0 first ds >>= λ a. part 1 second ds >>= λ b. part 2 third ds >>= λ c. Ok (make a b c)

  three_read : (d e f : Data) (a : A) (b : B) (c : C) → first d ≡ Ok a → second e ≡ Ok b → third f ≡ Ok c → of_three (array (item d (item e (item f no_items)))) ≡ Ok (make a b c)
  unfolding part
  three_read d e f a b c h k l =
      ap (λ (r : Result A Fault). within_item 0 r >>= λ x. within_item 1 (second e) >>= λ y. within_item 2 (third f) >>= λ z. Ok (make x y z)) h
      ∙ ap (λ (r : Result B Fault). within_item 1 r >>= λ y. within_item 2 (third f) >>= λ z. Ok (make a y z)) k
      ∙ ap (λ (r : Result C Fault). within_item 2 r >>= λ z. Ok (make a b z)) l

  pub three_joined : (depth inside : ℕ) (ts begin r s rest : List Token) (a : A) (b : B) (c : C) → value_ahead depth ts ≡ parse_map array (items_ahead inside begin) → Begins first inside begin a r → Begins second inside r b s
      → IsLastItem third inside s c rest → Begins of_three depth ts (make a b c) rest
  three_joined depth inside ts begin r s rest a b c opens begins goes_on l =
      let e = read_ahead second inside r s rest b (item l.0 no_items) goes_on l.1 in
      let d = read_ahead first inside begin r rest a (item e.0 (item l.0 no_items)) begins e.1 in
      ap (parse_map of_three) (opens ∙ ap (parse_map array) d.1) ∙ ap (λ q. Some (q, rest)) (three_read d.0 e.0 l.0 a b c d.2 e.2 l.2)
