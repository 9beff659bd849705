-- Going through the members of an object.
use Rattle.std.proofs.Common.{◌≡◌, ℕ, List, [], ◌∷◌, map, Bool, true, false, cond, ◌||◌, Err, refl, sym, ap, ◌∙◌, string_bytes}
use Rattle.std.specs.List.{list_any}
use Rattle.serde_json.specs.View.{members_view}
use Rattle.serde_json.proofs.Views.{Entry}
use Rattle.json_form.specs.declared.fault.DocCode.TheVariants.{Unknown}
use Rattle.json_form.specs.meaning.Faults.{here, under}
use Rattle.json_form.specs.meaning.Pointers.{escaped}
use Rattle.json_form.specs.meaning.Objects.{is_among, known}

pub list_any-map : {A B : Type 0} (p : B → Bool) (f : A → B) (xs : List A) → list_any p (map f xs) ≡ list_any (λ x. p (f x)) xs
list_any-map p f [] = refl
list_any-map p f (x ∷ xs) = ap (λ b. p (f x) || b) (list_any-map p f xs)

pub known_step : (names : List (List ℕ)) (es rest : List Entry) (e : Entry) (key : List ℕ) (b : Bool) → es ≡ e ∷ rest → key ≡ string_bytes e.0 → b ≡ is_among names key → b ≡ true → known names (members_view es) ≡ known names (members_view rest)
known_step names es rest e key b first same test named =
    let true_at : is_among names (string_bytes e.0) ≡ true = ap (is_among names) (sym same) ∙ sym test ∙ named in
    ap (λ (l : List Entry). known names (members_view l)) first ∙ ap (λ (t : Bool). cond t (known names (members_view rest)) (Err (under (escaped (string_bytes e.0)) (here Unknown)))) true_at

pub known_stop : (names : List (List ℕ)) (es rest : List Entry) (e : Entry) (key : List ℕ) (b : Bool) → es ≡ e ∷ rest → key ≡ string_bytes e.0 → b ≡ is_among names key → b ≡ false → known names (members_view es) ≡ Err (under (escaped key) (here Unknown))
known_stop names es rest e key b first same test named =
    let false_at : is_among names (string_bytes e.0) ≡ false = ap (is_among names) (sym same) ∙ sym test ∙ named in
    ap (λ (l : List Entry). known names (members_view l)) first ∙ ap (λ (t : Bool). cond t (known names (members_view rest)) (Err (under (escaped (string_bytes e.0)) (here Unknown)))) false_at ∙ ap (λ k. Err (under (escaped k) (here Unknown))) (sym same)
