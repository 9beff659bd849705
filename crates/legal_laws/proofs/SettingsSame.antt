-- Settings that are compared as equal are the same.
use Rattle.std.proofs.Common.{◌≡◌, refl, ap, ◌∙◌, ℕ, ◌&&◌, true, List, [], ◌∷◌}
use Rattle.std.specs.Cmp.Lexicographic.{pointwise}
use Rattle.std.specs.Prelude.{nat_eq}
use Rattle.std.proofs.lemmas.Bool.{and_parts}
use Rattle.svc_values.specs.declared.value.Value.{Value}
use Rattle.svc_values.specs.meaning.Same.{same_value}
use Rattle.svc_values.specs.SameLaws.{bytes_decide, same_value_decides}
use Rattle.svc_values.specs.meaning.SettingsList.{NamedValues, same_settings}

pub settings_are : (a b : NamedValues) → same_settings a b ≡ true → a ≡ b
settings_are [] [] is = refl
settings_are [] (y ∷ ys) is = absurd (let none : ⊥ = cc in none)
settings_are (x ∷ xs) [] is = absurd (let none : ⊥ = cc in none)
settings_are (x ∷ xs) (y ∷ ys) is =
    let parts = and_parts (pointwise nat_eq x.0 y.0 && same_value x.1 y.1) (same_settings xs ys) is in
    let both = and_parts (pointwise nat_eq x.0 y.0) (same_value x.1 y.1) parts.0 in
    ap (λ (name : List ℕ). (name, x.1) ∷ xs) ((bytes_decide x.0 y.0).0 both.0)
    ∙ (ap (λ (v : Value). (y.0, v) ∷ xs) ((same_value_decides x.1 y.1).0 both.1) ∙ ap (λ (rest : NamedValues). y ∷ rest) (settings_are xs ys parts.1))
