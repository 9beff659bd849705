-- What tests tell that are computed.
use Rattle.std.proofs.Common.{◌≡◌, Bool, true, false, not, refl, sym, ap, ◌∙◌}
use Rattle.std.specs.Prelude.{Option, Some, None, is_some, is_none}
use Rattle.std.proofs.lemmas.Bool.{not-true, not-false}

pub none_is : {A : Type 0} (b : Bool) (o : Option A) → is_some o ≡ not b → b ≡ is_none o
none_is true None is = refl
none_is true (Some a) is = absurd (let no : true ≡ false = is in cc)
none_is false None is = absurd (let no : false ≡ true = is in cc)
none_is false (Some a) is = refl

-- a comparison that is a test
pub other_is : {A : Type 0} (one other : A) (eq test : A → A → Bool) → eq ≡ test → not (eq one other) ≡ true → test one other ≡ false
other_is {A} one other eq test tests is = ap (λ (same : A → A → Bool). same one other) (sym tests) ∙ not-true (eq one other) is

pub same_is : {A : Type 0} (one other : A) (eq test : A → A → Bool) → eq ≡ test → not (eq one other) ≡ false → test one other ≡ true
same_is {A} one other eq test tests is = ap (λ (same : A → A → Bool). same one other) (sym tests) ∙ not-false (eq one other) is
