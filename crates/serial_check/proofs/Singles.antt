-- What is kept of draws, with one more.
use Rattle.std.proofs.Common.{◌≡◌, Bool, true, false, List, [], ◌∷◌, ◌++◌, Option, Some, None, refl, sym, ap, ◌∙◌}
use Rattle.std.specs.Prelude.{◌&&◌, ◌||◌}
use Rattle.std.specs.List.{list_any}
use Rattle.std.proofs.lemmas.List.Folds.{list_any-append}
use Rattle.svc_values.specs.declared.draw.Draw.{Draw}
use Rattle.svc_values.specs.declared.draw.Draw.TheVariants as draw
use Rattle.svc_values.specs.Keys.{is_key}
use Rattle.svc_values.specs.meaning.Same.{same_draw}
use Rattle.server_model.specs.meaning.Fresh.{is_single}
use Rattle.serial_check.specs.declared.fresh.Single.{Single}
use Rattle.serial_check.specs.contracts.fresh.SinglePartialEq.TheImpl.{eq-value}
use Rattle.serial_check.specs.meaning.Places.{is_drawn_before}
use Rattle.serial_check.specs.Given.{single_of, is_kept, Keeps}

abbrev pub is_same : Option Single → Option Single → Bool
is_same None other = false
is_same (Some a) None = false
is_same (Some a) (Some b) = eq-value.it a b

same_as_draws : (a b : Draw) → is_same (single_of a) (single_of b) ≡ (is_single a && same_draw a b)
same_as_draws (draw.Clock t) b = refl
same_as_draws (draw.Seq n x) (draw.Seq m y) = refl
same_as_draws (draw.Seq n x) (draw.Clock t) = refl
same_as_draws (draw.Seq n x) (draw.Id id) = refl
same_as_draws (draw.Id id) (draw.Seq m y) = refl
same_as_draws (draw.Id id) (draw.Clock t) = refl
same_as_draws (draw.Id id) (draw.Id other) = refl

joined : (s x y : Bool) → ((s && x) || (s && y)) ≡ (s && (x || (y || false)))
joined true true y = refl
joined true false true = refl
joined true false false = refl
joined false x y = refl

or_false : (b : Bool) → b ≡ (b || false)
or_false true = refl
or_false false = refl

keeps_by : (kept new : List Single) (before : List Draw) (one : Draw) (value : Option Single) → single_of one ≡ value
    → ((s : Option Single) → is_kept new s ≡ (is_kept kept s || is_same s value)) → Keeps kept before → Keeps new (before ++ one ∷ [])
keeps_by kept new before one value is added keeps other =
    added (single_of other)
    ∙ ap (λ t. t || is_same (single_of other) value) (keeps other)
    ∙ ap (λ v. is_drawn_before before other || is_same (single_of other) v) (sym is)
    ∙ ap (λ t. is_drawn_before before other || t) (same_as_draws other one)
    ∙ joined (is_single other) (list_any (same_draw other) before) (same_draw other one)
    ∙ ap (λ t. is_single other && t) (sym (list_any-append (same_draw other) before (one ∷ [])))

-- a draw of the clock is not kept
pub keeps_none : (kept : List Single) (before : List Draw) (one : Draw) → single_of one ≡ None → Keeps kept before → Keeps kept (before ++ one ∷ [])
keeps_none kept before one is keeps = keeps_by kept kept before one None is added keeps
  where
    added : (s : Option Single) → is_kept kept s ≡ (is_kept kept s || is_same s None)
    added None = refl
    added (Some k) = or_false (is_key eq-value.it kept k)

pub keeps_some : (kept new : List Single) (before : List Draw) (one : Draw) (value : Single) → single_of one ≡ Some value
    → ((k : Single) → is_key eq-value.it new k ≡ (is_key eq-value.it kept k || eq-value.it k value)) → Keeps kept before → Keeps new (before ++ one ∷ [])
keeps_some kept new before one value is put keeps = keeps_by kept new before one (Some value) is added keeps
  where
    added : (s : Option Single) → is_kept new s ≡ (is_kept kept s || is_same s (Some value))
    added None = refl
    added (Some k) = put k

-- whether it stood there
pub stood_before : (kept : List Single) (before : List Draw) (one : Draw) (value : Option Single) → single_of one ≡ value → Keeps kept before → is_kept kept value ≡ is_drawn_before before one
stood_before kept before one value is keeps = ap (is_kept kept) (sym is) ∙ keeps one
