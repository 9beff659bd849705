-- What a list of calls tells, and what one call more does to that.
use Rattle.std.proofs.Common.{◌≡◌, ℕ, ◌+◌, ◌||◌, Bool, true, false, cond, List, [], ◌∷◌, ◌++◌, if◌then◌else◌, refl, ap, ◌∙◌}
use Rattle.std.specs.Prelude.{count_by}
use Rattle.std.specs.List.{list_any, filter_map}
use Rattle.std.proofs.lemmas.List.Sums.{fold-append}
use Rattle.std.proofs.lemmas.List.Elements.{filter_map-append}
use Rattle.std.proofs.lemmas.List.Folds.{list_any-append}
use Rattle.std.proofs.Math.Bool.{or-false}
use Rattle.pool_core.specs.History.{Did, is_grant, is_return, queue_step, waiters_after, idle_step, idle_after, out_step, out_after, opened_of, opened_in, is_drain, before_drain, draining_in}

-- what a list of calls tells
pub record Facts : Type 0 where
  pub grants : ℕ
  pub returns : ℕ
  pub waiters : List ℕ
  pub idle : List ℕ
  pub out : List ℕ
  pub opened : List ℕ
  pub draining : List ℕ

unfoldable pub told : List Did → Facts
told history = record {
  grants = count_by is_grant history;
  returns = count_by is_return history;
  waiters = waiters_after history;
  idle = idle_after history;
  out = out_after history;
  opened = opened_in history;
  draining = draining_in history;
}

abbrev pub next_facts : Facts → Did → Facts
next_facts f did = record {
  grants = f.grants + cond (is_grant did) 1 0;
  returns = f.returns + cond (is_return did) 1 0;
  waiters = queue_step f.waiters did;
  idle = idle_step f.idle did;
  out = out_step f.out did;
  opened = f.opened ++ filter_map opened_of (did ∷ []);
  draining = if is_drain did then f.opened else f.draining;
}

pub any_last : (history : List Did) (did : Did) → list_any is_drain (history ++ did ∷ []) ≡ (list_any is_drain history || is_drain did)
any_last history did = list_any-append is_drain history (did ∷ []) ∙ ap (λ b. list_any is_drain history || b) (or-false (is_drain did))

pub before_drain-last : (history : List Did) (did : Did) → before_drain (history ++ did ∷ []) ≡ (if is_drain did then history else before_drain history)
before_drain-last [] did = by (is_drain did)
  where
    by : (b : Bool) → ◌≡◌ {A = List Did} [] (if b then [] else [])
    by true = refl
    by false = refl
before_drain-last (first ∷ history) did =
    ap (λ b. if b then first ∷ before_drain (history ++ did ∷ []) else []) (any_last history did)
    ∙ ap (λ (l : List Did). if list_any is_drain history || is_drain did then first ∷ l else []) (before_drain-last history did)
    ∙ by (list_any is_drain history) (is_drain did)
  where
    by : (a b : Bool) → (if a || b then first ∷ (if b then history else before_drain history) else []) ≡ (if b then first ∷ history else (if a then first ∷ before_drain history else []))
    by true true = refl
    by true false = refl
    by false true = refl
    by false false = refl

pub opened_in-last : (history : List Did) (did : Did) → opened_in (history ++ did ∷ []) ≡ opened_in history ++ filter_map opened_of (did ∷ [])
opened_in-last history did = filter_map-append opened_of history (did ∷ [])

pub draining_in-last : (history : List Did) (did : Did) → draining_in (history ++ did ∷ []) ≡ (if is_drain did then opened_in history else draining_in history)
draining_in-last history did = ap opened_in (before_drain-last history did) ∙ by (is_drain did)
  where
    by : (b : Bool) → opened_in (if b then history else before_drain history) ≡ (if b then opened_in history else draining_in history)
    by true = refl
    by false = refl

-- one call more
pub told-last : (history : List Did) (did : Did) → told (history ++ did ∷ []) ≡ next_facts (told history) did
unfolding told
told-last history did =
    λ i. record {
      grants = fold-append (λ a x. a + cond (is_grant x) 1 0) 0 history (did ∷ []) i;
      returns = fold-append (λ a x. a + cond (is_return x) 1 0) 0 history (did ∷ []) i;
      waiters = fold-append queue_step [] history (did ∷ []) i;
      idle = fold-append idle_step [] history (did ∷ []) i;
      out = fold-append out_step [] history (did ∷ []) i;
      opened = opened_in-last history did i;
      draining = draining_in-last history did i;
    }
