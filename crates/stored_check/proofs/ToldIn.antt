-- The outcome of a number, by where it stands beside the next one.
use Rattle.std.proofs.Common.{◌≡◌, ℕ, ◌+◌, ◌<◌, ◌==◌, Bool, true, false, cond, refl, sym, ap, ◌∙◌, arith, eq-eqb}
use Rattle.std.specs.Prelude.{nat_lt, Option, Some, option_map}
use Rattle.std.specs.Bool.{one_answer}
use Rattle.std.proofs.lemmas.Bool.{ne_eqb, lt-ltb, le-ltb}
use Rattle.std.proofs.lemmas.Bool.Decides.{Decides-eqb}
use Rattle.svc_values.specs.declared.entry.Ltxid.{Ltxid}
use Rattle.outage_schedule.specs.declared.note.AskResult.{AskResult}
use Rattle.outage_schedule.specs.declared.note.AskResult.TheVariants as told
use Rattle.run_clauses.specs.meaning.Outcomes.{outcome_of, is_told, is_uncommitted, says_forgotten}
use Rattle.stored_check.specs.Told.{told_in}

eqb_turned : (a b : ℕ) → (a == b) ≡ (b == a)
eqb_turned a b = one_answer (a == b) (b == a) (Decides-eqb a b) (let d = Decides-eqb b a in (λ h. sym (d.0 h), λ e. d.1 (sym e)))

by_tests : (next : ℕ) (completed : Option Bool) (number : ℕ) (a b c : Bool) → number == next ≡ a → (number + 1) == next ≡ b → nat_lt (number + 1) next ≡ c
    → told_in next completed number ≡ cond a (Some told.Uncommitted) (cond b (option_map told.Committed completed) (cond c (Some (told.ServerAhead next)) (Some (told.ClientAhead next))))
by_tests next completed number a b c first second third =
    ap (λ t. cond t (Some told.Uncommitted) (cond ((number + 1) == next) (option_map told.Committed completed) (cond (nat_lt (number + 1) next) (Some (told.ServerAhead next)) (Some (told.ClientAhead next))))) first
    ∙ ap (λ t. cond a (Some told.Uncommitted) (cond t (option_map told.Committed completed) (cond (nat_lt (number + 1) next) (Some (told.ServerAhead next)) (Some (told.ClientAhead next))))) second
    ∙ ap (λ t. cond a (Some told.Uncommitted) (cond b (option_map told.Committed completed) (cond t (Some (told.ServerAhead next)) (Some (told.ClientAhead next))))) third

pub told_next : (next : ℕ) (completed : Option Bool) (number : ℕ) → number ≡ next → told_in next completed number ≡ Some told.Uncommitted
told_next next completed number is = by_tests next completed number true _ _ (eq-eqb number next is) refl refl

pub told_above : (next : ℕ) (completed : Option Bool) (number : ℕ) → next < number → told_in next completed number ≡ Some (told.ClientAhead next)
told_above next completed number above =
    by_tests next completed number false false false (ne_eqb number next (λ is. omega (arith, is, above))) (ne_eqb (number + 1) next (λ is. omega (arith, is, above))) (le-ltb _ _ (omega (arith, above)))

pub told_last : (next : ℕ) (completed : Option Bool) (number : ℕ) → number + 1 ≡ next → told_in next completed number ≡ option_map told.Committed completed
told_last next completed number is = by_tests next completed number false true _ (ne_eqb number next (λ same. omega (arith, is, same))) (eq-eqb (number + 1) next is) refl

pub told_below : (next : ℕ) (completed : Option Bool) (number : ℕ) → number + 1 < next → told_in next completed number ≡ Some (told.ServerAhead next)
told_below next completed number below =
    by_tests next completed number false false true (ne_eqb number next (λ is. omega (arith, is, below))) (ne_eqb (number + 1) next (λ is. omega (arith, is, below))) (lt-ltb _ _ below)

-- ---- the outcome of an identifier

pub outcome_forgotten : (horizon next : ℕ) (completed : Option Bool) (x : Ltxid) → nat_lt x.incarnation horizon ≡ true → outcome_of horizon next completed x ≡ Some (told.Forgotten horizon)
outcome_forgotten horizon next completed x below = rw below refl

in_full : (next : ℕ) (completed : Option Bool) (number : ℕ) (a b c : Bool) → number == next ≡ a → (number + 1) == next ≡ b → nat_lt (number + 1) next ≡ c
    → (x : Ltxid) → x.number ≡ number → (horizon : ℕ) → nat_lt x.incarnation horizon ≡ false → outcome_of horizon next completed x ≡ told_in next completed number
in_full next completed number true b c first second third x is horizon below = rw (below, is, first) refl
in_full next completed number false true c first second third x is horizon below = rw (below, is, first, second) refl
in_full next completed number false false true first second third x is horizon below = rw (below, is, first, second, third) refl
in_full next completed number false false false first second third x is horizon below = rw (below, is, first, second, third) refl

pub outcome_kept : (horizon next : ℕ) (completed : Option Bool) (x : Ltxid) → nat_lt x.incarnation horizon ≡ false → outcome_of horizon next completed x ≡ told_in next completed x.number
outcome_kept horizon next completed x below = in_full next completed x.number _ _ _ refl refl refl x refl horizon below

pub uncommitted_same : (answer : AskResult) → is_uncommitted answer ≡ is_told (Some told.Uncommitted) answer
uncommitted_same told.Uncommitted = refl
uncommitted_same _ = refl

pub forgotten_same : (answer : AskResult) (horizon : ℕ) → says_forgotten answer horizon ≡ is_told (Some (told.Forgotten horizon)) answer
forgotten_same (told.Forgotten a) horizon = eqb_turned a horizon
forgotten_same _ horizon = refl

pub below_other : (number next : ℕ) → number < next → (number + 1 ≡ next → ⊥) → number + 1 < next
below_other number next below other = omega arith
