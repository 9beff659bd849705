-- Sessions as keys, and what stands beside a key after a change.
use Rattle.std.proofs.Common.{◌≡◌, ℕ, ◌==◌, ◌&&◌, Bool, true, false, cond, List, [], refl, sym, ap, ◌∙◌, subst, arith}
use Rattle.std.proofs.Math.Path.{fun_ext}
use Rattle.std.proofs.lemmas.Bool.Decides.{nat_tests}
use Rattle.std.specs.Bool.{Decides, one_answer}
use Rattle.std.specs.Prelude.{Option, Some, None, nat_lt, unwrap_or}
use Rattle.std.specs.Map.{lookup}
use Rattle.std.specs.Ordering.{is_eq, nat_cmp, ordering_then}
use Rattle.std.specs.declared.cmp.Ordering.{Ordering}
use Rattle.std.specs.declared.cmp.Ordering.TheVariants.{Less, Equal, Greater}
use Rattle.svc_values.specs.Keys.{value_of}
use Rattle.svc_values.specs.declared.entry.SessionId.{SessionId}
use Rattle.svc_values.specs.meaning.Identifiers.{same_session}
use Rattle.svc_values.specs.SameLaws.{same_session_decides}
use Rattle.legal_walk.specs.declared.ongoing.Ongoing.{Ongoing}
use Rattle.legal_walk.specs.Counts.{key_of, same_key}
use Rattle.legal_walk.specs.Going.{begins_with, ongoing_in}

flipped : (a b : SessionId) → Decides (same_session b a) (a ≡ b)
flipped a b = let d = same_session_decides b a in (λ h. sym (d.0 h), λ e. d.1 (sym e))

pub same_symm : (a b : SessionId) → same_session a b ≡ same_session b a
same_symm a b = one_answer (same_session a b) (same_session b a) (same_session_decides a b) (flipped a b)

pub same_is : (a b : SessionId) → same_session a b ≡ true → a ≡ b
same_is a b is = (same_session_decides a b).0 is

-- ---- keys in their order

abbrev pub pair_cmp : ℕ × ℕ → ℕ × ℕ → Ordering
pair_cmp a b = ordering_then (nat_cmp a.0 b.0) (nat_cmp a.1 b.1)

number_ties : (x y : ℕ) → is_eq (nat_cmp x y) ≡ (x == y)
number_ties x y = by (nat_lt x y) (x == y) refl refl
  where
    by : (lt eq : Bool) → nat_lt x y ≡ lt → (x == y) ≡ eq → is_eq (cond lt Less (cond eq Equal Greater)) ≡ eq
    by false true below same = refl
    by false false below same = refl
    by true false below same = refl
    by true true below same = absurd (grind (arith, nat_tests))

then_ties : (a b : Ordering) → is_eq (ordering_then a b) ≡ (is_eq a && is_eq b)
then_ties Less b = refl
then_ties Equal b = refl
then_ties Greater b = refl

key_ties : (a b : ℕ × ℕ) → is_eq (pair_cmp a b) ≡ same_key a b
key_ties a b =
    then_ties (nat_cmp a.0 b.0) (nat_cmp a.1 b.1)
    ∙ ap (λ (t : Bool). t && is_eq (nat_cmp a.1 b.1)) (number_ties a.0 b.0)
    ∙ ap (λ (t : Bool). (a.0 == b.0) && t) (number_ties a.1 b.1)

-- what stands at a session's place
abbrev pub at_place : {V : Type 0} → ℕ × ℕ → List ((ℕ × ℕ) × V) → Option V
at_place key pairs = lookup (λ k. is_eq (pair_cmp key k)) pairs

-- it stands beside the session's key
value_at : {V : Type 0} (pairs : List ((ℕ × ℕ) × V)) (session : SessionId) → at_place (key_of session) pairs ≡ value_of same_key pairs (key_of session)
value_at pairs session = ap (λ (p : ℕ × ℕ → Bool). lookup p pairs) (fun_ext (key_ties (key_of session)))

-- after a change at the place of a session
value_changed : {V : Type 0} (old new : List ((ℕ × ℕ) × V)) (session other : SessionId) (value : Option V)
    → at_place (key_of other) new ≡ cond (is_eq (pair_cmp (key_of session) (key_of other))) value (at_place (key_of other) old)
    → value_of same_key new (key_of other) ≡ cond (same_session session other) value (value_of same_key old (key_of other))
value_changed old new session other value changed =
    sym (value_at new other) ∙ changed ∙ ap (λ (t : Bool). cond t value (at_place (key_of other) old)) (key_ties (key_of session) (key_of other))
    ∙ ap (cond (same_session session other) value) (value_at old other)

-- ---- the transactions of sessions

or_new : Option Ongoing → Ongoing
or_new found = unwrap_or found (begins_with [])

module _ (old seen : List ((ℕ × ℕ) × Ongoing)) (is : old ≡ seen) (session : SessionId) (key : ℕ × ℕ) (keyed : key ≡ key_of session) where
  pub going_found : (going : Ongoing) → Some going ≡ at_place key old → going ≡ ongoing_in seen session
  unfolding or_new
  going_found going found =
      ap or_new (found ∙ ap (λ k. at_place k old) keyed ∙ value_at old session) ∙ ap (λ (goings : List ((ℕ × ℕ) × Ongoing)). ongoing_in goings session) is

  module _ (new : List ((ℕ × ℕ) × Ongoing)) (other : SessionId) where
    changed_is : (value : Option Ongoing) → at_place (key_of other) new ≡ cond (is_eq (pair_cmp key (key_of other))) value (at_place (key_of other) old)
        → ongoing_in new other ≡ unwrap_or (cond (same_session session other) value (value_of same_key old (key_of other))) (begins_with [])
    unfolding or_new
    changed_is value changed =
        ap or_new (value_changed old new session other value (subst (λ (k : ℕ × ℕ). at_place (key_of other) new ≡ cond (is_eq (pair_cmp k (key_of other))) value (at_place (key_of other) old)) keyed changed))

    pub going_put : (going : Ongoing) → at_place (key_of other) new ≡ cond (is_eq (pair_cmp key (key_of other))) (Some going) (at_place (key_of other) old)
        → ongoing_in new other ≡ cond (same_session session other) going (ongoing_in seen other)
    going_put going changed = changed_is (Some going) changed ∙ by (same_session session other)
      where
        by : (b : Bool) → unwrap_or (cond b (Some going) (value_of same_key old (key_of other))) (begins_with []) ≡ cond b going (ongoing_in seen other)
        by true = refl
        by false = ap (λ (goings : List ((ℕ × ℕ) × Ongoing)). ongoing_in goings other) is

    pub going_taken : at_place (key_of other) new ≡ cond (is_eq (pair_cmp key (key_of other))) None (at_place (key_of other) old) → same_session session other ≡ false
        → ongoing_in new other ≡ ongoing_in seen other
    going_taken changed apart =
        changed_is None changed ∙ ap (λ (b : Bool). unwrap_or (cond b None (value_of same_key old (key_of other))) (begins_with [])) apart ∙ ap (λ (goings : List ((ℕ × ℕ) × Ongoing)). ongoing_in goings other) is
