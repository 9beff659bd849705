-- Look-ups by a session's key, in a map whose keys are in order.
use Rattle.std.proofs.Common.{◌≡◌, ℕ, ◌≤◌, ◌==◌, ◌&&◌, Bool, true, false, List, [], ◌∷◌, Option, Some, cond, unwrap_or, if◌then◌else◌, refl, sym, ap, ◌∙◌, arith, filter}
use Rattle.std.specs.Prelude.{nat_le}
use Rattle.std.proofs.lemmas.Bool.Decides.{nat_tests}
use Rattle.std.proofs.lemmas.Grind.{common_steps}
use Rattle.std.proofs.lemmas.Map.Entries.{lookup-filter-keys}
use Rattle.std.specs.Map.{lookup}
use Rattle.std.specs.BTreeMap.{is_at}
use Rattle.std.specs.Ordering.{nat_cmp, ordering_then, is_eq}
use Rattle.std.specs.Cmp.{tied_then}
use Rattle.std.specs.declared.cmp.Ordering.{Ordering}
use Rattle.ltxid_book.specs.declared.State.{State}
use Rattle.ltxid_book.specs.meaning.Sessions.{untouched}
use Rattle.ltxid_book.specs.Sessions.{state_in}

-- the order of the keys
abbrev pub key_cmp : (ℕ × ℕ) → (ℕ × ℕ) → Ordering
key_cmp a b = ordering_then (nat_cmp a.0 b.0) (nat_cmp a.1 b.1)

is_eq-nat_cmp : (a b : ℕ) → is_eq (nat_cmp a b) ≡ (a == b)
is_eq-nat_cmp a b = grind (arith, common_steps)

-- two keys stand at one place of the order where their parts are equal
pub is_at-key_cmp : (a b : ℕ × ℕ) → is_at (key_cmp a) b ≡ ((a.0 == b.0) && (a.1 == b.1))
is_at-key_cmp a b =
    sym (tied_then (nat_cmp a.0 b.0) (nat_cmp a.1 b.1))
    ∙ ap (λ t. t && is_eq (nat_cmp a.1 b.1)) (is_eq-nat_cmp a.0 b.0)
    ∙ ap (λ t. (a.0 == b.0) && t) (is_eq-nat_cmp a.1 b.1)

-- a look-up by the order finds what one by the parts does
pub lookup-key_cmp : (es : List ((ℕ × ℕ) × State)) (a : ℕ × ℕ) → lookup (is_at (key_cmp a)) es ≡ lookup (λ key. (a.0 == key.0) && (a.1 == key.1)) es
lookup-key_cmp [] a = refl
lookup-key_cmp (e ∷ es) a =
    ap (λ t. cond t (Some e.1) (lookup (is_at (key_cmp a)) es)) (is_at-key_cmp a e.0)
    ∙ ap (λ o. cond ((a.0 == e.0.0) && (a.1 == e.0.1)) (Some e.1) o) (lookup-key_cmp es a)

chosen : (b : Bool) (state : State) (o : Option State) → unwrap_or (cond b (Some state) o) untouched ≡ (if b then state else unwrap_or o untouched)
chosen true state o = refl
chosen false state o = refl

-- what each session's state is after one is put
pub state_in-put : (old new : List ((ℕ × ℕ) × State)) (key : ℕ × ℕ) (state : State)
    → ((q : ℕ × ℕ) → lookup (is_at (key_cmp q)) new ≡ cond (is_at (key_cmp key) q) (Some state) (lookup (is_at (key_cmp q)) old))
    → (incarnation session : ℕ) → state_in new incarnation session ≡ (if (key.0 == incarnation) && (key.1 == session) then state else state_in old incarnation session)
state_in-put old new key state put incarnation session =
    let q : ℕ × ℕ = (incarnation, session) in
    ap (λ o. unwrap_or o untouched) (sym (lookup-key_cmp new q) ∙ put q ∙ ap (λ t. cond t (Some state) (lookup (is_at (key_cmp q)) old)) (is_at-key_cmp key q)
    ∙ ap (λ o. cond ((key.0 == incarnation) && (key.1 == session)) (Some state) o) (lookup-key_cmp old q))
    ∙ chosen ((key.0 == incarnation) && (key.1 == session)) state (lookup (λ k. (incarnation == k.0) && (session == k.1)) old)

test_of : (below incarnation session : ℕ) (key : ℕ × ℕ) → below ≤ incarnation → ((incarnation == key.0) && (session == key.1)) ≡ true → nat_le below key.0 ≡ true
test_of below incarnation session key le is = grind (arith, nat_tests)

-- what each session's state is after those of lower incarnations are gone
pub state_in-filter : (old new : List ((ℕ × ℕ) × State)) (below : ℕ) → new ≡ filter (λ e. nat_le below e.0.0) old
    → (incarnation session : ℕ) → below ≤ incarnation → state_in new incarnation session ≡ state_in old incarnation session
state_in-filter old new below kept incarnation session le =
    ap (λ (l : List ((ℕ × ℕ) × State)). state_in l incarnation session) kept
    ∙ ap (λ o. unwrap_or o untouched) (lookup-filter-keys (λ key. (incarnation == key.0) && (session == key.1)) (λ key. nat_le below key.0) true (λ key is. test_of below incarnation session key le is) old)
