-- The sessions of connections and those made outside: how they grow, and that they stay apart, made
-- and counted.
use Rattle.std.proofs.Common.{◌≡◌, refl, sym, ap, ◌∙◌, Bool, true, false, ℕ, ◌+◌, ◌<◌, ◌&&◌, ◌||◌, cond, List, [], ◌∷◌, ◌++◌, count_by, arith}
use Rattle.std.specs.Prelude.{◌==◌, nat_le, nat_lt, not}
use Rattle.std.specs.List.{list_all, list_any}
use Rattle.std.proofs.lemmas.Bool.{and_parts, and_from, not_from_false, not-true}
use Rattle.std.proofs.lemmas.Bool.Decides.{nat_tests}
use Rattle.std.proofs.lemmas.List.Folds.{list_any-append}
use Rattle.std.proofs.lemmas.List.Sums.{sum_by_push, sum_by-cons}
use Rattle.svc_values.specs.declared.entry.SessionId.{SessionId}
use Rattle.svc_values.specs.meaning.Identifiers.{same_session}
use Rattle.world_model.specs.Sames.{each_pair}
use Rattle.world_model.proofs.events.Tests.{eq_from, eq_to}
use Rattle.world_model.proofs.events.AllLists.{weaker_all, append_all, one_all}
use Rattle.world_model.proofs.hold.Inserted.{Inserted, all_inserted, pairs_inserted, count_inserted}

-- the incarnation with the count of its sessions, those of connections and those made outside
pub record Census : Type 0 where
  pub incarnation : ℕ
  pub count : ℕ
  pub here : List SessionId
  pub outside : List SessionId

abbrev pub next_of : Census → SessionId
next_of a = record { incarnation = a.incarnation; session = a.count + 1 }

pub data Grows (a : Census) : Census → Type 0 where
  Stands : Grows a a
  Connects : (here : List SessionId) → Inserted (next_of a) a.here here → Grows a (record a { count = a.count + 1; here = here })
  Outside : Grows a (record a { count = a.count + 1; outside = a.outside ++ next_of a ∷ [] })
  Reopens : (incarnation : ℕ) → a.incarnation < incarnation → Grows a (record a { incarnation = incarnation; count = 0 })

abbrev pub differs : SessionId → SessionId → Bool
differs a b = not (same_session a b)

abbrev pub not_in : List SessionId → SessionId → Bool
not_in sessions session = not (list_any (same_session session) sessions)

abbrev pub made_in : ℕ → ℕ → SessionId → Bool
made_in incarnation count session = nat_lt 0 session.session && (nat_lt session.incarnation incarnation || ((session.incarnation == incarnation) && nat_le session.session count))

abbrev pub count_in : ℕ → List SessionId → ℕ
count_in incarnation sessions = count_by (λ session. session.incarnation == incarnation) sessions

pub record IsRight (a : Census) : Type 0 where
  pub apart : (each_pair differs a.here && list_all (not_in a.outside) a.here) ≡ true
  pub made : (list_all (made_in a.incarnation a.count) a.here && list_all (made_in a.incarnation a.count) a.outside) ≡ true
  pub counted : (a.count == count_in a.incarnation a.here + count_in a.incarnation a.outside) ≡ true

-- ONE SESSION -------------------------------------------------------------------------------------

-- each that was made is another one than the next
made_differs : (incarnation count : ℕ) (session : SessionId) → made_in incarnation count session ≡ true → same_session session (record { incarnation = incarnation; session = count + 1 }) ≡ false
made_differs incarnation count session made = grind (arith, nat_tests)

made_differs_back : (incarnation count : ℕ) (session : SessionId) → made_in incarnation count session ≡ true → same_session (record { incarnation = incarnation; session = count + 1 }) session ≡ false
made_differs_back incarnation count session made = grind (arith, nat_tests)

pub made_more : (incarnation count : ℕ) (session : SessionId) → made_in incarnation count session ≡ true → made_in incarnation (count + 1) session ≡ true
made_more incarnation count session made = grind (arith, nat_tests)

made_next : (incarnation count : ℕ) → made_in incarnation (count + 1) (record { incarnation = incarnation; session = count + 1 }) ≡ true
made_next incarnation count = grind (arith, nat_tests)

pub made_before : (incarnation count later : ℕ) (session : SessionId) → incarnation < later → made_in incarnation count session ≡ true → made_in later 0 session ≡ true
made_before incarnation count later session below made = grind (arith, nat_tests)

made_earlier : (incarnation count later : ℕ) (session : SessionId) → incarnation < later → made_in incarnation count session ≡ true → (session.incarnation == later) ≡ false
made_earlier incarnation count later session below made = grind (arith, nat_tests)

-- ALL ---------------------------------------------------------------------------------------------

-- none of these is the session
none_in : (test : SessionId → Bool) (session : SessionId) (sessions : List SessionId) → list_all test sessions ≡ true → ((other : SessionId) → test other ≡ true → same_session session other ≡ false)
    → list_any (same_session session) sessions ≡ false
none_in test session [] all never = refl
none_in test session (other ∷ others) all never =
    let parts = and_parts (test other) (list_all test others) all in
    ap (λ b. b || list_any (same_session session) others) (never other parts.0) ∙ none_in test session others parts.1 never

connects_right : (a : Census) (here : List SessionId) → Inserted (next_of a) a.here here → IsRight a → IsRight (record a { count = a.count + 1; here = here })
connects_right a here more right =
    let made : SessionId → Bool = made_in a.incarnation a.count in
    let more_made : SessionId → Bool = made_in a.incarnation (a.count + 1) in
    let parts = and_parts (list_all made a.here) (list_all made a.outside) right.made in
    let apart = and_parts (each_pair differs a.here) (list_all (not_in a.outside) a.here) right.apart in
    let next : SessionId = next_of a in
    record {
      apart = and_from (each_pair differs here) (list_all (not_in a.outside) here)
          (pairs_inserted differs next a.here here more apart.0
          (weaker_all made (differs next) a.here (λ session is. not_from_false (same_session next session) (made_differs_back a.incarnation a.count session is)) parts.0)
          (weaker_all made (λ session. differs session next) a.here (λ session is. not_from_false (same_session session next) (made_differs a.incarnation a.count session is)) parts.0))
          (all_inserted (not_in a.outside) next a.here here more apart.1
          (not_from_false (list_any (same_session next) a.outside) (none_in made next a.outside parts.1 (made_differs_back a.incarnation a.count))));
      made = and_from (list_all more_made here) (list_all more_made a.outside)
          (all_inserted more_made next a.here here more (weaker_all made more_made a.here (made_more a.incarnation a.count) parts.0) (made_next a.incarnation a.count))
          (weaker_all made more_made a.outside (made_more a.incarnation a.count) parts.1);
      counted = by (count_in a.incarnation a.here) (count_in a.incarnation a.outside) (count_in a.incarnation here) (next.incarnation == a.incarnation) (eq_to a.incarnation a.incarnation refl)
          (count_inserted (λ session. session.incarnation == a.incarnation) next a.here here more) (eq_from a.count _ right.counted);
    }
  where
    by : (ours outside now : ℕ) (test : Bool) → test ≡ true → now ≡ cond test 1 0 + ours → a.count ≡ ours + outside → (a.count + 1 == now + outside) ≡ true
    by ours outside now true is same old = eq_to (a.count + 1) (now + outside) (omega arith)
    by ours outside now false is same old = absurd (let none : ⊥ = cc in none)

outside_right : (a : Census) → IsRight a → IsRight (record a { count = a.count + 1; outside = a.outside ++ next_of a ∷ [] })
outside_right a right =
    let made : SessionId → Bool = made_in a.incarnation a.count in
    let more_made : SessionId → Bool = made_in a.incarnation (a.count + 1) in
    let parts = and_parts (list_all made a.here) (list_all made a.outside) right.made in
    let apart = and_parts (each_pair differs a.here) (list_all (not_in a.outside) a.here) right.apart in
    let next : SessionId = next_of a in
    record {
      apart = and_from (each_pair differs a.here) (list_all (not_in (a.outside ++ next ∷ [])) a.here) apart.0
          (both_all a.here parts.0 apart.1);
      made = and_from (list_all more_made a.here) (list_all more_made (a.outside ++ next ∷ [])) (weaker_all made more_made a.here (made_more a.incarnation a.count) parts.0)
          (append_all more_made a.outside (next ∷ []) (weaker_all made more_made a.outside (made_more a.incarnation a.count) parts.1) (one_all more_made next (made_next a.incarnation a.count)));
      counted = by (count_in a.incarnation a.here) (count_in a.incarnation a.outside) (count_in a.incarnation (a.outside ++ next ∷ [])) (next.incarnation == a.incarnation) (eq_to a.incarnation a.incarnation refl)
          (sum_by_push (λ (session : SessionId). cond (session.incarnation == a.incarnation) 1 0) a.outside next) (eq_from a.count _ right.counted);
    }
  where
    by : (ours outside now : ℕ) (test : Bool) → test ≡ true → now ≡ outside + cond test 1 0 → a.count ≡ ours + outside → (a.count + 1 == ours + now) ≡ true
    by ours outside now true is same old = eq_to (a.count + 1) (ours + now) (omega arith)
    by ours outside now false is same old = absurd (let none : ⊥ = cc in none)

    one_not_in : (session : SessionId) → made_in a.incarnation a.count session ≡ true → not_in a.outside session ≡ true → not_in (a.outside ++ next_of a ∷ []) session ≡ true
    one_not_in session made none =
        not_from_false (list_any (same_session session) (a.outside ++ next_of a ∷ []))
        (list_any-append (same_session session) a.outside (next_of a ∷ [])
        ∙ (ap (λ b. b || (same_session session (next_of a) || false)) (not-true (list_any (same_session session) a.outside) none) ∙ ap (λ b. b || false) (made_differs a.incarnation a.count session made)))

    both_all : (sessions : List SessionId) → list_all (made_in a.incarnation a.count) sessions ≡ true → list_all (not_in a.outside) sessions ≡ true → list_all (not_in (a.outside ++ next_of a ∷ [])) sessions ≡ true
    both_all [] made none = refl
    both_all (session ∷ sessions) made none =
        let first = and_parts (made_in a.incarnation a.count session) (list_all (made_in a.incarnation a.count) sessions) made in
        let second = and_parts (not_in a.outside session) (list_all (not_in a.outside) sessions) none in
        and_from (not_in (a.outside ++ next_of a ∷ []) session) (list_all (not_in (a.outside ++ next_of a ∷ [])) sessions) (one_not_in session first.0 second.0) (both_all sessions first.1 second.1)

-- none is of a later incarnation
count_later : (incarnation count later : ℕ) (sessions : List SessionId) → incarnation < later → list_all (made_in incarnation count) sessions ≡ true → count_in later sessions ≡ 0
count_later incarnation count later [] below made = refl
count_later incarnation count later (session ∷ sessions) below made =
    let parts = and_parts (made_in incarnation count session) (list_all (made_in incarnation count) sessions) made in
    sum_by-cons (λ (one : SessionId). cond (one.incarnation == later) 1 0) session sessions
    ∙ (ap (λ (n : ℕ). cond (session.incarnation == later) 1 0 + n) (count_later incarnation count later sessions below parts.1)
    ∙ ap (λ b. cond b 1 0 + 0) (made_earlier incarnation count later session below parts.0))

reopens_right : (a : Census) (incarnation : ℕ) → a.incarnation < incarnation → IsRight a → IsRight (record a { incarnation = incarnation; count = 0 })
reopens_right a incarnation below right =
    let made : SessionId → Bool = made_in a.incarnation a.count in
    let parts = and_parts (list_all made a.here) (list_all made a.outside) right.made in
    record {
      apart = right.apart;
      made = and_from (list_all (made_in incarnation 0) a.here) (list_all (made_in incarnation 0) a.outside)
          (weaker_all made (made_in incarnation 0) a.here (λ session is. made_before a.incarnation a.count incarnation session below is) parts.0)
          (weaker_all made (made_in incarnation 0) a.outside (λ session is. made_before a.incarnation a.count incarnation session below is) parts.1);
      counted = eq_to 0 (count_in incarnation a.here + count_in incarnation a.outside)
          (sym (ap (λ (n : ℕ). n + count_in incarnation a.outside) (count_later a.incarnation a.count incarnation a.here below parts.0) ∙ ap (λ (n : ℕ). 0 + n) (count_later a.incarnation a.count incarnation a.outside below parts.1)));
    }

-- However they grow, they stay right.
pub grows_right : (a b : Census) → Grows a b → IsRight a → IsRight b
grows_right a _ Stands right = right
grows_right a _ (Connects here more) right = connects_right a here more right
grows_right a _ Outside right = outside_right a right
grows_right a _ (Reopens incarnation below) right = reopens_right a incarnation below right
