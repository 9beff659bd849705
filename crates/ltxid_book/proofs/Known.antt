-- Sessions above a horizon.
use Rattle.std.proofs.Common.{◌≡◌, ℕ, ◌==◌, ◌&&◌, Bool, true, false, not, IsTrue, if◌then◌else◌, refl, sym, ap, ◌∙◌, arith}
use Rattle.std.proofs.Math.Path.{fun_ext}
use Rattle.std.proofs.lemmas.Bool.Decides.{nat_tests}
use Rattle.std.specs.Prelude.{nat_lt, max}
use Rattle.svc_values.specs.declared.entry.Ltxid.{Ltxid}
use Rattle.svc_values.specs.meaning.Identifiers.{is_of}
use Rattle.ltxid_book.specs.declared.State.{State}
use Rattle.ltxid_book.specs.meaning.Sessions.{Sessions, untouched, known_from, may_commit}
use Rattle.ltxid_book.specs.Sessions.{none_yet, with_state, after_forgetting}

-- an identifier that may commit, by its session's state
pub record May (x : Ltxid) (state : State) : Type 0 where
  pub number_is : x.number ≡ state.next
  pub free : state.blocked ≡ false

may_at : (x : Ltxid) (below : Bool) (state : State) → (not below && ((x.number == (if below then untouched else state).next) && not (if below then untouched else state).blocked)) ≡ true → (below ≡ false) × May x state
may_at x true state h = absurd (let none : ⊥ = cc in none)
may_at x false state h = (refl, record { number_is = grind (arith, nat_tests); free = grind (arith, nat_tests) })

pub may_known : (horizon : ℕ) (state : ℕ → ℕ → State) (x : Ltxid) → IsTrue (may_commit (known_from horizon state) x) → (nat_lt x.incarnation horizon ≡ false) × May x (state x.incarnation x.session)
may_known horizon state x may = may_at x (nat_lt x.incarnation horizon) (state x.incarnation x.session) may

known_same : (horizon : ℕ) (a b : ℕ → ℕ → State) → ((incarnation session : ℕ) → a incarnation session ≡ b incarnation session) → (let c : Sessions = record { horizon = horizon; state = a } in c) ≡ record { horizon = horizon; state = b }
known_same horizon a b same = let states : a ≡ b = fun_ext (λ incarnation. fun_ext (λ session. same incarnation session)) in λ i. record { horizon = horizon; state = states i }

swapped : (below own : Bool) (state new : State) → (own ≡ true → below ≡ false) → (if below then untouched else (if own then new else state)) ≡ (if own then new else (if below then untouched else state))
swapped true true state new apart = absurd (let none = apart refl in let never : ⊥ = cc in never)
swapped true false state new apart = refl
swapped false true state new apart = refl
swapped false false state new apart = refl

own_incarnation : (x : Ltxid) (incarnation session : ℕ) → is_of x incarnation session ≡ true → x.incarnation ≡ incarnation
own_incarnation x incarnation session own = grind (arith, nat_tests)

-- one session that is not forgotten has another state
pub known_with : (horizon : ℕ) (state more : ℕ → ℕ → State) (x : Ltxid) (new : State) → nat_lt x.incarnation horizon ≡ false
    → ((incarnation session : ℕ) → more incarnation session ≡ (if is_of x incarnation session then new else state incarnation session))
    → known_from horizon more ≡ with_state (known_from horizon state) x new
known_with horizon state more x new known says = known_same horizon _ _ (λ incarnation session.
    ap (λ (s : State). if nat_lt incarnation horizon then untouched else s) (says incarnation session)
    ∙ swapped (nat_lt incarnation horizon) (is_of x incarnation session) (state incarnation session) new (λ own. ap (λ n. nat_lt n horizon) (sym (own_incarnation x incarnation session own)) ∙ known))

-- what was forgotten is no more than what is to be
lost : (i a b : ℕ) (state : State) → (if nat_lt i (max a b) then untouched else (if nat_lt i a then untouched else state)) ≡ (if nat_lt i (max a b) then untouched else state)
lost i a b state = by (nat_lt i a) (nat_lt i (max a b)) (λ below. grind (arith, nat_tests))
  where
    by : (was is : Bool) → (was ≡ true → is ≡ true) → (if is then untouched else (if was then untouched else state)) ≡ (if is then untouched else state)
    by was true more = refl
    by true false more = absurd (let none = more refl in let never : ⊥ = cc in never)
    by false false more = refl

pub known_again : (horizon below : ℕ) (state : ℕ → ℕ → State) → after_forgetting (known_from horizon state) below ≡ known_from (max horizon below) state
known_again horizon below state = known_same (max horizon below) _ _ (λ incarnation session. lost incarnation horizon below (state incarnation session))

-- above the horizon the states count alone
pub known_alike : (horizon : ℕ) (a b : ℕ → ℕ → State) → ((incarnation session : ℕ) → nat_lt incarnation horizon ≡ false → a incarnation session ≡ b incarnation session) → known_from horizon a ≡ known_from horizon b
known_alike horizon a b same = known_same horizon _ _ (λ incarnation session. by (nat_lt incarnation horizon) _ _ (same incarnation session))
  where
    by : (below : Bool) (s t : State) → (below ≡ false → s ≡ t) → (if below then untouched else s) ≡ (if below then untouched else t)
    by true s t is = refl
    by false s t is = is refl

-- no session is below 0
pub never_below : (state : ℕ → ℕ → State) → ((incarnation session : ℕ) → untouched ≡ state incarnation session) → none_yet ≡ known_from 0 state
never_below state same = known_same 0 _ _ (λ incarnation session. by (nat_lt incarnation 0) _ (same incarnation session))
  where
    by : (below : Bool) (s : State) → untouched ≡ s → untouched ≡ (if below then untouched else s)
    by true s is = refl
    by false s is = is

-- a session that is forgotten and one that is not are two
pub apart : (x : Ltxid) (horizon incarnation session : ℕ) → nat_lt x.incarnation horizon ≡ true → nat_lt incarnation horizon ≡ false → is_of x incarnation session ≡ false
apart x horizon incarnation session lost known = by (is_of x incarnation session) refl
  where
    by : (own : Bool) → is_of x incarnation session ≡ own → is_of x incarnation session ≡ false
    by false is = is
    by true is = absurd (let none : true ≡ false = sym lost ∙ ap (λ n. nat_lt n horizon) (own_incarnation x incarnation session is) ∙ known in let never : ⊥ = cc in never)

-- one session has another state, if it is not forgotten
pub known_step : (horizon : ℕ) (state more : ℕ → ℕ → State) (x : Ltxid) (change : State → State)
    → ((incarnation session : ℕ) → more incarnation session ≡ (if is_of x incarnation session then change (state x.incarnation x.session) else state incarnation session))
    → (if nat_lt x.incarnation horizon then known_from horizon state else with_state (known_from horizon state) x (change ((known_from horizon state).state x.incarnation x.session))) ≡ known_from horizon more
known_step horizon state more x change says = by (nat_lt x.incarnation horizon) refl
  where
    by : (below : Bool) → nat_lt x.incarnation horizon ≡ below → (if below then known_from horizon state else with_state (known_from horizon state) x (change (if below then untouched else state x.incarnation x.session))) ≡ known_from horizon more
    by true lost = known_alike horizon state more (λ incarnation session known. sym (says incarnation session ∙ ap (λ own. if own then change (state x.incarnation x.session) else state incarnation session) (apart x horizon incarnation session lost known)))
    by false known = sym (known_with horizon state more x (change (state x.incarnation x.session)) known says)
