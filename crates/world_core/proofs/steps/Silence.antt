-- A request that goes on behind an input has begun and is not over, and by an input that brings no
-- connection nothing is sent.
use Rattle.std.proofs.Common.{◌≡◌, ◌⊎◌, inl, inr, ℕ, ◌+◌, ◌-◌, ◌<◌, Bool, true, false, List, [], ◌∷◌, ◌++◌, Option, Some, None, refl, sym, subst}
use Rattle.std.specs.Prelude.{nat_le, if◌then◌else◌}
use Rattle.svc_values.specs.declared.call.Call.{Call}
use Rattle.svc_values.specs.declared.entry.Ltxid.{Ltxid}
use Rattle.svc_values.specs.declared.frame.Up.{Up}
use Rattle.svc_values.specs.declared.frame.Down.{Down}
use Rattle.pool_core.specs.meaning.Slots.{Slots, give_back_answer}
use Rattle.client_model.specs.declared.act.Act.{Act}
use Rattle.client_model.specs.declared.act.Failed.TheVariants.{Retries, PoolWait}
use Rattle.client_model.specs.declared.act.Hold.{Hold}
use Rattle.client_model.specs.declared.act.Hold.TheVariants.{Keep, Drop}
use Rattle.client_model.specs.declared.input.Wants.TheVariants as wants
use Rattle.client_model.specs.meaning.Talk.{stands, quiet, fails, with_tried, lost_of, begin_of, loses, on_waiting, on_try_failed, on_hello, sends_or_ends, next_call, takes, wants_in}
use Rattle.client_model.specs.meaning.Terms.{Terms, Talk, Phase, Idle, Unbegun, Queued, Seeking, Greeting, Asked, Running, Replaying, unsubmitted}
use Rattle.world_model.specs.meaning.Acting.{closing}
use Rattle.world_model.proofs.Offered.{awaits_after}
use Rattle.world_core.specs.declared.connection.Connection.{Connection}
use Rattle.world_core.specs.Linked.{MaySend}
use Rattle.world_core.specs.Stepping.{is_going}
use Rattle.world_core.specs.Underway.{MayRelease}
use Rattle.world_core.proofs.steps.Placing.{may_nothing}

-- WITH NOTHING SENT -------------------------------------------------------------------------------

-- nothing is sent, and a slot is lost at most
record IsSilent (act : Act) : Type 0 where
  sent : act.send ≡ []
  hold : (act.hold ≡ Keep) ⊎ (act.hold ≡ Drop)

waits_silent : (terms : Terms) (talk : Talk) (from now : ℕ) → IsSilent (on_waiting terms talk from now).1
waits_silent terms talk from now = by (nat_le terms.limits.wait (now - from))
  where
    by : (long : Bool) → IsSilent (if long then fails talk false None (PoolWait from now) else (stands talk (Queued (Some from)), quiet)).1
    by true = record { sent = refl; hold = inr refl }
    by false = record { sent = refl; hold = inl refl }

tried_silent : (terms : Terms) (talk : Talk) (now : ℕ) → IsSilent (on_try_failed terms talk now).1
tried_silent terms talk now = by (nat_le terms.limits.retries (talk.tries + 1))
  where
    by : (many : Bool) → IsSilent (if many then fails (with_tried talk now) false None (Retries (talk.tries + 1)) else (stands (with_tried talk now) (Seeking (lost_of talk.phase)), quiet)).1
    by true = record { sent = refl; hold = inr refl }
    by false = record { sent = refl; hold = inl refl }

silent_release : (act : Act) (pool : Slots) (number : ℕ) (holds_slot : Bool) → IsSilent act → (holds_slot ≡ true → 0 < pool.lent) → MayRelease pool number holds_slot act.hold
silent_release act pool number holds_slot silent slot = by act.hold silent.hold
  where
    drop : (holds : Bool) → holds_slot ≡ holds → MayRelease pool number holds Drop
    drop true is = slot is
    drop false is = tt

    by : (hold : Hold) → (hold ≡ Keep) ⊎ (hold ≡ Drop) → MayRelease pool number holds_slot hold
    by hold (inl keeps) = subst (λ (h : Hold). MayRelease pool number holds_slot h) (sym keeps) tt
    by hold (inr drops) = subst (λ (h : Hold). MayRelease pool number holds_slot h) (sym drops) (drop holds_slot refl)

silent_may : (act : Act) (pool : Slots) (number : ℕ) (found : Option Connection) → IsSilent act → MaySend found (act.send ++ closing act.hold (give_back_answer pool number))
silent_may act pool number found silent = by act.send act.hold silent.sent silent.hold
  where
    by : (frames : List Up) (hold : Hold) → frames ≡ [] → (hold ≡ Keep) ⊎ (hold ≡ Drop) → MaySend found (frames ++ closing hold (give_back_answer pool number))
    by frames hold none (inl keeps) =
        subst (λ (f : List Up). MaySend found (f ++ closing hold (give_back_answer pool number))) (sym none) (subst (λ (h : Hold). MaySend found ([] ++ closing h (give_back_answer pool number))) (sym keeps) (may_nothing found))
    by frames hold none (inr drops) =
        subst (λ (f : List Up). MaySend found (f ++ closing hold (give_back_answer pool number))) (sym none) (subst (λ (h : Hold). MaySend found ([] ++ closing h (give_back_answer pool number))) (sym drops) (may_nothing found))

pub waits_release : (terms : Terms) (talk : Talk) (from now : ℕ) (pool : Slots) (number : ℕ) → MayRelease pool number false (on_waiting terms talk from now).1.hold
waits_release terms talk from now pool number = silent_release (on_waiting terms talk from now).1 pool number false (waits_silent terms talk from now) (λ is. absurd (let none : ⊥ = cc in none))

pub waits_may : (terms : Terms) (talk : Talk) (from now : ℕ) (pool : Slots) (number : ℕ) (found : Option Connection) → MaySend found ((on_waiting terms talk from now).1.send ++ closing (on_waiting terms talk from now).1.hold (give_back_answer pool number))
waits_may terms talk from now pool number found = silent_may (on_waiting terms talk from now).1 pool number found (waits_silent terms talk from now)

pub tried_release : (terms : Terms) (talk : Talk) (now : ℕ) (pool : Slots) (number : ℕ) → 0 < pool.lent → MayRelease pool number true (on_try_failed terms talk now).1.hold
tried_release terms talk now pool number slot = silent_release (on_try_failed terms talk now).1 pool number true (tried_silent terms talk now) (λ is. slot)

pub tried_may : (terms : Terms) (talk : Talk) (now : ℕ) (pool : Slots) (number : ℕ) (found : Option Connection) → MaySend found ((on_try_failed terms talk now).1.send ++ closing (on_try_failed terms talk now).1.hold (give_back_answer pool number))
tried_may terms talk now pool number found = silent_may (on_try_failed terms talk now).1 pool number found (tried_silent terms talk now)

-- GOING ON ----------------------------------------------------------------------------------------

pub waits_going : (terms : Terms) (talk : Talk) (from now : ℕ) → (on_waiting terms talk from now).1.hold ≡ Keep → is_going (on_waiting terms talk from now).0.phase ≡ true
waits_going terms talk from now keeps = by (nat_le terms.limits.wait (now - from)) keeps
  where
    by : (long : Bool) → (if long then fails talk false None (PoolWait from now) else (stands talk (Queued (Some from)), quiet)).1.hold ≡ Keep
        → is_going (if long then fails talk false None (PoolWait from now) else (stands talk (Queued (Some from)), quiet)).0.phase ≡ true
    by true keeps = absurd (let none : ⊥ = cc in none)
    by false keeps = refl

pub tried_going : (terms : Terms) (talk : Talk) (now : ℕ) → (on_try_failed terms talk now).1.hold ≡ Keep → is_going (on_try_failed terms talk now).0.phase ≡ true
tried_going terms talk now keeps = by (nat_le terms.limits.retries (talk.tries + 1)) keeps
  where
    by : (many : Bool) → (if many then fails (with_tried talk now) false None (Retries (talk.tries + 1)) else (stands (with_tried talk now) (Seeking (lost_of talk.phase)), quiet)).1.hold ≡ Keep
        → is_going (if many then fails (with_tried talk now) false None (Retries (talk.tries + 1)) else (stands (with_tried talk now) (Seeking (lost_of talk.phase)), quiet)).0.phase ≡ true
    by true keeps = absurd (let none : ⊥ = cc in none)
    by false keeps = refl

pub lent_going : (terms : Terms) (talk : Talk) (ltxid : Ltxid) (now : ℕ) → (on_hello terms talk None ltxid true now).1.hold ≡ Keep → is_going (on_hello terms talk None ltxid true now).0.phase ≡ true
lent_going terms talk ltxid now keeps = by (next_call talk) keeps
  where
    by : (call : Option Call) → (sends_or_ends terms talk (record { track = unsubmitted terms; ltxid = ltxid }) true (begin_of talk ∷ []) None now call).1.hold ≡ Keep
        → is_going (sends_or_ends terms talk (record { track = unsubmitted terms; ltxid = ltxid }) true (begin_of talk ∷ []) None now call).0.phase ≡ true
    by None keeps = absurd (let none : ⊥ = cc in none)
    by (Some call) keeps = refl

pub frame_going : (terms : Terms) (talk : Talk) (phase : Phase) (now : ℕ) → wants_in terms talk phase now ≡ wants.Frame → is_going phase ≡ true
frame_going terms talk Idle now is = absurd (let none : ⊥ = cc in none)
frame_going terms talk Unbegun now is = absurd (let none : ⊥ = cc in none)
frame_going terms talk (Queued from) now is = refl
frame_going terms talk (Seeking lost) now is = refl
frame_going terms talk (Greeting lost) now is = refl
frame_going terms talk (Asked asking) now is = refl
frame_going terms talk (Running state) now is = refl
frame_going terms talk (Replaying state) now is = refl

pub took_going : (terms : Terms) (talk : Talk) (frame : Down) (alive : Bool) (now : ℕ) → wants_in terms talk talk.phase now ≡ wants.Frame → (takes terms talk talk.phase frame alive now).1.hold ≡ Keep
    → is_going (takes terms talk talk.phase frame alive now).0.phase ≡ true
took_going terms talk frame alive now awaits keeps =
    frame_going terms (takes terms talk talk.phase frame alive now).0 (takes terms talk talk.phase frame alive now).0.phase now (awaits_after terms talk frame alive now awaits keeps)

pub gone_going : (terms : Terms) (talk : Talk) (phase : Phase) (event now : ℕ) → wants_in terms talk phase now ≡ wants.Frame → is_going (loses phase event) ≡ true
gone_going terms talk Idle event now is = absurd (let none : ⊥ = cc in none)
gone_going terms talk Unbegun event now is = absurd (let none : ⊥ = cc in none)
gone_going terms talk (Queued from) event now is = refl
gone_going terms talk (Seeking lost) event now is = refl
gone_going terms talk (Greeting lost) event now is = refl
gone_going terms talk (Asked asking) event now is = refl
gone_going terms talk (Running state) event now is = refl
gone_going terms talk (Replaying state) event now is = refl
