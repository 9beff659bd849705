-- What holds of a pool over every list of calls.
use Rattle.std.specs.Prelude.{◌≡◌, ◌↔◌, ℕ, ◌+◌, ◌≤◌, true, false, List, [], ◌∷◌, ◌++◌}
use Rattle.pool_core.specs.declared.answers.Take.{Take}
use Rattle.pool_core.specs.declared.answers.Take.TheVariants as take
use Rattle.pool_core.specs.declared.answers.Back.{Back}
use Rattle.pool_core.specs.declared.answers.Back.TheVariants as back
use Rattle.pool_core.specs.meaning.Slots.{Slots, is_among, ahead_of, unused}
use Rattle.pool_core.specs.History.{Did, Took, GaveBack, held_after, waiters_after, idle_after, out_after, opened_in, draining_in}
use Rattle.pool_core.specs.Runs.{Run}

-- an answer of take, after the calls before it
pub record IsFairTake (max : ℕ) (before : List Did) (client : ℕ) (answer : Take) : Type 0 where
  -- the client waits exactly where no slot is left for it beside one for each waiter before it
  pub waits : (answer ≡ take.Waiting) ↔ (max ≤ held_after before
      + ahead_of (waiters_after before) client)
  -- no connection is lent that is out already
  pub lent_once : (connection : ℕ) → answer ≡ take.Lent connection
      → is_among connection (out_after before) ≡ false
  -- the one that is lent has been idle longest
  pub idle_longest : (connection : ℕ) → answer ≡ take.Lent connection
      → (later : List ℕ) × (idle_after before ≡ connection ∷ later)
  -- none that drains is lent
  pub not_draining : (connection : ℕ) → answer ≡ take.Lent connection
      → is_among connection (draining_in before) ≡ false
  -- a connection is opened only where none is idle
  pub none_idle : answer ≡ take.Open → idle_after before ≡ []

abbrev pub TakesFairly : Type 0
TakesFairly =
    (max : ℕ) (before after : List Did) (client : ℕ) (answer : Take) (last : Slots)
    → Run (unused max) (before ++ Took client answer ∷ after) last
    → IsFairTake max before client answer

-- a connection that was opened is closed when it is given back exactly where it drains
abbrev pub ClosesDraining : Type 0
ClosesDraining =
    (max : ℕ) (before after : List Did) (connection : ℕ) (answer : Back) (last : Slots)
    → Run (unused max) (before ++ GaveBack connection answer ∷ after) last
    → is_among connection (opened_in before) ≡ true
    → (answer ≡ back.Closed) ↔ (is_among connection (draining_in before) ≡ true)

-- what the pool holds is what its calls tell: the queue is in the order in which the waiters joined
-- it
pub record IsTold (max : ℕ) (history : List Did) (slots : Slots) : Type 0 where
  pub slots_are : slots.max ≡ max
  pub held : slots.lent ≡ held_after history
  pub waiters : slots.queue ≡ waiters_after history
  pub idle : slots.idle ≡ idle_after history

abbrev pub HoldsWhatIsTold : Type 0
HoldsWhatIsTold = (max : ℕ) (history : List Did) (last : Slots) → Run (unused max) history last
    → IsTold max history last
