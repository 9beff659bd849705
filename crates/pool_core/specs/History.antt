-- What a list of calls of a pool tells by itself.
use Rattle.std.specs.Prelude.{ℕ, ◌-◌, Bool, true, false, List, [], ◌∷◌, ◌++◌, Option, Some, None, fold, count_by, if◌then◌else◌}
use Rattle.std.specs.List.{list_any, filter_map}
use Rattle.pool_core.specs.declared.answers.Take.{Take}
use Rattle.pool_core.specs.declared.answers.Take.TheVariants as take
use Rattle.pool_core.specs.declared.answers.Back.{Back}
use Rattle.pool_core.specs.declared.answers.Back.TheVariants as back
use Rattle.pool_core.specs.meaning.Slots.{without, joined}

-- a call of a pool with its answer; one that was refused memory changes nothing and is left out
pub data Did : Type 0 where
  Took : (client : ℕ) → Take → Did
  Opened : (connection : ℕ) → Did
  GaveBack : (connection : ℕ) → Back → Did
  Lost : Did
  Gone : (connection : ℕ) → Did
  Left : (client : ℕ) → Did
  Drained : (closed : List ℕ) → Did

-- a slot was granted
abbrev pub is_grant : Did → Bool
is_grant (Took client (take.Lent connection)) = true
is_grant (Took client take.Open) = true
is_grant _ = false

-- a slot was given up
abbrev pub is_return : Did → Bool
is_return (GaveBack connection answer) = true
is_return Lost = true
is_return _ = false

-- the slots that are held: those granted less those given up
abbrev pub held_after : List Did → ℕ
held_after history = count_by is_grant history - count_by is_return history

-- the queue as one call leaves it
abbrev pub queue_step : List ℕ → Did → List ℕ
queue_step queue (Took client take.Waiting) = joined queue client
queue_step queue (Took client take.Open) = without queue client
queue_step queue (Took client (take.Lent connection)) = without queue client
queue_step queue (Left client) = without queue client
queue_step queue _ = queue

-- the clients that were told to wait and were neither served since nor left, in the order in which
-- they joined
abbrev pub waiters_after : List Did → List ℕ
waiters_after history = fold queue_step [] history

-- the idle connections as one call leaves them
abbrev pub idle_step : List ℕ → Did → List ℕ
idle_step idle (Took client (take.Lent connection)) = without idle connection
idle_step idle (GaveBack connection back.Idle) = idle ++ connection ∷ []
idle_step idle (Gone connection) = without idle connection
idle_step idle (Drained closed) = []
idle_step idle _ = idle

-- the connections that were given back and kept, and were neither lent since nor gone, in the order
-- in which they came back
abbrev pub idle_after : List Did → List ℕ
idle_after history = fold idle_step [] history

-- the connections that are out as one call leaves them
abbrev pub out_step : List ℕ → Did → List ℕ
out_step out (Took client (take.Lent connection)) = out ++ connection ∷ []
out_step out (Opened connection) = out ++ connection ∷ []
out_step out (GaveBack connection answer) = without out connection
out_step out _ = out

-- the connections that were opened or lent and not given back since
abbrev pub out_after : List Did → List ℕ
out_after history = fold out_step [] history

abbrev pub opened_of : Did → Option ℕ
opened_of (Opened connection) = Some connection
opened_of _ = None

-- the connections that were opened, in order
abbrev pub opened_in : List Did → List ℕ
opened_in history = filter_map opened_of history

abbrev pub is_drain : Did → Bool
is_drain (Drained closed) = true
is_drain _ = false

-- the calls that a drain comes after
abbrev pub before_drain : List Did → List Did
before_drain [] = []
before_drain (did ∷ later) = if list_any is_drain later then did ∷ before_drain later else []

-- the connections that drain: they were opened before the last drain
abbrev pub draining_in : List Did → List ℕ
draining_in history = opened_in (before_drain history)
