-- The slots of a pool, the clients that wait for one, and the connections that are idle.
use Rattle.std.specs.Prelude.{ℕ, ◌+◌, ◌-◌, ◌==◌, Bool, not, nat_le, List, [], ◌∷◌, ◌++◌, length, filter, take_while, drop, if◌then◌else◌}
use Rattle.std.specs.List.{list_any}
use Rattle.pool_core.specs.declared.answers.Take.{Take}
use Rattle.pool_core.specs.declared.answers.Take.TheVariants as take
use Rattle.pool_core.specs.declared.answers.Back.{Back}
use Rattle.pool_core.specs.declared.answers.Back.TheVariants as back

-- `lent` counts the slots that requests hold, those that are connecting included. The queue is in
-- the order in which its clients joined it, and the idle connections are in the order in which they
-- were given back. `opened` is the last connection that was opened, and `drained` the one at the
-- last drain, each 0 where there is none.
pub record Slots : Type 0 where
  pub max : ℕ
  pub lent : ℕ
  pub queue : List ℕ
  pub idle : List ℕ
  pub opened : ℕ
  pub drained : ℕ

abbrev pub is_among : ℕ → List ℕ → Bool
is_among number numbers = list_any (λ other. other == number) numbers

-- the others, in order
abbrev pub without : List ℕ → ℕ → List ℕ
without numbers number = filter (λ other. not (other == number)) numbers

-- the waiters before the client, or all where it does not wait
abbrev pub ahead_of : List ℕ → ℕ → ℕ
ahead_of queue client = length (take_while (λ waiter. not (waiter == client)) queue)

-- a client that waits already keeps its place
abbrev pub joined : List ℕ → ℕ → List ℕ
joined queue client = if is_among client queue then queue else queue ++ client ∷ []

-- no slot is left for the client, since each waiter before it has one to come
abbrev pub has_to_wait : Slots → ℕ → Bool
has_to_wait slots client = nat_le slots.max (slots.lent + ahead_of slots.queue client)

-- the connection that has been idle longest, or a new one where none is idle
abbrev pub lends : List ℕ → Take
lends [] = take.Open
lends (connection ∷ later) = take.Lent connection

abbrev pub take_answer : Slots → ℕ → Take
take_answer slots client = if has_to_wait slots client then take.Waiting else lends slots.idle

abbrev pub after_take : Slots → ℕ → Slots
after_take slots client =
    if has_to_wait slots client then record slots { queue = joined slots.queue client }
    else record slots {
      lent = slots.lent + 1;
      queue = without slots.queue client;
      idle =
          drop 1 slots.idle;
    }

-- the connection was opened before the last drain
abbrev pub drains : Slots → ℕ → Bool
drains slots connection = nat_le connection slots.drained

abbrev pub give_back_answer : Slots → ℕ → Back
give_back_answer slots connection = if drains slots connection then back.Closed else back.Idle

abbrev pub after_give_back : Slots → ℕ → Slots
after_give_back slots connection = record slots {
  lent = slots.lent - 1;
  idle =
      if drains slots connection then slots.idle else slots.idle ++ connection ∷ [];
}

abbrev pub after_opened : Slots → ℕ → Slots
after_opened slots connection = record slots { opened = connection }

abbrev pub after_lost : Slots → Slots
after_lost slots = record slots { lent = slots.lent - 1 }

abbrev pub after_gone : Slots → ℕ → Slots
after_gone slots connection = record slots { idle = without slots.idle connection }

abbrev pub after_leave : Slots → ℕ → Slots
after_leave slots client = record slots { queue = without slots.queue client }

-- the idle connections are closed, and all others that were opened so far drain
abbrev pub after_drain : Slots → Slots
after_drain slots = record slots { idle = []; drained = slots.opened }

-- no slot is held
abbrev pub unused : ℕ → Slots
unused max = record { max = max; lent = 0; queue = []; idle = []; opened = 0; drained = 0 }
