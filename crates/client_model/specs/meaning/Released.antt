-- What a Hold does to the pool.
use Rattle.std.specs.Prelude.{ℕ, Bool, true, false}
use Rattle.pool_core.specs.meaning.Slots.{Slots, after_give_back, after_lost, after_leave}
use Rattle.client_model.specs.declared.act.Hold.{Hold}
use Rattle.client_model.specs.declared.act.Hold.TheVariants.{Keep, GiveBack, Drop}

-- The pool after the act of a client's request: its connection comes back, or its slot is lost, or
-- it leaves the queue where it has no slot. A request whose first try failed has been given a slot
-- already.
abbrev pub released : Slots → (client connection : ℕ) → (holds_slot : Bool) → Hold → Slots
released slots client connection holds_slot Keep = slots
released slots client connection holds_slot GiveBack = after_give_back slots connection
released slots client connection true Drop = after_lost slots
released slots client connection false Drop = after_leave slots client
