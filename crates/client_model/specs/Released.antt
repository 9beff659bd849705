-- What a Hold does to the pool.
-- Here is what contracts and proofs say of it besides.
use Rattle.std.specs.Prelude.{Bool, true, false}
use Rattle.client_model.specs.meaning.Terms.{Phase, Idle, Unbegun, Queued}

-- a request has a slot in each phase behind the queue
abbrev pub has_slot : Phase → Bool
has_slot Idle = false
has_slot Unbegun = false
has_slot (Queued from) = false
has_slot _ = true
