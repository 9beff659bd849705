-- Runs of a pool: lists of calls that it may be given, with its answers.
use Rattle.std.specs.Prelude.{◌≡◌, ◌<◌, ◌≤◌, false, List, [], ◌∷◌}
use Rattle.pool_core.specs.meaning.Slots.{Slots, is_among, take_answer, after_take, give_back_answer, after_give_back, after_opened, after_lost, after_gone, after_leave, after_drain}
use Rattle.pool_core.specs.History.{Did, Took, Opened, GaveBack, Lost, Gone, Left, Drained}

-- the pool gives this answer and stands so afterwards
abbrev pub Step : Slots → Did → Slots → Type 0
Step slots (Took client answer) next = (answer ≡ take_answer slots client)
    × (next ≡ after_take slots client)
Step slots (Opened connection) next = (slots.opened < connection)
    × (next ≡ after_opened slots connection)
Step slots (GaveBack connection answer) next =
    (0 < slots.lent) × (connection ≤ slots.opened) × (is_among connection slots.idle ≡ false)
    × (answer ≡ give_back_answer slots connection) × (next ≡ after_give_back slots connection)
Step slots Lost next = (0 < slots.lent) × (next ≡ after_lost slots)
Step slots (Gone connection) next = next ≡ after_gone slots connection
Step slots (Left client) next = next ≡ after_leave slots client
Step slots (Drained closed) next = (closed ≡ slots.idle) × (next ≡ after_drain slots)

abbrev pub Run : Slots → List Did → Slots → Type 0
Run first [] last = last ≡ first
Run first (did ∷ later) last = (next : Slots) × Step first did next × Run next later last
