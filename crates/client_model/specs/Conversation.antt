-- Conversations: what a client does over a list of inputs, each at its tick.
-- Here is what contracts and proofs say of it besides.
use Rattle.std.specs.Prelude.{Bool, true, false, not, ◌&&◌, ◌||◌, IsTrue, List, [], ◌∷◌}
use Rattle.client_model.specs.declared.input.Input.{Input}
use Rattle.client_model.specs.declared.input.Input.TheVariants.{Start, Waiting, Lent, Opened, TryFailed, Took, Gone}
use Rattle.client_model.specs.declared.input.Wants.{Wants}
use Rattle.client_model.specs.declared.input.Wants.TheVariants as wants
use Rattle.client_model.specs.declared.act.Hold.{Hold}
use Rattle.client_model.specs.declared.act.Hold.TheVariants.{Keep}
use Rattle.client_model.specs.meaning.Terms.{Terms, Talk}
use Rattle.client_model.specs.meaning.Talk.{wants_of}
use Rattle.client_model.specs.meaning.Conversation.{Done, Timed, done_at, talk_at}

-- the steps of the whole list
abbrev pub steps_of : Terms → Talk → List Timed → List Done
steps_of terms talk [] = []
steps_of terms talk (one ∷ inputs) = done_at terms talk one
    ∷ steps_of terms (talk_at terms talk one) inputs

-- and where they lead
abbrev pub talk_after : Terms → Talk → List Timed → Talk
talk_after terms talk [] = talk
talk_after terms talk (one ∷ inputs) = talk_after terms (talk_at terms talk one) inputs

-- which inputs serve a want
abbrev pub is_wanted : Wants → Input → Bool
is_wanted wants.Request Start = true
is_wanted wants.Slot Waiting = true
is_wanted wants.Slot (Lent connection ltxid) = true
is_wanted wants.Slot (Opened connection) = true
is_wanted wants.Slot TryFailed = true
is_wanted wants.Try (Opened connection) = true
is_wanted wants.Try TryFailed = true
is_wanted wants.Frame (Took frame alive) = true
is_wanted wants.Frame (Gone event) = true
is_wanted _ _ = false

-- A dead connection gives its frames and then its loss: where a frame came from one and the request
-- goes on, Gone is the next input.
abbrev pub is_gone_next : Input → Hold → Bool
is_gone_next (Took frame false) Keep = true
is_gone_next _ _ = false

abbrev pub is_gone : Input → Bool
is_gone (Gone event) = true
is_gone _ = false

-- an input may come where it is wanted, and where Gone is due only Gone
abbrev pub may_come : Bool → Wants → Input → Bool
may_come gone_next wants input = is_wanted wants input && (is_gone input || not gone_next)

-- each input of the list may come at its turn
abbrev pub MayCome : Terms → Talk → Bool → List Timed → Type 0
MayCome terms talk gone_next [] = Unit {0}
MayCome terms talk gone_next (one ∷ inputs) =
    IsTrue (may_come gone_next (wants_of terms talk one.1) one.0)
    × MayCome terms (talk_at terms talk one) (is_gone_next one.0 (done_at terms talk one).act.hold)
    inputs
