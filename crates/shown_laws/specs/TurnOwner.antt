-- The calls since the last Begin are all that their request sent on the connection.
use Rattle.std.specs.Prelude.{◌≡◌, IsTrue, List, [], filter, fold, Option}
use Rattle.invariant_laws.specs.FirstBegins.{begin_new, is_call_by}
use Rattle.world_model.specs.meaning.Frames.{Owner, Sent}
use Rattle.world_model.specs.records.Wire.{New, next_stage, is_right}
use Rattle.shown_laws.specs.TurnSent.{sent_since}

-- the calls of a request among these frames
abbrev pub calls_by : Option Owner → List Sent → List Sent
calls_by owner sents = filter (is_call_by owner) sents

pub record AreAll (sents calls : List Sent) : Type 0 where
  pub owner : Option Owner
  pub all : calls_by owner sents ≡ calls

abbrev pub TurnsHaveAllCalls : Type 0
TurnsHaveAllCalls =
    (sents : List Sent) → IsTrue (is_right
    (fold (λ stage sent. next_stage stage sent.owner sent.frame) New sents))
    → IsTrue (begin_new [] sents) → AreAll sents (sent_since sents)
