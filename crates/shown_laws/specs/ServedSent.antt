-- What a connection's session served since the last Begin, beside the frames that were sent.
use Rattle.std.specs.Prelude.{◌≡◌, ◌&&◌, Bool, not, IsTrue, List, ◌++◌, map, reverse, Some}
use Rattle.std.specs.List.{list_all}
use Rattle.shown_clauses.specs.meaning.Links.{Marked}
use Rattle.world_model.specs.meaning.Frames.{Sent, Handled}
use Rattle.world_model.specs.Sames.{is_front, same_sent}
use Rattle.world_model.specs.meaning.Serving.{is_blocked}
use Rattle.invariant_laws.specs.Shown.{is_marked}
use Rattle.world_model.specs.records.Wire.{handled_from}
use Rattle.shown_laws.specs.TurnRows.{ServedOf}
use Rattle.shown_laws.specs.TurnSent.{sent_since}
use Rattle.shown_laws.specs.TurnsServed.{calls_served}

-- no call with the mark met a block
abbrev pub none_blocked : List Handled → Bool
none_blocked served = list_all (λ one. not (is_blocked one.served.item && is_marked one.sent.frame))
    served

-- The calls since the last Begin that was served are those of the frames that were served since it,
-- in order, and whatever was sent behind.
abbrev pub ServesItsFrames : Type 0
ServesItsFrames =
    (served : List Handled) (calls : List Marked) (behind : List Sent)
    → IsTrue (handled_from 0 served) → IsTrue (none_blocked served)
    → calls_served served ≡ Some calls
    → ServedOf (reverse calls) (sent_since (map (λ one. one.sent) served) ++ behind)

-- so many frames that were sent first, which are those that were served: by them the calls since
-- the last Begin are told
pub record ServesFront (served : List Handled) (calls : List Marked)
    (sents : List Sent) : Type 0 where
  pub taken : List Sent
  pub rest : List Sent
  pub sent : sents ≡ taken ++ rest
  pub same : sent_since (map (λ one. one.sent) served) ≡ sent_since taken
  pub are : (behind : List Sent) → ServedOf (reverse calls) (sent_since taken ++ behind)

abbrev pub ServesAFront : Type 0
ServesAFront =
    (served : List Handled) (calls : List Marked) (sents : List Sent)
    → IsTrue (handled_from 0 served) → IsTrue (none_blocked served)
    → calls_served served ≡ Some calls
    → IsTrue (is_front same_sent (map (λ one. one.sent) served) sents)
    → ServesFront served calls sents
