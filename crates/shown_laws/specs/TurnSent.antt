-- The calls that were sent on a connection since the last Begin.
use Rattle.std.specs.Prelude.{IsTrue, List, [], ◌∷◌, ◌++◌, fold, Option}
use Rattle.std.specs.List.{list_all}
use Rattle.svc_values.specs.declared.frame.Up.{Up}
use Rattle.svc_values.specs.declared.frame.Up.TheVariants as up
use Rattle.world_model.specs.meaning.Frames.{Owner, Sent}
use Rattle.world_model.specs.meaning.Links.{Link}
use Rattle.world_model.specs.Sames.{same_owners}
use Rattle.world_model.specs.records.Wire.{stage_of, is_right}
use Rattle.shown_laws.specs.TurnRows.{are_marked_first}

abbrev pub calls_with : List Sent → Sent → Up → List Sent
calls_with calls sent (up.Begin settings) = []
calls_with calls sent (up.Call replay kept call) = calls ++ sent ∷ []
calls_with calls sent _ = calls

abbrev pub sent_since : List Sent → List Sent
sent_since sent = fold (λ calls one. calls_with calls one one.frame) [] sent

-- They are of one request, those with the mark first.
pub record IsTurn (calls : List Sent) : Type 0 where
  pub owner : Option Owner
  pub owned : IsTrue (list_all (λ sent. same_owners owner sent.owner) calls)
  pub marked : IsTrue (are_marked_first calls)

-- so it is on each connection in the grammar
abbrev pub TurnsHaveOneOwner : Type 0
TurnsHaveOneOwner = (link : Link) → IsTrue (is_right (stage_of link))
    → IsTurn (sent_since link.sent)
