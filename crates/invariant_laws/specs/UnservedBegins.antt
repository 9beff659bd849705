-- A Begin that was not served yet is of the request that sent the last frame on its connection.
use Rattle.std.specs.Prelude.{Bool, List, fold, Option, None}
use Rattle.std.specs.List.{list_all}
use Rattle.std.specs.Option.{option_or}
use Rattle.invariant_laws.specs.Begins.{is_begin_frame}
use Rattle.world_model.specs.meaning.Frames.{Owner, Sent}
use Rattle.world_model.specs.meaning.Links.{Link}
use Rattle.world_model.specs.Parts.{implies}
use Rattle.world_model.specs.Sames.{same_owners}
use Rattle.world_model.specs.Traced.{Traced}

-- the request that sent the last frame, where one did
abbrev pub last_owner : List Sent → Option Owner
last_owner sents = fold (λ found sent. option_or sent.owner found) None sents

abbrev pub is_of_last : Option Owner → Sent → Bool
is_of_last last sent = implies (is_begin_frame sent.frame) (same_owners sent.owner last)

abbrev pub begins_of_last : Link → Bool
begins_of_last link = list_all (is_of_last (last_owner link.sent)) link.up

abbrev pub begin_last : Traced → Bool
begin_last t = list_all begins_of_last t.machine.links
