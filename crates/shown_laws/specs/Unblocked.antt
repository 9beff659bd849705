-- A session answers Blocked only to a call without the mark.
use Rattle.std.specs.Prelude.{Bool}
use Rattle.std.specs.List.{list_all}
use Rattle.world_model.specs.meaning.Links.{Link}
use Rattle.world_model.specs.Traced.{Traced}
use Rattle.shown_laws.specs.ServedSent.{none_blocked}

-- on a connection, and on all of them
abbrev pub serves_unblocked : Link → Bool
serves_unblocked link = none_blocked link.served

abbrev pub serve_unblocked : Traced → Bool
serve_unblocked t = list_all serves_unblocked t.machine.links
