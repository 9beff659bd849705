-- The calls that a session served.
use Rattle.std.specs.Prelude.{List, map}
use Rattle.svc_values.specs.declared.call.Call.{Call}
use Rattle.shown_clauses.specs.meaning.Links.{Marked}

abbrev pub calls_in : List Marked → List Call
calls_in marked = map (λ one. one.call) marked
