-- A list to which made calls are added.
use Rattle.std.proofs.Common.{List, [], ◌∷◌, ◌++◌}
use Rattle.std.specs.List.{AllByRecursion}
use Rattle.svc_values.specs.declared.call.Call.{Call}
use Rattle.svc_values.specs.Calls.{IsMade}

pub made_last : (calls : List Call) (one : Call) → AllByRecursion IsMade calls → IsMade one → AllByRecursion IsMade (calls ++ one ∷ [])
made_last [] one all made = (made, tt)
made_last (first ∷ calls) one all made = (all.0, made_last calls one all.1 made)
