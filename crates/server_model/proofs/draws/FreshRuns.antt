-- What a run draws anew is drawn once.
use Rattle.std.specs.Prelude.{◌+ℤ◌, ℕ, pos, Bool, true, false, List, [], ◌∷◌, map, Some, if◌then◌else◌}
use Rattle.std.specs.Str.{bytes_eq}
use Rattle.std.proofs.Common.{sym, append-nil}
use Rattle.server_model.specs.meaning.Base.{Sequence}
use Rattle.server_model.specs.Items.{items_of}
use Rattle.server_model.specs.meaning.NewValues.{count_of}
use Rattle.server_model.specs.meaning.Walk.{walk_of}
use Rattle.server_model.specs.Laws.{RunsFreshNew}
use Rattle.server_model.proofs.StoppedHistories.{later-none}
use Rattle.server_model.proofs.draws.Tracking.{count_in}
use Rattle.server_model.proofs.draws.DrawnRuns.{runs-draws, items-drawn}
use Rattle.server_model.proofs.draws.NewLater.{WithinOne, le-self}
use Rattle.server_model.proofs.draws.NewOnce.{items-once}
use Rattle.server_model.proofs.draws.RoomRuns.{runs_have_room}

pub start-within : (sequences : List Sequence) (name : List ℕ) → WithinOne (count_in (map count_of sequences) name)
start-within [] name = tt
start-within (sequence ∷ sequences) name = by (bytes_eq sequence.name name) (start-within sequences name)
  where
    by : (b : Bool) → WithinOne (count_in (map count_of sequences) name) → WithinOne (if b then Some (count_of sequence) else count_in (map count_of sequences) name)
    by true more = le-self (sequence.upto +ℤ pos 1)
    by false more = more

pub runs_fresh_new : RunsFreshNew
runs_fresh_new base history server sound runs stops =
    let drawn = runs-draws base history server sound runs stops [] server.core.entries (later-none history) (sym (append-nil server.core.entries)) in
    (items-once base (walk_of base server.core.entries) (items_of history) (λ name. start-within base.sequences name) (items-drawn base (walk_of base server.core.entries) history 0 drawn.right) (runs_have_room base history server sound runs stops)).once
