-- What is told of an identifier, by the outcome table.
use Rattle.std.specs.Prelude.{Option, Some, None}
use Rattle.svc_values.specs.declared.frame.Down.{Down}

-- What is told of a frame: nothing, a frame, or nothing because the store was stopped before the
-- answer.
pub data Telling : Type 0 where
  Silent : Telling
  Says : (frame : Down) → Telling
  Stopped : Telling

-- of an answer, which is a frame or none
abbrev pub telling_of : Option Down → Telling
telling_of None = Silent
telling_of (Some frame) = Says frame
