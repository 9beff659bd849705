-- The states of a request whose connection may be lost, and how one comes from another.
-- Here is what contracts and proofs say of it besides.
use Rattle.std.specs.Prelude.{◌≤◌, length}
use Rattle.client_model.specs.meaning.States.{Repeating}

-- no more calls were verified than are recorded, and these are among those before the call to be
-- sent
pub record IsRepeating (state : Repeating) : Type 0 where
  pub within : state.verified ≤ length state.track.recorder.calls
  pub before : length state.track.recorder.calls ≤ state.track.call
