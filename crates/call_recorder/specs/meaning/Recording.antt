-- What a recorder holds: at most `limit` calls, each with what was seen of it and what it drew.
use Rattle.std.specs.Prelude.{ℕ, List, [], ◌∷◌, ◌++◌}
use Rattle.call_recorder.specs.declared.recorded.Recorded.{Recorded}

pub record Recording : Type 0 where
  pub limit : ℕ
  pub calls : List Recorded

-- the call stands last
abbrev pub noted : Recording → Recorded → Recording
noted recording call = record recording { calls = recording.calls ++ call ∷ [] }

-- no call is left
abbrev pub purged : Recording → Recording
purged recording = record recording { calls = [] }
