-- Frames to the server: a payload is a tag and the fields, and a frame is the number of its bytes
-- and the payload. Here is what contracts and proofs say of it besides.
use Rattle.std.specs.Prelude.{ℕ, suc, ◌==◌, List, [], ◌∷◌, length, Result, Ok, Err, if◌then◌else◌}
use Rattle.svc_values.specs.Calls.{IsMade}
use Rattle.svc_values.specs.Identifiers.{IsLtxid}
use Rattle.svc_values.specs.declared.frame.Up.{Up}
use Rattle.svc_values.specs.declared.frame.Up.TheVariants as up
use Rattle.canon_bytes.specs.meaning.Numbers.{bool_at}
use Rattle.canon_bytes.specs.meaning.Draws.{draws_at}
use Rattle.canon_bytes.specs.Draws.{FitsDraws}
use Rattle.canon_bytes.specs.meaning.CallBytes.{call_at}
use Rattle.canon_bytes.specs.CallBytes.{FitsCall}
use Rattle.canon_bytes.specs.meaning.SettingsBytes.{settings_at}
use Rattle.canon_bytes.specs.SettingsBytes.{FitsSettings}
use Rattle.canon_bytes.specs.meaning.Entries.{ltxid_at}
use Rattle.canon_bytes.specs.Entries.{FitsLtxid}
use Rattle.canon_bytes.specs.meaning.Reading.{◌>>=◌}
use Rattle.canon_bytes.specs.declared.fault.Fault.{Fault}
use Rattle.canon_bytes.specs.declared.fault.Fault.TheVariants.{Short, BadTag}

abbrev pub FitsUp : Up → Type 0
FitsUp (up.Begin settings) = FitsSettings settings
FitsUp (up.Call replay kept call) = FitsDraws kept × FitsCall call
FitsUp (up.Outcome ltxid) = FitsLtxid ltxid
FitsUp _ = Unit {0}

-- what stands behind the tag of a call
unfoldable pub up_call_at : List ℕ → Result (Up × List ℕ) Fault
up_call_at bytes = do
  replay ← bool_at bytes
  kept ← draws_at replay.1
  call ← call_at kept.1
  Ok (up.Call replay.0 kept.0 call.0, call.1)

unfoldable pub up_at : List ℕ → Result (Up × List ℕ) Fault
up_at [] = Err Short
up_at (tag ∷ rest) =
    if tag == 1 then Ok (up.Connect, rest)
    else (if tag == 2 then (settings_at rest >>= λ settings. Ok (up.Begin settings.0, settings.1))
    else (if tag == 3 then up_call_at rest
    else (if tag == 4 then (ltxid_at rest >>= λ ltxid. Ok (up.Outcome ltxid.0, ltxid.1))
    else (if tag == 5 then Ok (up.End, rest)
    else (if tag == 6 then Ok (up.Close, rest)
    else Err (BadTag (suc (length rest))))))))

-- the rules that a writer's caller sees to
abbrev pub IsMadeUp : Up → Type 0
IsMadeUp (up.Call replay kept call) = IsMade call
IsMadeUp (up.Outcome ltxid) = IsLtxid ltxid
IsMadeUp _ = Unit {0}
