-- Frames to the server: a payload is a tag and the fields, and a frame is the number of its bytes
-- and the payload.
use Rattle.std.specs.Prelude.{ℕ, List, [], ◌∷◌, ◌++◌}
use Rattle.svc_values.specs.declared.frame.Up.{Up}
use Rattle.svc_values.specs.declared.frame.Up.TheVariants as up
use Rattle.canon_bytes.specs.meaning.Numbers.{spell_bool}
use Rattle.canon_bytes.specs.meaning.TextBytes.{spell_bytes}
use Rattle.canon_bytes.specs.meaning.Draws.{spell_draws}
use Rattle.canon_bytes.specs.meaning.CallBytes.{spell_call}
use Rattle.canon_bytes.specs.meaning.SettingsBytes.{spell_settings}
use Rattle.canon_bytes.specs.meaning.Entries.{spell_ltxid}

abbrev pub spell_up : Up → List ℕ
spell_up up.Connect = 1 ∷ []
spell_up (up.Begin settings) = 2 ∷ spell_settings settings
spell_up (up.Call replay kept call) = 3 ∷ (spell_bool replay ++ spell_draws kept ++ spell_call call)
spell_up (up.Outcome ltxid) = 4 ∷ spell_ltxid ltxid
spell_up up.End = 5 ∷ []
spell_up up.Close = 6 ∷ []

-- the frame: the number of the payload's bytes, and the payload
abbrev pub up_frame : Up → List ℕ
up_frame frame = spell_bytes (spell_up frame)
