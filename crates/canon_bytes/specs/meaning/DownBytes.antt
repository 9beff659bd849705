-- Frames to the client: a payload is a tag and the fields, and a frame is the number of its bytes
-- and the payload.
use Rattle.std.specs.Prelude.{ℕ, List, [], ◌∷◌, ◌++◌}
use Rattle.svc_values.specs.declared.frame.Ahead.{Ahead}
use Rattle.svc_values.specs.declared.frame.Ahead.TheVariants as ahead
use Rattle.svc_values.specs.declared.frame.Down.{Down}
use Rattle.svc_values.specs.declared.frame.Down.TheVariants as down
use Rattle.canon_bytes.specs.meaning.Numbers.{spell_u64, spell_bool}
use Rattle.canon_bytes.specs.meaning.TextBytes.{spell_bytes}
use Rattle.canon_bytes.specs.meaning.Draws.{spell_draws}
use Rattle.canon_bytes.specs.meaning.AnswerBytes.{spell_answers}
use Rattle.canon_bytes.specs.meaning.Entries.{spell_ltxid}

abbrev pub spell_ahead : Ahead → List ℕ
spell_ahead ahead.Server = 1 ∷ []
spell_ahead ahead.Client = 2 ∷ []
spell_ahead ahead.Forgotten = 3 ∷ []

abbrev pub spell_down : Down → List ℕ
spell_down (down.Hello ltxid) = 17 ∷ spell_ltxid ltxid
spell_down (down.Reply answers draws ltxid) =
    18 ∷ (spell_answers answers ++ spell_draws draws ++ spell_ltxid ltxid)
spell_down (down.OutcomeIs committed completed) =
    19 ∷ (spell_bool committed ++ spell_bool completed)
spell_down (down.OutcomeRefused who next) = 20 ∷ (spell_ahead who ++ spell_u64 next)
spell_down down.Blocked = 21 ∷ []
spell_down (down.Refused cause) = 22 ∷ cause ∷ []

-- the frame: the number of the payload's bytes, and the payload
abbrev pub down_frame : Down → List ℕ
down_frame frame = spell_bytes (spell_down frame)
