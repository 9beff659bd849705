-- What is drawn, and what was drawn.
use Rattle.std.specs.Prelude.{ℕ, suc, ◌==◌, List, [], ◌∷◌, ◌++◌, length, take, drop, Result, Ok, Err, nat_lt, if◌then◌else◌}
use Rattle.svc_values.specs.declared.draw.DrawKind.{DrawKind}
use Rattle.svc_values.specs.declared.draw.DrawKind.TheVariants as draw_kind
use Rattle.svc_values.specs.declared.draw.Draw.{Draw}
use Rattle.svc_values.specs.declared.draw.Draw.TheVariants as draw
use Rattle.canon_bytes.specs.meaning.Numbers.{spell_u64, spell_i64, u64_at, i64_at}
use Rattle.canon_bytes.specs.meaning.TextBytes.{spell_bytes, name_at}
use Rattle.canon_bytes.specs.meaning.Lists.{spell_list, listed_at}
use Rattle.canon_bytes.specs.meaning.Reading.{◌>>=◌}
use Rattle.canon_bytes.specs.declared.fault.Fault.{Fault}
use Rattle.canon_bytes.specs.declared.fault.Fault.TheVariants.{Short, BadTag}

abbrev pub spell_draw_kind : DrawKind → List ℕ
spell_draw_kind (draw_kind.Seq name) = 1 ∷ spell_bytes name
spell_draw_kind draw_kind.Clock = 2 ∷ []
spell_draw_kind draw_kind.Id = 3 ∷ []

unfoldable pub draw_kind_at : List ℕ → Result (DrawKind × List ℕ) Fault
draw_kind_at [] = Err Short
draw_kind_at (tag ∷ rest) =
    if tag == 1 then (name_at rest >>= λ name. Ok (draw_kind.Seq name.0, name.1))
    else (if tag == 2 then Ok (draw_kind.Clock, rest)
    else (if tag == 3 then Ok (draw_kind.Id, rest)
    else Err (BadTag (suc (length rest)))))

-- an identifier is its sixteen bytes, without their number
abbrev pub spell_draw : Draw → List ℕ
spell_draw (draw.Seq name value) = 1 ∷ (spell_bytes name ++ spell_i64 value)
spell_draw (draw.Clock tick) = 2 ∷ spell_u64 tick
spell_draw (draw.Id id) = 3 ∷ id

-- what stands behind the tags of a sequence's draw and of an identifier
unfoldable pub seq_draw_at : List ℕ → Result (Draw × List ℕ) Fault
seq_draw_at bytes = do
  name ← name_at bytes
  value ← i64_at name.1
  Ok (draw.Seq name.0 value.0, value.1)

unfoldable pub id_draw_at : List ℕ → Result (Draw × List ℕ) Fault
id_draw_at bytes = if nat_lt (length bytes) 16 then Err Short else Ok (
  draw.Id (take 16 bytes),
  drop 16 bytes,
)

unfoldable pub draw_at : List ℕ → Result (Draw × List ℕ) Fault
draw_at [] = Err Short
draw_at (tag ∷ rest) =
    if tag == 1 then seq_draw_at rest
    else (if tag == 2 then (u64_at rest >>= λ tick. Ok (draw.Clock tick.0, tick.1))
    else (if tag == 3 then id_draw_at rest
    else Err (BadTag (suc (length rest)))))

abbrev pub spell_draws : List Draw → List ℕ
spell_draws draws = spell_list spell_draw draws

abbrev pub draws_at : List ℕ → Result (List Draw × List ℕ) Fault
draws_at bytes = listed_at draw_at bytes
