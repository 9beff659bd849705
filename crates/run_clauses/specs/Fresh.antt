-- No value that was drawn of a sequence, and no identifier value, stands twice among a report's
-- entries. Here is what contracts and proofs say of it besides.
use Rattle.std.specs.Prelude.{◌&&◌, Bool}
use Rattle.svc_values.specs.declared.draw.Draw.{Draw}
use Rattle.svc_values.specs.meaning.Same.{same_draw}
use Rattle.server_model.specs.meaning.Fresh.{is_single}

-- the same value of the same sequence, or the same identifier value; a tick may stand again
abbrev pub is_given_again : Draw → Draw → Bool
is_given_again a b = is_single a && same_draw a b
