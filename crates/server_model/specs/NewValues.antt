-- Which values are drawn anew, told from what was served alone.
-- Here is what contracts and proofs say of it besides.
use Rattle.std.specs.Prelude.{Bool, true, false, Option, None}
use Rattle.server_model.specs.meaning.NewValues.{Numbers}

abbrev pub if_same : Bool → Option Numbers → Option Numbers
if_same true after = after
if_same false after = None
