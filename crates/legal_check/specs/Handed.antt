-- Lines that a service was handed, item by item.
use Rattle.std.specs.Prelude.{List, []}
use Rattle.server_model.specs.meaning.Items.{Item, Did, AskTold, AskStopped}
use Rattle.server_model.specs.meaning.Legal.{Line, line_in}

-- those of one item
abbrev pub lines_at : Item → List Line
lines_at (Did event now session thing) = line_in thing
lines_at (AskTold event x outcome) = []
lines_at (AskStopped event x) = []
