-- How items and moments with their places are seen.
use Rattle.run_clauses.specs.meaning.Moments.{HappenedAt}
use Rattle.server_model.specs.meaning.Items.{Item}
use Rattle.plain_items.specs.Views.{item_as}
use Rattle.report_moments.specs.declared.moments.At.{At}
use Rattle.report_moments.specs.declared.moments.Moment.{Moment}
use Rattle.report_moments.specs.Views.{moment_as}
use Rattle.legal_items.specs.declared.placed.PlacedItem.{PlacedItem}

-- without its place
abbrev pub item_in : PlacedItem → Item
item_in one = item_as one.item

-- with its place
abbrev pub placed_as : PlacedItem → At × Item
placed_as one = (one.at, item_as one.item)

abbrev pub moment_at : Moment → At × HappenedAt
moment_at moment = (moment.at, moment_as moment)
