-- What was served, as a report tells it: one item for each thing that happened.
-- Here is what contracts and proofs say of it besides.
use Rattle.std.specs.Prelude.{ℕ, ◌+◌, List, [], ◌∷◌}
use Rattle.server_model.specs.Runs.{Happened, Served, Asked}
use Rattle.server_model.specs.meaning.Items.{AskStopped, AskTold, Did, Item, asked_of, thing_of}

abbrev pub event_of : Item → ℕ
event_of (Did event now session thing) = event
event_of (AskTold event x outcome) = event
event_of (AskStopped event x) = event

abbrev pub item_of : ℕ → Happened → Item
item_of event (Served session now frame told) = Did event now session (thing_of frame told)
item_of event (Asked x told) = asked_of event x told

-- the items of a history, each with its place in it
abbrev pub items_from : ℕ → List Happened → List Item
items_from event [] = []
items_from event (happened ∷ more) = item_of event happened ∷ items_from (event + 1) more

abbrev pub items_of : List Happened → List Item
items_of history = items_from 0 history
