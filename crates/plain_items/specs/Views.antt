-- How items are seen.
use Rattle.std.specs.Prelude.{[]}
use Rattle.std.specs.Option.{option_map_or}
use Rattle.plain_items.specs.declared.item.Thing.{Thing as ThingAt}
use Rattle.plain_items.specs.declared.item.Thing.TheVariants as thing
use Rattle.plain_items.specs.declared.item.Item.{Item as ItemAt}
use Rattle.plain_items.specs.declared.item.Item.TheVariants as item
use Rattle.server_model.specs.meaning.Items.{Thing, Connected, Began, Called, MetBlock, TellsOutcome, EndedRequest, Closed, Refused, CallStopped, OutcomeStopped, Item, Did, AskTold}
use Rattle.shown_clauses.specs.meaning.Things.{outcome_of}

abbrev pub thing_as : ThingAt → Thing
thing_as thing.Connected = Connected
thing_as (thing.Began settings) = Began (option_map_or (λ one. one.now) settings [])
thing_as (thing.Called replay kept call answers draws) =
    Called replay kept.now call.now answers.now draws.now
thing_as (thing.MetBlock replay call) = MetBlock replay call.now
thing_as (thing.ToldOutcome x told) = TellsOutcome x (outcome_of told)
thing_as thing.EndedRequest = EndedRequest
thing_as thing.Closed = Closed
thing_as thing.Refused = Refused
thing_as (thing.CallStopped replay call) = CallStopped replay call.now
thing_as (thing.OutcomeStopped x) = OutcomeStopped x

abbrev pub item_as : ItemAt → Item
item_as (item.Did event now session thing) = Did event now session (thing_as thing)
item_as (item.AskTold event x told) = AskTold event x (outcome_of told)
