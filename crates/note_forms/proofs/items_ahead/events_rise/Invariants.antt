use Rattle.std.proofs.Common.{◌≡◌, drop}
use Rattle.note_forms.specs.ItemsAhead.{events_rise}
use Rattle.note_forms.proofs.items_ahead.events_rise.Given as goal

abbrev pub invariant-loop-item : goal.invariant-loop-item
invariant-loop-item l = events_rise l.last (drop l.item-index l.items) ≡ events_rise 0 l.items
