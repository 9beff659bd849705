use Rattle.std.proofs.Common.{refl}
use Rattle.serde_json.specs.Data.{no_items}
use Rattle.note_forms.proofs.note_ahead.tick_ahead.Goals as goal

pub returns-clause-ends : goal.returns-clause-ends
returns-clause-ends c = λ depth. (no_items, c.in_ok-array_ends.ensures.ends depth, λ word. refl)
