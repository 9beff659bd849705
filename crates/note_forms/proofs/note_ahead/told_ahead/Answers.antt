use Rattle.std.proofs.Common.{refl}
use Rattle.serde_json.specs.Data.{no_items}
use Rattle.note_forms.proofs.NotesAhead.{told_ends}
use Rattle.note_forms.proofs.note_ahead.told_ahead.Goals as goal

pub returns-in_ok-array_ends-in-None-clause-ends : goal.returns-in_ok-array_ends-in-None-clause-ends
returns-in_ok-array_ends-in-None-clause-ends c = rw c.in-None.is (no_items, c.in_ok-array_ends-in-None.ensures.ends c.args.depth, λ w d e. refl)

pub returns-in_ok-told-in-Some-clause-ends : goal.returns-in_ok-told-in-Some-clause-ends
returns-in_ok-told-in-Some-clause-ends c = rw c.in-Some.is (told_ends c.in-Some.word c.args.depth c.args.tokens.now c.result_ahead.new.tokens c.in_ok-told-in-Some.told c.in_ok-told-in-Some.ensures.ends)
