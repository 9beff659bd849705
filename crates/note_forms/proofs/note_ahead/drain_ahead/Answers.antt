use Rattle.std.proofs.Common.{rules}
use Rattle.std.proofs.Common.{◌≡◌, Ok}
use Rattle.serde_json.specs.Data.{Data, array, Items, item}
use Rattle.answer_forms.specs.meaning.Parts.{number_in}
use Rattle.note_forms.specs.meaning.Notes.{drain_in}
use Rattle.outage_schedule.specs.declared.note.Note.TheVariants as note
use Rattle.note_forms.proofs.NotesAhead.{last_one, drain_read}
use Rattle.note_forms.proofs.note_ahead.drain_ahead.Goals as goal

pub returns-clause-ends : goal.returns-clause-ends
returns-clause-ends c = last_one (λ (ds : Items). (word : Data) → drain_in (array (item word ds)) ≡ Ok (note.Drain c.in_ok-closed.closed)) number_in c.args.depth c.args.tokens.now c.last_ahead.new.tokens c.in_ok-closed.closed (λ d h word. drain_read word d c.in_ok-closed.closed h) (search rules)
