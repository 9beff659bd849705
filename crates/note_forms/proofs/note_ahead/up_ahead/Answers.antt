use Rattle.std.proofs.Common.{rules}
use Rattle.std.proofs.Common.{◌≡◌, Ok}
use Rattle.serde_json.specs.Data.{Data, array, Items, item}
use Rattle.note_forms.specs.meaning.Notes.{incarnation_in, up_in}
use Rattle.outage_schedule.specs.declared.note.Note.TheVariants as note
use Rattle.note_forms.proofs.NotesAhead.{last_one, up_read}
use Rattle.note_forms.proofs.note_ahead.up_ahead.Goals as goal

pub returns-clause-ends : goal.returns-clause-ends
returns-clause-ends c = last_one (λ (ds : Items). (word : Data) → up_in (array (item word ds)) ≡ Ok (note.Up c.in_ok-incarnation.incarnation)) incarnation_in c.args.depth c.args.tokens.now c.last_ahead.new.tokens c.in_ok-incarnation.incarnation (λ d h word. up_read word d c.in_ok-incarnation.incarnation h) (search rules)
