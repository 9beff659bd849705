use Rattle.note_forms.proofs.NotesAhead.{note_joined}
use Rattle.note_forms.proofs.note_ahead.note_ahead.Goals as goal

pub returns-clause-begins : goal.returns-clause-begins
returns-clause-begins c = note_joined c.in_ok-word.word c.args.depth c.in_ok-inside.inside c.args.tokens.now c.array_begins.new.tokens c.word_ahead.new.tokens c.parts_ahead.new.tokens c.in_ok-one.one c.in_ok-inside.ensures.array (c.in_ok-word.ensures.begins c.in_ok-inside.inside) c.in_ok-one.ensures.ends
