use Rattle.std.proofs.Common.{rules}
use Rattle.note_forms.proofs.NotesAhead.{ask_ends}
use Rattle.note_forms.proofs.note_ahead.ask_ahead.Goals as goal

pub returns-clause-ends : goal.returns-clause-ends
returns-clause-ends c = ask_ends c.args.depth c.args.tokens.now c.ahead.new.tokens c.ahead-2.new.tokens c.told_ahead.new.tokens c.in_ok-ltxid.ltxid c.in_ok-word.word c.in_ok-told.told (search rules) (search rules) (search rules)
