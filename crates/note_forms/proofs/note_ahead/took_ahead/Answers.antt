use Rattle.std.proofs.Common.{rules}
use Rattle.note_forms.proofs.NotesAhead.{took_ends}
use Rattle.note_forms.proofs.note_ahead.took_ahead.Goals as goal

pub returns-clause-ends : goal.returns-clause-ends
returns-clause-ends c = took_ends c.args.depth c.args.tokens.now c.ahead.new.tokens c.last_ahead.new.tokens c.in_ok-connection.connection c.in_ok-sent.sent (search rules) (search rules)
