use Rattle.std.proofs.Common.{rules}
use Rattle.note_forms.proofs.NotesAhead.{serve_ends}
use Rattle.note_forms.proofs.note_ahead.serve_ahead.Goals as goal

pub returns-clause-ends : goal.returns-clause-ends
returns-clause-ends c = serve_ends c.args.depth c.args.tokens.now c.ahead.new.tokens c.last_ahead.new.tokens c.in_ok-connection.connection c.in_ok-frame.frame (search rules) (search rules)
