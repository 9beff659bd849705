use Rattle.std.proofs.Common.{rules}
use Rattle.note_forms.proofs.NotesAhead.{sent_ends}
use Rattle.note_forms.proofs.note_ahead.sent_ahead.Goals as goal

pub returns-clause-ends : goal.returns-clause-ends
returns-clause-ends c = sent_ends c.args.sent c.args.depth c.args.tokens.now c.ahead.new.tokens c.last_ahead.new.tokens c.in_ok-connection.connection c.in_ok-last_ahead.field-0 (search rules) (search rules)
