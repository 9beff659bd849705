use Rattle.std.proofs.Common.{rules}
use Rattle.note_forms.proofs.NotesAhead.{go_ends}
use Rattle.note_forms.proofs.note_ahead.go_ahead.Goals as goal

pub returns-clause-ends : goal.returns-clause-ends
returns-clause-ends c = go_ends c.args.depth c.args.tokens.now c.ahead.new.tokens c.ahead-2.new.tokens c.did_ahead.new.tokens c.in_ok-client.client c.in_ok-word.word c.in_ok-did.did (search rules) (search rules) (search rules)
