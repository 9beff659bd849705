use Rattle.std.proofs.Common.{rules}
use Rattle.document_forms.proofs.EventsAhead.{ltxid_joined}
use Rattle.document_forms.proofs.event_ahead.ltxid_ahead.Goals as goal

pub returns-clause-begins : goal.returns-clause-begins
returns-clause-begins c = ltxid_joined c.args.depth c.in_ok-inside.inside c.args.tokens.now c.array_begins.new.tokens c.ahead.new.tokens c.ahead-2.new.tokens c.last_ahead.new.tokens c.in_ok-incarnation.incarnation c.in_ok-session.session c.in_ok-number.number c.in_ok-inside.ensures.array (search rules) (search rules) (search rules)
