use Rattle.std.proofs.Common.{rules}
use Rattle.entry_forms.proofs.object_ahead.member_next.Goals as goal

pub returns-clause-next : goal.returns-clause-next
returns-clause-next g c = (c.member_begins.new.tokens, (search rules), (search rules), c.in_ok-value.ensures.shorter)
