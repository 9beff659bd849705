use Rattle.std.proofs.Common.{rules}
use Rattle.document_forms.specs.meaning.Events.{count_of, cut_of}
use Rattle.outage_schedule.specs.declared.event.Event.TheVariants as event
use Rattle.document_forms.proofs.EventsAhead.{three_parts, cut_read}
use Rattle.document_forms.proofs.event_ahead.cut_ahead.Goals as goal

pub returns-clause-ends : goal.returns-clause-ends
returns-clause-ends c = three_parts count_of cut_of c.args.depth c.args.tokens.now (event.Cut c.in_ok-connection.connection c.in_ok-up.up c.in_ok-down.down) c.last_ahead.new.tokens c.ahead.new.tokens c.ahead-2.new.tokens c.in_ok-connection.connection c.in_ok-up.up c.in_ok-down.down (λ word d e f. cut_read word d e f c.in_ok-connection.connection c.in_ok-up.up c.in_ok-down.down) (search rules) (search rules) (search rules)
