use Rattle.std.proofs.Common.{rules}
use Rattle.document_forms.specs.meaning.Events.{count_of, reap_of}
use Rattle.outage_schedule.specs.declared.event.Event.TheVariants as event
use Rattle.document_forms.proofs.EventsAhead.{one_part, reap_read}
use Rattle.document_forms.proofs.event_ahead.reap_ahead.Goals as goal

pub returns-clause-ends : goal.returns-clause-ends
returns-clause-ends c = one_part count_of reap_of c.args.depth c.args.tokens.now (event.Reap c.in_ok-connection.connection) c.last_ahead.new.tokens c.in_ok-connection.connection (λ word d. reap_read word d c.in_ok-connection.connection) (search rules)
