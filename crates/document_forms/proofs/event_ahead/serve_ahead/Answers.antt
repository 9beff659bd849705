use Rattle.std.proofs.Common.{rules}
use Rattle.document_forms.specs.meaning.Events.{count_of, serve_of}
use Rattle.outage_schedule.specs.declared.event.Event.TheVariants as event
use Rattle.document_forms.proofs.EventsAhead.{one_part, serve_read}
use Rattle.document_forms.proofs.event_ahead.serve_ahead.Goals as goal

pub returns-clause-ends : goal.returns-clause-ends
returns-clause-ends c = one_part count_of serve_of c.args.depth c.args.tokens.now (event.Serve c.in_ok-connection.connection) c.last_ahead.new.tokens c.in_ok-connection.connection (λ word d. serve_read word d c.in_ok-connection.connection) (search rules)
