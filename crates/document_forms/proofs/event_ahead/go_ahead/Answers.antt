use Rattle.std.proofs.Common.{rules}
use Rattle.json_form.specs.meaning.Values.{whole_of}
use Rattle.document_forms.specs.meaning.Events.{go_of}
use Rattle.outage_schedule.specs.declared.event.Event.TheVariants as event
use Rattle.document_forms.proofs.EventsAhead.{one_part, go_read}
use Rattle.document_forms.proofs.event_ahead.go_ahead.Goals as goal

pub returns-clause-ends : goal.returns-clause-ends
returns-clause-ends c = one_part (whole_of 1 c.args.clients) (go_of c.args.clients) c.args.depth c.args.tokens.now (event.Go c.in_ok-client.client) c.last_ahead.new.tokens c.in_ok-client.client (λ word d. go_read c.args.clients word d c.in_ok-client.client) (search rules)
