use Rattle.std.proofs.Common.{rules}
use Rattle.document_forms.specs.meaning.Events.{ltxid_of, ask_of}
use Rattle.outage_schedule.specs.declared.event.Event.TheVariants as event
use Rattle.document_forms.proofs.EventsAhead.{one_part, ask_read}
use Rattle.document_forms.proofs.event_ahead.ask_ahead.Goals as goal

pub returns-clause-ends : goal.returns-clause-ends
returns-clause-ends c = one_part ltxid_of ask_of c.args.depth c.args.tokens.now (event.Ask c.in_ok-ltxid.ltxid) c.last_ahead.new.tokens c.in_ok-ltxid.ltxid (λ word d. ask_read word d c.in_ok-ltxid.ltxid) (search rules)
