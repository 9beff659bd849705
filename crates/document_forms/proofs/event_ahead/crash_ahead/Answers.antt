use Rattle.std.proofs.Common.{rules}
use Rattle.document_forms.specs.meaning.Events.{pick_of, crash_of}
use Rattle.outage_schedule.specs.declared.event.Event.TheVariants as event
use Rattle.document_forms.proofs.EventsAhead.{three_parts, crash_read}
use Rattle.document_forms.proofs.event_ahead.crash_ahead.Goals as goal

pub returns-clause-ends : goal.returns-clause-ends
returns-clause-ends c = three_parts pick_of crash_of c.args.depth c.args.tokens.now (event.Crash c.in_ok-connection.connection c.in_ok-after.after c.in_ok-pick.pick) c.last_ahead.new.tokens c.ahead.new.tokens c.ahead-2.new.tokens c.in_ok-connection.connection c.in_ok-after.after c.in_ok-pick.pick (λ word d e f. crash_read word d e f c.in_ok-connection.connection c.in_ok-after.after c.in_ok-pick.pick) (search rules) (search rules) (search rules)
