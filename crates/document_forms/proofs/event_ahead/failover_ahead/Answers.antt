use Rattle.std.proofs.Common.{rules}
use Rattle.document_forms.specs.meaning.Events.{lost_pick_of, failover_of}
use Rattle.outage_schedule.specs.declared.event.Event.TheVariants as event
use Rattle.document_forms.proofs.EventsAhead.{three_parts, failover_read}
use Rattle.document_forms.proofs.event_ahead.failover_ahead.Goals as goal

pub returns-clause-ends : goal.returns-clause-ends
returns-clause-ends c = three_parts lost_pick_of (failover_of c.args.standby) c.args.depth c.args.tokens.now (event.Crash c.in_ok-connection.connection c.in_ok-after.after c.in_ok-pick.pick) c.last_ahead.new.tokens c.ahead.new.tokens c.ahead-2.new.tokens c.in_ok-connection.connection c.in_ok-after.after c.in_ok-pick.pick (λ word d e f h k l. failover_read c.args.standby word d e f c.in_ok-connection.connection c.in_ok-after.after c.in_ok-pick.pick h k l (search rules)) (search rules) (search rules) (search rules)
