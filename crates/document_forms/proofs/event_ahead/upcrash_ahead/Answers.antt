use Rattle.std.proofs.Common.{rules}
use Rattle.document_forms.specs.meaning.Events.{pick_of, upcrash_of}
use Rattle.outage_schedule.specs.declared.event.Event.TheVariants as event
use Rattle.document_forms.proofs.EventsAhead.{two_parts, upcrash_read}
use Rattle.document_forms.proofs.event_ahead.upcrash_ahead.Goals as goal

pub returns-clause-ends : goal.returns-clause-ends
returns-clause-ends c = two_parts pick_of upcrash_of c.args.depth c.args.tokens.now (event.UpCrash c.in_ok-after.after c.in_ok-pick.pick) c.last_ahead.new.tokens c.ahead.new.tokens c.in_ok-after.after c.in_ok-pick.pick (λ word d e. upcrash_read word d e c.in_ok-after.after c.in_ok-pick.pick) (search rules) (search rules)
