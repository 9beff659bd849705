use Rattle.std.proofs.Common.{rules}
use Rattle.json_form.specs.declared.hexadecimal.Digits.TheVariants as digits
use Rattle.json_form.specs.meaning.Arrays.{array_of, each_of}
use Rattle.call_forms.specs.meaning.Calls.{call_of}
use Rattle.document_forms.specs.meaning.Events.{outside_of}
use Rattle.outage_schedule.specs.declared.event.Event.TheVariants as event
use Rattle.document_forms.proofs.EventsAhead.{one_part, outside_read}
use Rattle.document_forms.proofs.event_ahead.outside_ahead.Goals as goal

pub returns-clause-ends : goal.returns-clause-ends
returns-clause-ends c = one_part (array_of 1 1024 (each_of (call_of digits.Any))) outside_of c.args.depth c.args.tokens.now (event.Outside c.in_ok-calls.calls) c.last_ahead.new.tokens c.in_ok-calls.calls (λ word d. outside_read word d c.in_ok-calls.calls) (search rules)
