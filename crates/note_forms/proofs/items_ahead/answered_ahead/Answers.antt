use Rattle.std.proofs.Common.{◌≡◌, rules}
use Rattle.outage_schedule.specs.declared.item.Item.TheVariants as served
use Rattle.note_forms.specs.declared.item.ServedAt.{ServedAt}
use Rattle.note_forms.specs.meaning.Items.{served_at}
use Rattle.note_forms.proofs.ServedAhead.{answered_ends}
use Rattle.note_forms.proofs.items_ahead.answered_ahead.Goals as goal

pub returns-clause-ends : goal.returns-clause-ends
returns-clause-ends c =
    let place : ServedAt = record { event = c.in_ok-event.event; session = c.in_ok-session.session } in
    let same : c.served_at.result ≡ served_at place (served.Call c.in_ok-replay.replay c.in_ok-call.call c.in_ok-answers.answers c.in_ok-draws.draws) = search rules in
    rw same (answered_ends c.args.reader.now.notes.now c.args.reader.now.last c.args.depth c.args.tokens.now c.ahead.new.tokens c.ahead-2.new.tokens c.ahead-3.new.tokens c.ahead-4.new.tokens c.ahead-5.new.tokens c.last_ahead.new.tokens c.in_ok-event.event c.in_ok-session.session c.in_ok-replay.replay c.in_ok-call.call c.in_ok-answers.answers c.in_ok-draws.draws (search rules) (search rules) (search rules) (search rules) (search rules) (search rules))
