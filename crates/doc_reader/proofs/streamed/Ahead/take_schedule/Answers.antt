use Rattle.std.proofs.Common.{true}
use Rattle.json_form.specs.Streams.{value_ahead}
use Rattle.json_form.proofs.Offered.{begun}
use Rattle.document_forms.specs.meaning.Events.{schedule_of}
use Rattle.doc_reader.proofs.OneByOne.{schedule_put}
use Rattle.doc_reader.proofs.streamed.Ahead.take_schedule.Goals as goal

pub returns-clause-read : goal.returns-clause-read
returns-clause-read c =
    let b = begun (schedule_of 64 true) (value_ahead c.args.depth c.args.tokens.now) c.in_ok-events.events c.schedule_ahead.new.tokens c.in_ok-events.ensures.read in
    (b.0, b.1, λ ms are. schedule_put c.args.self.now c.in_ok-events.events b.0 ms b.2 are)
