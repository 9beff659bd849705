use Rattle.std.proofs.Common.{sym}
use Rattle.json_form.specs.Streams.{value_ahead}
use Rattle.json_form.proofs.Offered.{begun}
use Rattle.note_forms.specs.meaning.Notes.{notes_in}
use Rattle.report_reader.proofs.OneByOne.{not_there, notes_put}
use Rattle.report_reader.proofs.streamed.Ahead.take_notes.Goals as goal

pub returns-clause-read : goal.returns-clause-read
returns-clause-read c = λ print.
    let b = begun notes_in (value_ahead c.args.depth c.args.tokens.now) c.in_ok-notes.notes c.notes_ahead.new.tokens c.in_ok-notes.ensures.read in
    (b.0, b.1, λ ms are. notes_put print c.args.self.now c.in_ok-notes.notes b.0 ms (not_there c.args.self.now.served (sym c.if-is_some.ensures)) b.2 are)
