use Rattle.json_form.specs.Streams.{value_ahead}
use Rattle.json_form.proofs.Offered.{begun}
use Rattle.entry_forms.specs.meaning.Entries.{entries_in}
use Rattle.report_reader.proofs.OneByOne.{entries_put}
use Rattle.report_reader.proofs.streamed.Ahead.take_entries.Goals as goal

pub returns-clause-read : goal.returns-clause-read
returns-clause-read c = λ print.
    let b = begun entries_in (value_ahead c.args.depth c.args.tokens.now) c.in_ok-entries.entries c.entries_ahead.new.tokens c.in_ok-entries.ensures.read in
    (b.0, b.1, λ ms are. entries_put print c.args.self.now c.in_ok-entries.entries b.0 ms b.2 are)
