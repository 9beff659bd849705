use Rattle.json_form.specs.Streams.{value_ahead}
use Rattle.json_form.proofs.Offered.{begun}
use Rattle.entry_forms.specs.meaning.Entries.{tables_in}
use Rattle.report_reader.proofs.OneByOne.{tables_put}
use Rattle.report_reader.proofs.streamed.Ahead.take_tables.Goals as goal

pub returns-clause-read : goal.returns-clause-read
returns-clause-read c = λ print.
    let b = begun tables_in (value_ahead c.args.depth c.args.tokens.now) c.in_ok-tables.tables c.tables_ahead.new.tokens c.in_ok-tables.ensures.read in
    (b.0, b.1, λ ms are. tables_put print c.args.self.now c.in_ok-tables.tables b.0 ms b.2 are)
