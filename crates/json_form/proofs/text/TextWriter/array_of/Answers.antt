use Rattle.json_form.proofs.WrittenTokens.{array_written}
use Rattle.json_form.proofs.text.TextWriter.array_of.Goals as goal

pub returns : goal.returns
returns g c =
    array_written c.end_array.result c.args.self.now c.begin_array.new.self c.each.new.self c.end_array.new.self (g.W.Writer.writes c.args.writer.now) c.args.items.now c.in_ok-begin_array.ensures c.in_ok-each.ensures c.end_array.ensures
