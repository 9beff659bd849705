use Rattle.serde_json.specs.Data.{no_items}
use Rattle.json_form.proofs.Ahead.{read_ahead}
use Rattle.json_form.proofs.fixed_ahead.last_ahead.Goals as goal

pub returns-clause-last : goal.returns-clause-last
returns-clause-last g c = read_ahead (g.R.Reader.reads c.args.reader.now) c.args.depth c.args.tokens.now c.ahead.new.tokens c.array_ends.new.tokens c.in_ok-item.item no_items c.in_ok-item.ensures.begins (c.in_ok-array_ends.ensures.ends c.args.depth)
