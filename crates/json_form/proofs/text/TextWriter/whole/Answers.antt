use Rattle.json_form.proofs.ShortNumbers.{whole_short, written_short}
use Rattle.json_form.proofs.text.TextWriter.whole.Goals as goal

pub invariant_of-self : goal.invariant_of-self
invariant_of-self c = written_short c.u64.result c.self.inside.writer c.u64.new.self _ c.u64.ensures (whole_short c.args.number c.ranges.number.fits) c.self.invariant
