use Rattle.std.proofs.lemmas.Slice.{between_is}
use Rattle.whole_check.proofs.turn.between.Goals as goal

pub returns : goal.returns
returns c = between_is c.args.calls.now c.args.from c.args.to
