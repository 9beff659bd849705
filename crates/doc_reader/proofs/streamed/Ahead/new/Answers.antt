use Rattle.std.proofs.Common.{refl, sym, ◌∙◌}
use Rattle.doc_reader.proofs.OneByOne.{none_held}
use Rattle.doc_reader.proofs.streamed.Ahead.new.Goals as goal

pub returns : goal.returns
returns c = record { tables = refl; clients = refl; schedule = refl; others = c.new.ensures ∙ sym none_held }
