use Rattle.std.proofs.Common.{refl, sym, ◌∙◌}
use Rattle.report_reader.specs.Ahead.{held_members}
use Rattle.report_reader.proofs.OneByOne.{only_none}
use Rattle.report_reader.proofs.streamed.Ahead.new.Goals as goal

pub returns : goal.returns
returns c = λ print. record { clients = refl; entries = refl; notes = refl; served = refl; tables = refl; others = c.new.ensures ∙ sym (only_none (held_members print)) }
