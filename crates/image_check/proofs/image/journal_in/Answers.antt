use Rattle.std.proofs.lemmas.Result.{IfOk-weaker}
use Rattle.image_check.proofs.ImageLines.{usable_if}
use Rattle.image_check.proofs.image.journal_in.Goals as goal

pub returns-clause-usable : goal.returns-clause-usable
returns-clause-usable c = IfOk-weaker c.read_of.result _ _ (λ read is. usable_if c.keeps_journal.ensures.keeps c.args.image.now read is) c.read_of.ensures
