use Rattle.std.proofs.Common.{ap, ◌∙◌}
use Rattle.std.specs.Option.{option_copied}
use Rattle.table_txn.specs.Own.{row_over}
use Rattle.table_txn.proofs.effects.row_at.Goals as goal

pub returns-in-None : goal.returns-in-None
returns-in-None c = ap (λ last. row_over last (option_copied c.args.committed)) c.in-None.ensures

pub returns-in-Some : goal.returns-in-Some
returns-in-Some c = c.as_ref.ensures.value ∙ ap (λ last. row_over last (option_copied c.args.committed)) c.in-Some.ensures
