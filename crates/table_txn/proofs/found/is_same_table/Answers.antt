use Rattle.std.proofs.Common.{sym, ap, ◌∙◌}
use Rattle.std.specs.Option.{option_copied}
use Rattle.table_store.specs.Rows.{same_keyed}
use Rattle.table_txn.specs.Found.{keyed_or_none}
use Rattle.table_txn.proofs.found.is_same_table.Goals as goal

pub returns-in-Some : goal.returns-in-Some
returns-in-Some c = c.is_same.ensures ∙ sym (ap (λ o. same_keyed c.args.found.now (keyed_or_none (option_copied o))) c.in-Some.is)
