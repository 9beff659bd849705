use Rattle.std.proofs.Common.{sym, ap, ◌∙◌}
use Rattle.std.specs.Option.{option_copied}
use Rattle.std.proofs.lemmas.Result.{on_ok_weaker}
use Rattle.table_store.specs.Indexes.{is_value}
use Rattle.table_store.proofs.Indexed.{unmoved, moved}
use Rattle.table_store.proofs.column_index.ColumnIndex.change.Goals as goal

pub returns-then-is_same-clause-ok : goal.returns-then-is_same-clause-ok
returns-then-is_same-clause-ok c =
    rw (← c.value_in-is.ensures)
    (unmoved c.args.self.now.pairs.keys c.args.key.now (option_copied c.value_in-was.result) (option_copied c.value_in-is.result)
    (λ v. c.requires v ∙ ap (λ o. is_value o v) (sym c.value_in-was.ensures)) (c.is_same.ensures c.if-is_same.true))

pub returns-clause-ok : goal.returns-clause-ok
returns-clause-ok c =
    rw (← c.value_in-is.ensures)
    (on_ok_weaker c.put.result
    (λ put. moved c.args.self.now.pairs.keys c.take_away.new.self.pairs.keys c.put.new.self.pairs.keys c.args.key.now (option_copied c.value_in-was.result) (option_copied c.value_in-is.result)
    (λ v. c.requires v ∙ ap (λ o. is_value o v) (sym c.value_in-was.ensures)) c.in_ok-take_away.ensures.ok put)
    c.put.ensures.ok)
