use Rattle.run_clauses.specs.meaning.Same.{is_same}
use Rattle.entry_check.specs.InnerGranting.{keeps}
use Rattle.entry_check.proofs.Placing.{each_found}
use Rattle.entry_check.proofs.same.AreSame.of_transaction.Goals as goal

pub loop-ltxid-init : goal.loop-ltxid-init
loop-ltxid-init c =
    let judge = c.args.self.now in
    let known = c.args.known.now in
    each_found (is_same (keeps judge.granting.kinds judge.granting.sequences.now) known.settings.now known.calls.now known.shown.now) judge.stored c.args.ids.now
