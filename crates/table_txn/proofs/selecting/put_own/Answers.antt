use Rattle.std.proofs.Common.{cond, refl, sym, ap, ◌∙◌}
use Rattle.std.specs.Prelude.{None, Some}
use Rattle.std.specs.Option.{option_copied, option_or}
use Rattle.std.specs.Ordering.{is_eq}
use Rattle.svc_values.specs.meaning.Order.{value_cmp}
use Rattle.table_store.specs.Rows.{keyed_of}
use Rattle.table_store.proofs.Offered.{keyed_changed}
use Rattle.table_txn.specs.Selecting.{with_own}
use Rattle.table_txn.proofs.selecting.put_own.Goals as goal

pub returns : goal.returns
returns c = λ q.
    let sought = c.args.sought.now in
    let key = c.args.key.now in
    let row = c.in-Some.row.now in
    let old = c.args.found.now.entries in
    let put = keyed_changed c.insert.new.self.entries old old key (Some row) q refl (rw (c.in_ok-copy.ensures, c.in_ok-copy-2.ensures) at (c.in_ok-insert.ensures.updates.0 q)) in
    let met = sym (rw c.get.ensures at c.value_meets.ensures) ∙ c.if-not-value_meets.false in
    put
    ∙ sym (ap (λ b. cond (is_eq (value_cmp key q)) (option_or (cond b (Some row) None) (keyed_of old q)) (keyed_of old q)) met)
    ∙ ap (λ o. with_own sought.column sought.test sought.value o key (keyed_of old q) q) (sym (ap option_copied c.in-Some.is) ∙ c.row_of.ensures)
