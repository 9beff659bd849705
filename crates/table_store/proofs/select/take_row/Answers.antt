use Rattle.std.proofs.Common.{refl, sym, ap, ◌∙◌}
use Rattle.std.specs.Prelude.{Some}
use Rattle.std.specs.Option.{option_copied}
use Rattle.svc_values.proofs.Offered.{cmp_is}
use Rattle.table_store.proofs.Takes.{left_out, no_row, put_in}
use Rattle.table_store.proofs.ValueCmp.{keyed_changed}
use Rattle.table_store.proofs.select.take_row.Goals as goal

pub returns-then-contains_key : goal.returns-then-contains_key
returns-then-contains_key c =
    left_out c.args.rows.now c.args.but.now c.args.pair.now.spot c.args.found.now.entries c.in-At.key c.in-At.is (sym (rw cmp_is at c.contains_key.ensures) ∙ c.if-contains_key.true)

pub returns-in_default-get : goal.returns-in_default-get
returns-in_default-get c =
    no_row c.args.rows.now c.args.but.now c.args.pair.now.spot c.args.found.now.entries c.in-At.key c.in-At.is (sym c.get.ensures ∙ ap option_copied c.in_default-get.is)

pub returns : goal.returns
returns c =
    put_in c.args.rows.now c.args.but.now c.args.pair.now.spot c.args.found.now.entries c.in-At.key c.in-At.is c.insert.new.self.entries c.in-Some.row.now
    (sym (rw cmp_is at c.contains_key.ensures) ∙ c.if-contains_key.false)
    (sym c.get.ensures ∙ ap option_copied c.in-Some.is)
    (λ q. keyed_changed c.insert.new.self.entries c.args.found.now.entries c.args.found.now.entries c.in-At.key (Some c.in-Some.row.now) q refl
    (rw (c.in_ok-copy.ensures, c.in_ok-copy-2.ensures) at (c.in_ok-insert.ensures.updates.0 q)))
