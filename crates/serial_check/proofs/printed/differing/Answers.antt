use Rattle.std.proofs.Common.{◌≤◌, ◌<◌, ℕ, List, ◌∷◌, Some, length, sym, ap, ◌∙◌, arith}
use Rattle.serial_check.proofs.Named.{tables_named}
use Rattle.serial_check.proofs.PrintedTables.{more_printed, fewer_printed}
use Rattle.serial_check.proofs.printed.differing.Goals as goal

pub returns-in-None : goal.returns-in-None
returns-in-None c =
    let n = c.loop-n.n in
    let tables = c.args.tables.now in
    let over : length tables ≤ n = c.in-None.ensures.lookup.3 in
    ap Some c.in_ok-list-in-None.ensures
    ∙ (ap (λ (l : List ℕ). Some (47 ∷ l)) tables_named
    ∙ sym (c.loop-n.invariant.so_far ∙ more_printed n c.args.printed.now tables c.index-printed-n.result c.loop-n-test.true c.index-printed-n.is over))

pub returns-then-printed-tables : goal.returns-then-printed-tables
returns-then-printed-tables c =
    let n = c.loop-n.n in
    let printed = c.args.printed.now in
    let tables = c.args.tables.now in
    let over : length printed ≤ n = omega (arith, c.loop-n-test.false) in
    let within : n < length tables = omega (arith, c.loop-n.auto.n-end, c.if-printed-tables.true) in
    ap Some c.in_ok-list.ensures ∙ (ap (λ (l : List ℕ). Some (47 ∷ l)) tables_named ∙ sym (c.loop-n.invariant.so_far ∙ fewer_printed n printed tables over within))
