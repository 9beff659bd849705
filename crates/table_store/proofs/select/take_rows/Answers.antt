use Rattle.std.proofs.Common.{arith, ◌≡◌, ◌+◌, ◌++◌, true, false, drop, map, refl, sym, subst, ◌∙◌}
use Rattle.svc_values.proofs.Offered.{cmp_is}
use Rattle.svc_values.specs.meaning.Schemas.{key_of}
use Rattle.table_store.specs.Given.{keyed}
use Rattle.table_store.specs.Selection.{is_among}
use Rattle.table_store.proofs.Same.{keyed_next}
use Rattle.table_store.proofs.Takes.{found_more, found_over, found_skips, wanted_of}
use Rattle.table_store.proofs.select.take_rows.Goals as goal

pub returns-then-len-ge-ROW_LIMIT : goal.returns-then-len-ge-ROW_LIMIT
returns-then-len-ge-ROW_LIMIT c =
    let rows = c.args.rows.now in
    let row = c.row-item.result in
    let at = c.loop-row.row-index in
    let all = c.args.found.now.entries ++ wanted_of c.args.but.now c.args.column c.args.test c.args.value.now (map keyed rows) in
    let next = keyed_next rows at row c.row-item.is (omega (arith, c.loop-row-test.true, c.loop-row.auto.row-index-end)) in
    let met = sym (rw c.get.ensures at c.value_meets.ensures) ∙ c.if-not-value_meets.false in
    let among = subst (λ k. is_among c.args.but.now k ≡ false) c.in_ok-key.ensures (sym (rw cmp_is at c.contains_key.ensures) ∙ c.if-contains_key.false) in
    found_over c.args.but.now c.args.column c.args.test c.args.value.now all (map keyed (drop at rows)) c.loop-row.found.entries c.loop-row.invariant (map keyed (drop (at + 1) rows)) (key_of row) row next
    met among (omega (arith, c.if-len-ge-ROW_LIMIT.true, c.len.ensures.len))

pub loop-row-preserved-then-contains_key : goal.loop-row-preserved-then-contains_key
loop-row-preserved-then-contains_key c =
    let rows = c.args.rows.now in
    let row = c.row-item.result in
    let at = c.loop-row.row-index in
    let all = c.args.found.now.entries ++ wanted_of c.args.but.now c.args.column c.args.test c.args.value.now (map keyed rows) in
    let next = keyed_next rows at row c.row-item.is (omega (arith, c.loop-row-test.true, c.loop-row.auto.row-index-end)) in
    let met = sym (rw c.get.ensures at c.value_meets.ensures) ∙ c.if-not-value_meets.false in
    let among = subst (λ k. is_among c.args.but.now k ≡ true) c.in_ok-key.ensures (sym (rw cmp_is at c.contains_key.ensures) ∙ c.if-contains_key.true) in
    found_skips c.args.but.now c.args.column c.args.test c.args.value.now all (map keyed (drop at rows)) c.loop-row.found.entries c.loop-row.invariant (map keyed (drop (at + 1) rows)) (key_of row) row next
    true true met among refl

pub loop-row-preserved : goal.loop-row-preserved
loop-row-preserved c =
    let rows = c.args.rows.now in
    let row = c.row-item.result in
    let at = c.loop-row.row-index in
    let all = c.args.found.now.entries ++ wanted_of c.args.but.now c.args.column c.args.test c.args.value.now (map keyed rows) in
    let next = keyed_next rows at row c.row-item.is (omega (arith, c.loop-row-test.true, c.loop-row.auto.row-index-end)) in
    let met = sym (rw c.get.ensures at c.value_meets.ensures) ∙ c.if-not-value_meets.false in
    let among = subst (λ k. is_among c.args.but.now k ≡ false) c.in_ok-key.ensures (sym (rw cmp_is at c.contains_key.ensures) ∙ c.if-contains_key.false) in
    let put = rw cmp_is at c.in_ok-insert.ensures.entries in
    found_more c.args.but.now c.args.column c.args.test c.args.value.now all (map keyed (drop at rows)) c.loop-row.found.entries c.loop-row.invariant (map keyed (drop (at + 1) rows)) (key_of row) row next
    c.insert.new.self.entries met among (omega (arith, c.if-len-ge-ROW_LIMIT.false, c.len.ensures.len)) (rw (c.in_ok-key.ensures, c.in_ok-copy.ensures) at put)
