use Rattle.std.proofs.Common.{arith, ◌≡◌, ◌<◌, ◌≤◌, true, false, length, nat_lt, sym, ap, subst, ◌∙◌}
use Rattle.std.specs.Prelude.{Some, slice_get}
use Rattle.std.specs.Option.{option_copied, option_map}
use Rattle.std.proofs.lemmas.Result.{IfOk-weaker}
use Rattle.svc_values.specs.meaning.Tables.{with_writes}
use Rattle.svc_values.proofs.Offered.{cmp_is}
use Rattle.table_store.specs.Given.{keyed_rows}
use Rattle.table_store.specs.Selection.{apart_from, keys_sought, meeting}
use Rattle.table_store.proofs.Offered.{firsts_of_fit, sought_forward}
use Rattle.table_txn.specs.Selecting.{select_answer}
use Rattle.table_txn.proofs.Selects.{AreLast, all_answered, committed_refused, found_first, found_next, last_between, over_refused, seen_last, some_at_most}
use Rattle.table_txn.proofs.selecting.select_over.Goals as goal

pub returns-in_default : goal.returns-in_default
returns-in_default c =
    IfOk-weaker c.answer_of.result _ _
    (λ answer told. told
    ∙ committed_refused c.args.tables.now.rows c.requires.ordered c.args.own.now c.args.table.now c.args.sought.now.column c.args.sought.now.test c.args.sought.now.value c.args.keys.now c.requires.keys
    (firsts_of_fit c.args.tables.now.schemas (with_writes c.args.tables.now.rows c.args.own.now) c.args.table.now c.requires.fits)
    (sym (ap (option_map (λ rows. rows.entries)) c.in_default.is) ∙ c.in_ok-found.ensures))
    c.answer_of.ensures

pub range-key-items-requires : goal.range-key-items-requires
range-key-items-requires c = rw (cmp_is, c.keys_sought.ensures.from, c.keys_sought.ensures.to) (sought_forward c.args.sought.now.column c.args.sought.now.test c.args.sought.now.value)

pub loop-key-init : goal.loop-key-init
loop-key-init c =
    let sought = c.args.sought.now in
    let bounds = keys_sought sought.column sought.test sought.value in
    let between = rw (cmp_is, c.keys_sought.ensures.from, c.keys_sought.ensures.to) at (c.range-key-items.ensures.between tt) in
    let left = c.into_iter-key-iterator.ensures.into_iter_gives ∙ between in (
      last_between c.args.tables.now.rows c.args.own.now c.args.table.now bounds.0 bounds.1 c.args.keys.now (rw cmp_is at c.range-key-items.ensures.ordered) c.requires.keys c.into_iter-key-iterator.result left,
      (
        c.requires.ordered,
        found_first c.args.tables.now.rows c.requires.ordered c.args.own.now c.args.table.now sought.column sought.test sought.value c.args.keys.now c.requires.keys
            (firsts_of_fit c.args.tables.now.schemas (with_writes c.args.tables.now.rows c.args.own.now) c.args.table.now c.requires.fits) c.into_iter-key-iterator.result left c.in-Some.found.entries
            (some_at_most c.in-Some.found.entries (apart_from c.args.keys.now (meeting sought.column sought.test sought.value (keyed_rows c.args.tables.now.rows c.args.table.now))) (sym (ap (option_map (λ rows. rows.entries)) c.in-Some.is) ∙ c.in_ok-found.ensures)),
      ),
    )

pub returns-then-is_over : goal.returns-then-is_over
returns-then-is_over c =
    let so_far = c.loop-key.invariant.1 in
    let above : nat_lt 32 (length c.loop-key.found.entries) ≡ true = sym c.is_over.ensures.test ∙ c.if-is_over.true in
    let over : 32 < length c.loop-key.found.entries = grind arith in
    IfOk-weaker c.answer_of-then-is_over.result _ _
    (λ answer told. told
    ∙ over_refused c.args.tables.now.rows so_far.0 c.args.own.now c.args.table.now c.args.sought.now.column c.args.sought.now.test c.args.sought.now.value c.loop-key.key-iterator c.loop-key.found.entries so_far.1 c.is_over.ensures.rising over)
    c.answer_of-then-is_over.ensures

pub loop-key-preserved : goal.loop-key-preserved
loop-key-preserved c =
    let rows = c.args.tables.now.rows in
    let writes = c.args.own.now in
    let sought = c.args.sought.now in
    let are = subst (AreLast writes c.args.table.now) c.in-Some-2.ensures.steps c.loop-key.invariant.0 in
    let so_far = c.loop-key.invariant.1 in
    let key = c.in-Some-2.key.now in
    let at = c.in-Some-2.at.now in
    let write : option_copied c.get.result ≡ slice_get writes at = c.get.ensures ∙ ap (λ w. slice_get w at) c.writes-writes.ensures in (
      are.1,
      (
        so_far.0,
        found_next rows so_far.0 writes c.args.table.now sought.column sought.test sought.value c.loop-key.key-iterator c.next.new.self key at c.loop-key.found.entries c.put_own.new.found.entries so_far.1 c.in-Some-2.ensures.steps
            (option_copied c.get.result) (seen_last rows so_far.0 writes c.args.table.now key at (option_copied c.get.result) are.0 write) c.in_ok-put_own.ensures,
      ),
    )

pub returns-then-is_over-2 : goal.returns-then-is_over-2
returns-then-is_over-2 c =
    let so_far = c.loop-key.invariant.1 in
    let above : nat_lt 32 (length c.loop-key.found.entries) ≡ true = sym c.is_over-2.ensures.test ∙ c.if-is_over-2.true in
    let over : 32 < length c.loop-key.found.entries = grind arith in
    IfOk-weaker c.answer_of-then-is_over-2.result _ _
    (λ answer told. told
    ∙ over_refused c.args.tables.now.rows so_far.0 c.args.own.now c.args.table.now c.args.sought.now.column c.args.sought.now.test c.args.sought.now.value c.loop-key.key-iterator c.loop-key.found.entries so_far.1 c.is_over-2.ensures.rising over)
    c.answer_of-then-is_over-2.ensures

pub returns : goal.returns
returns c =
    let so_far = c.loop-key.invariant.1 in
    let below : nat_lt 32 (length c.loop-key.found.entries) ≡ false = sym c.is_over-2.ensures.test ∙ c.if-is_over-2.false in
    let fits : length c.loop-key.found.entries ≤ 32 = grind arith in
    IfOk-weaker c.answer_of-2.result _ _
    (λ answer told. told ∙ ap (λ rows. select_answer (Some rows)) c.in_ok-rows_of.ensures
    ∙ all_answered c.args.tables.now.rows so_far.0 c.args.own.now c.args.table.now c.args.sought.now.column c.args.sought.now.test c.args.sought.now.value c.loop-key.key-iterator c.loop-key.found.entries so_far.1 c.is_over-2.ensures.rising c.in-None.ensures.steps.0 fits)
    c.answer_of-2.ensures
