use Rattle.std.proofs.Common.{rules, ◌≢◌, ◌∙◌, ap, sym, subst}
use Rattle.std.specs.Prelude.{Err}
use Rattle.disk_model.specs.Disk.{DiskState}
use Rattle.redo_store.specs.Redo.{CanAppend, count_of}
use Rattle.service_core.specs.Shipping.{count_in}
use Rattle.standby_ship.proofs.Appending.{items_of}
use Rattle.standby_ship.proofs.Lacking.{breaks_reading, ships_none}
use Rattle.standby_ship.proofs.Sending.{are_behind, ready_under, sent_all, sent_some, stands_for}
use Rattle.standby_ship.proofs.Stopped.{no_fault}
use Rattle.standby_ship.proofs.shipping.ship_to.Goals as goal

pub returns-then-from-count-clause-shipped : goal.returns-then-from-count-clause-shipped
returns-then-from-count-clause-shipped g c =
    ships_none c.args.primary.now c.args.store.now (g.D.Disk.state c.args.disk.now) c.requires.lags c.requires.ready (g.met.D.Disk.reads_now c.args.disk.now) (sym c.count-from.ensures ∙ c.if-from-count.true ∙ c.count.ensures c.requires.lags.up)

pub records_from-requires-clause-live : goal.records_from-requires-clause-live
records_from-requires-clause-live g c = c.requires.lags.live

pub records_from-requires-clause-once : goal.records_from-requires-clause-once
records_from-requires-clause-once g c = c.requires.lags.once

pub records_from-requires-clause-few : goal.records_from-requires-clause-few
records_from-requires-clause-few g c = c.requires.lags.few

pub records_from-requires-clause-stands : goal.records_from-requires-clause-stands
records_from-requires-clause-stands g c =
    stands_for c.args.primary.now c.args.store.now (g.D.Disk.state c.args.disk.now) c.count-from.result c.tail.result (c.keeps_to_it.ensures c.requires.lags.live) c.requires.lags c.requires.ready c.count-from.ensures c.tail.ensures

pub returns-in_err-payloads-clause-broken : goal.returns-in_err-payloads-clause-broken
returns-in_err-payloads-clause-broken g c told =
    let differ : count_of c.args.store.now ≢ count_in c.args.primary.now = λ same. c.if-from-count.false (c.count-from.ensures ∙ same ∙ sym (c.count.ensures c.requires.lags.up)) in
    breaks_reading c.args.primary.now c.records_from.new.self c.args.store.now (g.D.Disk.state c.args.disk.now) (c.keeps_to_it.ensures c.requires.lags.live) c.requires.lags c.requires.ready (g.met.D.Disk.reads_now c.args.disk.now) differ (c.in_err-payloads.ensures.failed (search rules))

pub append_each-requires : goal.append_each-requires
append_each-requires g c =
    let disk = g.D.Disk.state c.args.disk.now in
    subst (λ (d : DiskState). CanAppend c.args.store.now d) {x = record disk { stop = c.left.result }} (sym {b = record disk { stop = c.left.result }} c.stop_after.ensures) (ready_under c.args.store.now disk c.left.result c.requires.ready)

pub returns-in-Ok-clause-shipped : goal.returns-in-Ok-clause-shipped
returns-in-Ok-clause-shipped g c =
    let disk = g.D.Disk.state c.args.disk.now in
    let differ : count_of c.args.store.now ≢ count_in c.args.primary.now = λ same. c.if-from-count.false (c.count-from.ensures ∙ same ∙ sym (c.count.ensures c.requires.lags.up)) in
    let payloads = c.in_ok-payloads.payloads.items in
    let are = are_behind c.args.primary.now c.args.store.now c.count-from.result c.tail.result (items_of payloads) c.count-from.ensures c.tail.ensures c.in_ok-payloads.ensures.records in
    let is_begun = c.stop_after.ensures ∙ ap (λ s. record disk { stop = s }) c.left.ensures in
    sent_all c.args.primary.now c.records_from.new.self c.args.store.now c.append_each.new.store disk (g.D.Disk.state c.stop_after.new.self) (g.D.Disk.state c.append_each.new.disk) payloads c.deref.result.now (c.keeps_to_it.ensures c.requires.lags.live) c.requires.lags c.requires.ready are
    c.in_ok-payloads.ensures.read is_begun c.deref.ensures.value _ c.in-Ok.ensures.cause differ (g.met.D.Disk.reads_now c.append_each.new.disk) no_fault c.in-Ok.ensures.ready c.in-Ok.ensures.added c.in-Ok.ensures.stop

pub returns-in-Err-Stopped-clause-broken : goal.returns-in-Err-Stopped-clause-broken
returns-in-Err-Stopped-clause-broken g c told =
    let disk = g.D.Disk.state c.args.disk.now in
    let differ : count_of c.args.store.now ≢ count_in c.args.primary.now = λ same. c.if-from-count.false (c.count-from.ensures ∙ same ∙ sym (c.count.ensures c.requires.lags.up)) in
    let payloads = c.in_ok-payloads.payloads.items in
    let are = are_behind c.args.primary.now c.args.store.now c.count-from.result c.tail.result (items_of payloads) c.count-from.ensures c.tail.ensures c.in_ok-payloads.ensures.records in
    let is_begun = c.stop_after.ensures ∙ ap (λ s. record disk { stop = s }) c.left.ensures in
    sent_some c.args.primary.now c.records_from.new.self c.args.store.now c.append_each.new.store disk (g.D.Disk.state c.stop_after.new.self) (g.D.Disk.state c.append_each.new.disk) payloads c.deref.result.now (c.keeps_to_it.ensures c.requires.lags.live) c.requires.lags c.requires.ready are
    c.in_ok-payloads.ensures.read is_begun c.deref.ensures.value _ c.in-Err-Stopped.ensures.cause differ (g.met.D.Disk.reads_now c.append_each.new.disk) _ (ap Err c.in-Err-Stopped.field-0-is) (search rules) c.append_each.ensures.left c.in-Err-Stopped.ensures.stop

pub unreachable-requires : goal.unreachable-requires
unreachable-requires g c = c.in-Err-Damaged.ensures.whole c.in-Err-Damaged.field-0-0 (ap Err c.in-Err-Damaged.field-0-is)
