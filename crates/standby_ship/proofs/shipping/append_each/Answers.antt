use Rattle.std.proofs.Common.{rules, ◌≡◌, ◌*◌, sym, subst, ℕ, List, length}
use Rattle.std.specs.Prelude.{Result, Err, IsErrOf}
use Rattle.disk_model.specs.Disk.{Caused, Lowers, Meanwhile}
use Rattle.disk_model.proofs.Offered.{caused_for}
use Rattle.redo_store.specs.declared.fault.RedoFault.{RedoFault}
use Rattle.redo_store.specs.declared.fault.RedoFault.TheVariants as redo_fault
use Rattle.redo_store.specs.Store.{IsOldOrNew}
use Rattle.redo_store.specs.Records.{with_last}
use Rattle.redo_store.specs.meaning.Records.{records_of}
use Rattle.standby_ship.proofs.Appending.{added_all, caused_there, left_all, left_some, lowered_all, so_far_more, so_far_none, stops_there}
use Rattle.standby_ship.proofs.Stopped.{no_fault}
use Rattle.standby_ship.proofs.shipping.append_each.Goals as goal

pub loop-payload-init : goal.loop-payload-init
loop-payload-init g c = so_far_none c.args.payloads.now c.args.store.now (g.D.Disk.state c.args.disk.now) c.requires

pub append-requires : goal.append-requires
append-requires g c = c.loop-payload.invariant.ready

pub loop-payload-preserved : goal.loop-payload-preserved
loop-payload-preserved g c =
    let at = g.D.Disk.state c.loop-payload.disk in
    let end = g.D.Disk.state c.append.new.disk in
    let added = subst (λ (bytes : List ℕ). records_of end.now.seen ≡ with_last bytes (records_of at.now.seen)) c.deref.ensures.value c.in_ok-append.ensures.added in
    so_far_more c.args.payloads.now c.loop-payload.payload-index c.payload-item.result c.loop-payload.store (g.D.Disk.state c.args.disk.now) at c.loop-payload.invariant c.append.new.self end c.loop-payload-test.true c.payload-item.is c.in_ok-append.ensures.goes_on added c.in_ok-append.ensures.stop (caused_for _ ⊥ at end no_fault (λ none. absurd none) c.in_ok-append.ensures.cause)

pub returns-in_err-append-clause-left : goal.returns-in_err-append-clause-left
returns-in_err-append-clause-left g c =
    let at = g.D.Disk.state c.loop-payload.disk in
    let end = g.D.Disk.state c.append.new.disk in
    left_some c.args.payloads.now c.loop-payload.payload-index c.payload-item.result c.loop-payload.store (g.D.Disk.state c.args.disk.now) at c.loop-payload.invariant end c.loop-payload-test.true c.payload-item.is
    (subst (λ (bytes : List ℕ). Meanwhile at end (IsOldOrNew at.now.seen bytes)) c.deref.ensures.value c.append.ensures.any_moment)

pub returns-in_err-append-clause-stop : goal.returns-in_err-append-clause-stop
returns-in_err-append-clause-stop g c =
    let handed : c.from_residual.result ≡ Err c.in_err-append.field-0.0 = search rules in
    subst (λ (r : Result (Unit {0}) RedoFault). Lowers (4 * length c.args.payloads.now) r (g.D.Disk.state c.args.disk.now).stop (g.D.Disk.state c.append.new.disk).stop) (sym handed)
    (stops_there c.args.payloads.now c.loop-payload.payload-index c.payload-item.result c.loop-payload.store (g.D.Disk.state c.args.disk.now) (g.D.Disk.state c.loop-payload.disk) c.loop-payload.invariant (g.D.Disk.state c.append.new.disk) c.loop-payload-test.true c.in_err-append.ensures.stop)

pub returns-in_err-append-clause-cause : goal.returns-in_err-append-clause-cause
returns-in_err-append-clause-cause g c =
    let handed : c.from_residual.result ≡ Err c.in_err-append.field-0.0 = search rules in
    subst (λ (r : Result (Unit {0}) RedoFault). Caused (IsErrOf r redo_fault.Stopped) (g.D.Disk.state c.args.disk.now) (g.D.Disk.state c.append.new.disk)) (sym handed)
    (caused_there c.args.payloads.now c.loop-payload.payload-index c.payload-item.result c.loop-payload.store (g.D.Disk.state c.args.disk.now) (g.D.Disk.state c.loop-payload.disk) c.loop-payload.invariant (g.D.Disk.state c.append.new.disk) (IsErrOf {T = Unit {0}} {E = RedoFault} (Err c.in_err-append.field-0.0) redo_fault.Stopped) c.in_err-append.ensures.cause)

pub returns-clause-ready : goal.returns-clause-ready
returns-clause-ready g c = c.loop-payload.invariant.ready

pub returns-clause-added : goal.returns-clause-added
returns-clause-added g c = added_all c.args.payloads.now c.loop-payload.payload-index c.loop-payload.store (g.D.Disk.state c.args.disk.now) (g.D.Disk.state c.loop-payload.disk) c.loop-payload.invariant c.loop-payload-test.false

pub returns-clause-left : goal.returns-clause-left
returns-clause-left g c = left_all c.args.payloads.now c.loop-payload.payload-index c.loop-payload.store (g.D.Disk.state c.args.disk.now) (g.D.Disk.state c.loop-payload.disk) c.loop-payload.invariant c.loop-payload-test.false

pub returns-clause-stop : goal.returns-clause-stop
returns-clause-stop g c = lowered_all c.args.payloads.now c.loop-payload.payload-index c.loop-payload.store (g.D.Disk.state c.args.disk.now) (g.D.Disk.state c.loop-payload.disk) c.loop-payload.invariant c.loop-payload-test.false
