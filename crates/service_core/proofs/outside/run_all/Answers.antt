use Rattle.std.proofs.Common.{rules, ◌≡◌, ◌+◌, sym, subst, List, [], ◌∷◌, ◌++◌, drop}
use Rattle.std.proofs.lemmas.List.{drop_all}
use Rattle.std.specs.Prelude.{Option}
use Rattle.svc_values.specs.declared.call.Call.{Call}
use Rattle.svc_values.specs.meaning.Identifiers.{session_of}
use Rattle.outage_schedule.specs.declared.note.NoteRun.{NoteRun}
use Rattle.service_core.specs.Through.{HasRunAll, HasRunOne}
use Rattle.service_core.proofs.Throughout.{SoFar, at_call, halts_all, so_far_all, so_far_blocked, so_far_more, so_far_none, so_far_uncounted}
use Rattle.service_core.proofs.outside.run_all.Goals as goal

pub loop-call-init : goal.loop-call-init
loop-call-init g c =
    let id = session_of c.args.session.now.ltxid in
    let disk = g.D.Disk.state c.args.disk.now in
    subst (λ (r : List NoteRun). SoFar c.args.now id c.args.calls.now c.args.calls.now r c.args.session.now c.args.core.now disk c.args.session.now c.args.core.now disk) (sym c.new-runs.ensures.items)
    (so_far_none c.args.now id c.args.calls.now c.args.session.now c.args.core.now disk c.requires.going c.requires.begun c.requires.made)

pub returns-in-Ok-None : goal.returns-in-Ok-None
returns-in-Ok-None g c =
    let id = session_of c.args.session.now.ltxid in
    let disk = g.D.Disk.state c.args.disk.now in
    let at = g.D.Disk.state c.loop-call.disk in
    let end = g.D.Disk.state c.run_one.new.disk in
    let so_far = at_call c.args.now id c.args.calls.now c.loop-call.call-index c.call-item.result c.loop-call.runs.items c.args.session.now c.args.core.now disk c.loop-call.session c.loop-call.core at c.loop-call-test.true c.call-item.is c.loop-call.invariant in
    let one = subst (λ (r : Option NoteRun). HasRunOne c.args.now c.call-item.result r c.loop-call.session c.loop-call.core at c.run_one.new.session c.run_one.new.core end) c.in-Ok-None.field-0-is c.in-Ok-None.ensures in
    subst (λ (r : List NoteRun). HasRunAll c.args.now id c.args.calls.now r c.args.session.now c.args.core.now disk c.run_one.new.session c.run_one.new.core end) (sym c.from_vec.ensures)
    (so_far_blocked c.args.now id c.args.calls.now c.call-item.result (drop (c.loop-call.call-index + 1) c.args.calls.now) c.loop-call.runs.items c.args.session.now c.args.core.now disk c.loop-call.session c.loop-call.core at so_far c.run_one.new.session c.run_one.new.core end one)

pub returns-then-is_err : goal.returns-then-is_err
returns-then-is_err g c =
    let id = session_of c.args.session.now.ltxid in
    let disk = g.D.Disk.state c.args.disk.now in
    let at = g.D.Disk.state c.loop-call.disk in
    let end = g.D.Disk.state c.run_one.new.disk in
    let one = subst (λ (r : Option NoteRun). HasRunOne c.args.now c.call-item.result r c.loop-call.session c.loop-call.core at c.run_one.new.session c.run_one.new.core end) c.in-Ok-Some.field-0-is c.in-Ok-Some.ensures in
    so_far_uncounted c.args.now id c.args.calls.now (drop c.loop-call.call-index c.args.calls.now) c.call-item.result c.loop-call.runs.items _ c.args.session.now c.args.core.now disk c.loop-call.session c.loop-call.core at c.run_one.new.session c.run_one.new.core end c.loop-call.invariant one

pub returns-in-Err : goal.returns-in-Err
returns-in-Err g c =
    halts_all c.in-Err.fault c.args.now (session_of c.args.session.now.ltxid) c.args.calls.now (drop c.loop-call.call-index c.args.calls.now) c.call-item.result c.loop-call.runs.items c.args.session.now c.args.core.now (g.D.Disk.state c.args.disk.now) c.loop-call.session c.loop-call.core (g.D.Disk.state c.loop-call.disk) c.run_one.new.session c.run_one.new.core (g.D.Disk.state c.run_one.new.disk)
    c.loop-call.invariant c.in-Err.ensures

pub loop-call-preserved : goal.loop-call-preserved
loop-call-preserved g c =
    let id = session_of c.args.session.now.ltxid in
    let disk = g.D.Disk.state c.args.disk.now in
    let at = g.D.Disk.state c.loop-call.disk in
    let end = g.D.Disk.state c.run_one.new.disk in
    let so_far = at_call c.args.now id c.args.calls.now c.loop-call.call-index c.call-item.result c.loop-call.runs.items c.args.session.now c.args.core.now disk c.loop-call.session c.loop-call.core at c.loop-call-test.true c.call-item.is c.loop-call.invariant in
    let one = subst (λ (r : Option NoteRun). HasRunOne c.args.now c.call-item.result r c.loop-call.session c.loop-call.core at c.run_one.new.session c.run_one.new.core end) c.in-Ok-Some.field-0-is c.in-Ok-Some.ensures in
    let pushed : c.push.new.self.items ≡ c.loop-call.runs.items ++ c.in-Ok-Some.run' ∷ [] = search rules in
    subst (λ (r : List NoteRun). SoFar c.args.now id c.args.calls.now (drop (c.loop-call.call-index + 1) c.args.calls.now) r c.args.session.now c.args.core.now disk c.run_one.new.session c.run_one.new.core end) (sym pushed)
    (so_far_more c.args.now id c.args.calls.now c.call-item.result (drop (c.loop-call.call-index + 1) c.args.calls.now) c.loop-call.runs.items c.args.session.now c.args.core.now disk c.loop-call.session c.loop-call.core at so_far c.run_one.new.session c.run_one.new.core end c.in-Ok-Some.run' one)

pub returns : goal.returns
returns g c =
    let id = session_of c.args.session.now.ltxid in
    let disk = g.D.Disk.state c.args.disk.now in
    let end = g.D.Disk.state c.loop-call.disk in
    let so_far = subst (λ (l : List Call). SoFar c.args.now id c.args.calls.now l c.loop-call.runs.items c.args.session.now c.args.core.now disk c.loop-call.session c.loop-call.core end) (drop_all c.loop-call.call-index c.args.calls.now c.loop-call-test.false) c.loop-call.invariant in
    subst (λ (r : List NoteRun). HasRunAll c.args.now id c.args.calls.now r c.args.session.now c.args.core.now disk c.loop-call.session c.loop-call.core end) (sym c.from_vec-2.ensures)
    (so_far_all c.args.now id c.args.calls.now c.loop-call.runs.items c.args.session.now c.args.core.now disk c.loop-call.session c.loop-call.core end so_far)
