use Rattle.std.proofs.Common.{length, sym, ap, subst}
use Rattle.disk_model.specs.Moment.{DiskMoment, Torn}
use Rattle.disk_model.proofs.Offered.{then, weaker, after_write, after_sync, torn_with_bytes}
use Rattle.redo_store.proofs.redo.write_durably.Goals as goal

pub returns-in_err-write_at-clause-meanwhile : goal.returns-in_err-write_at-clause-meanwhile
returns-in_err-write_at-clause-meanwhile g c =
    let s = g.D.Disk.state c.args.disk.now in
    let t = g.D.Disk.state c.write_at.new.self in
    let w = c.write_at.ensures in
    let n = length c.args.bytes.now in
    let first = after_write s t c.args.at n c.requires.settled (g.met.D.Disk.reads_now c.args.disk.now) c.in_err-write_at.ensures.torn w.crash in
    weaker s t _ (Torn c.args.at n s.now.seen) w.time first

pub returns-clause-meanwhile : goal.returns-clause-meanwhile
returns-clause-meanwhile g c =
    let s = g.D.Disk.state c.args.disk.now in
    let t = g.D.Disk.state c.write_at.new.self in
    let u = g.D.Disk.state c.sync.new.self in
    let w = c.write_at.ensures in
    let v = c.sync.ensures in
    let n = length c.args.bytes.now in
    let P = Torn c.args.at n s.now.seen in
    let torn : Torn c.args.at n s.now.seen t.now.seen =
    subst (Torn c.args.at n s.now.seen) (sym (ap (λ (m : DiskMoment). m.seen) c.in_ok-write_at.ensures.written)) (torn_with_bytes c.args.at c.args.bytes.now s.now.seen c.requires.at) in
    let first = after_write s t c.args.at n c.requires.settled (g.met.D.Disk.reads_now c.args.disk.now) torn w.crash in
    then s t u P (weaker s t _ P w.time first) (weaker t u _ P v.time (after_sync c.sync.result t u P v.durable v.seen v.crash first torn))
