use Rattle.std.proofs.Common.{◌≤◌, ◌^◌, ◌∙◌, ℕ, List, length, arith, ap, subst}
use Rattle.disk_model.specs.Moment.{DiskMoment, MayLeave, next_moment}
use Rattle.disk_model.specs.Log.{now_of}
use Rattle.disk_model.specs.Mem.{mem_state}
use Rattle.disk_model.proofs.Moments.{one_more}
use Rattle.disk_model.proofs.Writes.{length-with_bytes}
use Rattle.disk_model.proofs.Past.{now_is, past_is, still_log}
use Rattle.disk_model.proofs.mem.MemDiskDisk.write_at.Goals as goal

pub invariant_of-self-2 : goal.invariant_of-self-2
invariant_of-self-2 c =
    let d = c.args.self.now in
    let w = c.in-Ok.ensures in
    let n = length c.args.bytes.now in
    let small : length c.put.new.bytes.items ≤ 2 ^ 62 = omega (arith, ap length w.written, length-with_bytes c.args.at c.args.bytes.now d.bytes.items c.requires, d.small, c.if-bytes-at.false) in
    record { small = small; fits = still_log c.args.at n d.bytes.items c.put.new.bytes.items d.log.items c.put.new.log.items w.logged d.fits }

pub returns-clause-written : goal.returns-clause-written
returns-clause-written c =
    let d = c.args.self.now in
    let w = c.in-Ok.ensures in
    let n = length c.args.bytes.now in
    now_is c.args.at n d.bytes.items c.put.new.bytes.items d.log.items c.put.new.log.items w.logged ∙ ap (λ (l : List ℕ). next_moment c.args.at n l (now_of d.log.items d.bytes.items)) w.written

pub returns-clause-crash : goal.returns-clause-crash
returns-clause-crash c image left =
    let d = c.args.self.now in
    subst (λ (m : DiskMoment). MayLeave m image) (now_is c.args.at (length c.args.bytes.now) d.bytes.items c.put.new.bytes.items d.log.items c.put.new.log.items c.in-Ok.ensures.logged) left

pub returns-clause-time : goal.returns-clause-time
returns-clause-time c =
    let d = c.args.self.now in
    one_more (mem_state d) _ (past_is c.args.at (length c.args.bytes.now) d.bytes.items c.put.new.bytes.items d.log.items c.put.new.log.items c.in-Ok.ensures.logged)
