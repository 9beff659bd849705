use Rattle.std.proofs.Common.{◌≡◌, ◌<◌, length, arith}
use Rattle.table_txn.proofs.OwnLaws.{own_step, step_within, step_kept, front_of}
use Rattle.table_txn.proofs.own.OwnWrites.keep_first.Goals as goal

pub index-before-requires : goal.index-before-requires
index-before-requires c =
    let inside = c.loop-write.self-inside in
    let within : length c.pop_behind.new.writes.items < length inside.before.items = step_within c.loop-write.writes.items c.pop_behind.new.writes.items c.in-Some.write inside.before.items inside.latest c.loop-write.invariant.own c.in-Some.ensures.0 in
    omega (arith, c.pop_behind.new.writes.ok.0, inside.before.ok.0)

pub restore-requires : goal.restore-requires
restore-requires c =
    let inside = c.loop-write.self-inside in
    step_kept c.loop-write.writes.items c.pop_behind.new.writes.items c.in-Some.write inside.before.items inside.latest c.loop-write.invariant.own c.in-Some.ensures.0

pub loop-write-preserved : goal.loop-write-preserved
loop-write-preserved c =
    let inside = c.loop-write.self-inside in
    let n : c.len.result ≡ length c.pop_behind.new.writes.items = omega (arith, c.pop_behind.new.writes.ok.0) in
    record {
      own = own_step c.loop-write.writes.items c.pop_behind.new.writes.items c.in-Some.write inside.before.items inside.latest c.restore.new.latest c.len.result c.index-before.result.now c.loop-write.invariant.own c.in-Some.ensures.0 n c.index-before.ensures c.restore.ensures;
      front = front_of c.args.self.now c.loop-write.writes.items c.pop_behind.new.writes.items c.in-Some.write c.loop-write.invariant.front c.in-Some.ensures.0;
      few = c.in-Some.ensures.1;
    }

pub loop-write-preserved-in-Some : goal.loop-write-preserved-in-Some
loop-write-preserved-in-Some c =
    let inside = c.loop-write.self-inside in
    let n : c.len.result ≡ length c.pop_behind.new.writes.items = omega (arith, c.pop_behind.new.writes.ok.0) in
    record {
      own = own_step c.loop-write.writes.items c.pop_behind.new.writes.items c.in-Some.write inside.before.items inside.latest c.restore.new.latest c.len.result c.index-before.result.now c.loop-write.invariant.own c.in-Some.ensures.0 n c.index-before.ensures c.restore.ensures;
      front = front_of c.args.self.now c.loop-write.writes.items c.pop_behind.new.writes.items c.in-Some.write c.loop-write.invariant.front c.in-Some.ensures.0;
      few = c.in-Some.ensures.1;
    }
