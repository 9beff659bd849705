use Rattle.std.proofs.Common.{refl}
use Rattle.std.specs.Prelude.{true, false}
use Rattle.commit_log.specs.Logs.{HasReadOn}
use Rattle.commit_log.specs.RecordBytes.{FitsRecord}
use Rattle.commit_log.proofs.Offered.{trails_unset}
use Rattle.service_core.proofs.Rested.{if_none, if_some, reached_end, reached_one, read_well, with_log}
use Rattle.service_core.proofs.resting.Resting.read_on.Goals as goal

pub follow-requires : goal.follow-requires
follow-requires g c =
    let rests = c.requires.rests in
    let old = c.args.self.now in
    let image = (g.D.Disk.state c.args.disk.now).now.seen in
    let one = c.in-Ok-Some in
    let read = if_some one.field-0 one.record (λ r. HasReadOn rests.is_opened old.has_horizon rests.journal r c.next.new.self image) one.field-0-is (one.ensures.next rests.is_opened old.has_horizon rests.journal rests.trails) in
    record {
      is_opened = rests.is_opened;
      has_horizon = old.has_horizon;
      journal = rests.journal;
      of_journal = with_log old.core c.next.new.self rests.journal rests.of_journal;
      may = read.may;
      fits = if_some one.field-0 one.record FitsRecord one.field-0-is one.ensures.fitting;
    }

pub returns-in-Ok : goal.returns-in-Ok
returns-in-Ok g c =
    let rests = c.requires.rests in
    let old = c.args.self.now in
    let disk = g.D.Disk.state c.args.disk.now in
    let end = g.D.Disk.state c.next.new.disk in
    let one = c.in-Ok-Some in
    let read = if_some one.field-0 one.record (λ r. HasReadOn rests.is_opened old.has_horizon rests.journal r c.next.new.self disk.now.seen) one.field-0-is (one.ensures.next rests.is_opened old.has_horizon rests.journal rests.trails) in
    let rises = if_some one.field-0 one.record _ one.field-0-is one.ensures.rises in
    let follows = c.in-Ok.ensures.follows rests.is_opened old.has_horizon rests.journal (with_log old.core c.next.new.self rests.journal rests.of_journal) (trails_unset rests.is_opened old.has_horizon rests.journal old.core.log disk.now.seen rests.trails) read.may in
    record {
      reached = reached_one old _ disk end rests.is_opened rests.journal one.record c.next.new.self read rises c.in-Ok.ensures.log c.has_horizon-self.ensures follows;
      reads = read_well one.field-0 true disk end one.ensures.only_reads;
      grants = c.in-Ok.ensures.grants;
    }

pub returns-in-Ok-None : goal.returns-in-Ok-None
returns-in-Ok-None g c =
    let rests = c.requires.rests in
    let old = c.args.self.now in
    let disk = g.D.Disk.state c.args.disk.now in
    let end = g.D.Disk.state c.next.new.disk in
    let none = c.in-Ok-None in
    record {
      reached = reached_end old disk end rests.is_opened rests.journal c.next.new.self rests.of_journal none.ensures.only_reads.same.now
          (if_none none.field-0 _ none.field-0-is (none.ensures.end rests.is_opened old.has_horizon rests.journal rests.trails)) (λ settled. if_none none.field-0 _ none.field-0-is (none.ensures.ready settled));
      reads = read_well none.field-0 false disk end none.ensures.only_reads;
      grants = refl;
    }
