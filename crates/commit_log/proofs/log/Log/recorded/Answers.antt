use Rattle.std.proofs.Common.{length, sym, ap, subst, ◌∙◌, arith}
use Rattle.disk_model.specs.Moment.{DiskMoment}
use Rattle.disk_model.proofs.Offered.{reads_for, reads_then}
use Rattle.commit_log.specs.declared.records.Record.{Record}
use Rattle.commit_log.specs.meaning.Journals.{journal_in, journal_of}
use Rattle.commit_log.specs.Logs.{HasReadOn, IsBehind, Trails}
use Rattle.commit_log.proofs.Misfits.{no_fault, when_none, when_some}
use Rattle.commit_log.proofs.Telling.{HasTold, told_more}
use Rattle.commit_log.proofs.log.Log.recorded.Goals as goal

pub loop-told-init : goal.loop-told-init
loop-told-init g c =
    let s = g.D.Disk.state c.args.disk.now in
    let t = g.D.Disk.state c.behind_base.new.disk in
    let first = c.in_ok-log.ensures.behind in
    record {
      only_reads = reads_for _ ⊥ s t (no_fault c.behind_base.result c.in_ok-log.log _ c.in_ok-log.was) (λ none. absurd none) c.behind_base.ensures.only_reads;
      told = record { is_opened = _; has_horizon = _; journal = _; trails = first.trails; tells = c.new-told.ensures first.base };
    }

pub next-requires : goal.next-requires
next-requires g c =
    let t = g.D.Disk.state c.loop-told.disk in
    let told = c.loop-told.invariant.told in
    let same = c.loop-told.invariant.only_reads.same.now in
    subst (λ (m : DiskMoment). IsBehind c.loop-told.log m.seen) (sym same)
    (record { is_opened = told.is_opened; has_horizon = told.has_horizon; journal = told.journal; trails = told.trails; last = c.requires.journal.0; reads = c.requires.journal.1 })

pub loop-told-preserved : goal.loop-told-preserved
loop-told-preserved g c =
    let s = g.D.Disk.state c.args.disk.now in
    let t = g.D.Disk.state c.loop-told.disk in
    let u = g.D.Disk.state c.next.new.disk in
    let i = c.loop-told.invariant in
    let told = i.told in
    let same = i.only_reads.same.now in
    let trails = subst (λ (m : DiskMoment). Trails told.is_opened told.has_horizon told.journal c.loop-told.log m.seen) (sym same) told.trails in
    let one = c.in-Some.«record» in
    let read = when_some c.in_ok-record.field-0 one (λ (r : Record). HasReadOn told.is_opened told.has_horizon told.journal r c.next.new.self t.now.seen) c.in-Some.is (c.in_ok-record.ensures.next told.is_opened told.has_horizon told.journal trails) in
    record {
      only_reads = reads_then ⊥ ⊥ s t u (λ none. none) i.only_reads (reads_for _ ⊥ t u (no_fault c.next.result c.in_ok-record.field-0 _ c.in_ok-record.was) (λ none. absurd none) c.next.ensures.only_reads);
      told = subst (λ (m : DiskMoment). HasTold c.add.new.self c.next.new.self m.seen) same
          (told_more told.is_opened told.has_horizon told.journal one c.next.new.self t.now.seen c.add.new.self read (c.in-Ok.ensures.told told.journal told.tells));
    }

pub loop-told-smaller : goal.loop-told-smaller
loop-told-smaller g c =
    let t = g.D.Disk.state c.loop-told.disk in
    let same = c.loop-told.invariant.only_reads.same.now in
    let rises = when_some c.in_ok-record.field-0 c.in-Some.«record» _ c.in-Some.is c.in_ok-record.ensures.rises in
    omega (arith, rises.0, rises.1, ap (λ (m : DiskMoment). length m.seen) same)

pub returns-clause-told : goal.returns-clause-told
returns-clause-told g c =
    let told = c.loop-told.invariant.told in
    let same = c.loop-told.invariant.only_reads.same.now in
    let trails = subst (λ (m : DiskMoment). Trails told.is_opened told.has_horizon told.journal c.loop-told.log m.seen) (sym same) told.trails in
    let all = when_none c.in_ok-record.field-0 _ c.in_default.is (c.in_ok-record.ensures.end told.is_opened told.has_horizon told.journal trails) in
    (told.journal, ap (λ (m : DiskMoment). journal_of m.seen) (sym same) ∙ ap journal_in all, told.tells)
