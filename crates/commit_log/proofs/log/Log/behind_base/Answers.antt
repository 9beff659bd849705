use Rattle.std.proofs.Common.{[], sym, ap, subst, ◌∙◌, rules}
use Rattle.disk_model.specs.Moment.{DiskMoment}
use Rattle.redo_store.specs.Walk.{HasRead}
use Rattle.commit_log.specs.declared.log.Log.{Log}
use Rattle.commit_log.specs.meaning.Journals.{journal_of}
use Rattle.commit_log.specs.Logs.{IsBehindBase}
use Rattle.commit_log.proofs.Trailing.{behind_found, never_damaged_there}
use Rattle.commit_log.proofs.log.Log.behind_base.Goals as goal

pub returns-in_err-walk-clause-whole : goal.returns-in_err-walk-clause-whole
returns-in_err-walk-clause-whole g c place is =
    let image = (g.D.Disk.state c.args.disk.now).now.seen in
    let damaged = c.in_err-walk.ensures.damaged place (search rules) in
    never_damaged_there image c.requires.0 0 c.requires.1 damaged.1

pub returns-in_err-next-clause-whole : goal.returns-in_err-next-clause-whole
returns-in_err-next-clause-whole g c place is =
    let image = (g.D.Disk.state c.begin.new.disk).now.seen in
    let same = c.begin.ensures.only_reads.same.now in
    let read = subst (λ (m : DiskMoment). HasRead c.in_ok-walk.walk [] m.seen) (sym same) c.in_ok-walk.ensures.begun in
    never_damaged_there image c.requires.0 place (ap (λ (m : DiskMoment). journal_of m.seen) same ∙ c.requires.1) (c.in_err-next.ensures.damage place (search rules) [] read).0

pub returns-clause-behind : goal.returns-clause-behind
returns-clause-behind g c =
    let image = (g.D.Disk.state c.begin.new.disk).now.seen in
    let same = c.begin.ensures.only_reads.same.now in
    let read = subst (λ (m : DiskMoment). HasRead c.in_ok-walk.walk [] m.seen) (sym same) c.in_ok-walk.ensures.begun in
    let log : Log = record { alloc = c.args.alloc; redo = c.finish.result } in
    subst (λ (m : DiskMoment). IsBehindBase log m.seen) same
    (behind_found image c.requires.0 (ap (λ (m : DiskMoment). journal_of m.seen) same ∙ c.requires.1) c.in_ok-next.field-0 c.next.new.self log
    (c.in_ok-next.ensures.«record» [] read) (c.in_ok-next.ensures.end [] read) c.finish.ensures.place c.finish.ensures.count)
