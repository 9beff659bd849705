use Rattle.std.proofs.Common.{◌≡◌, ℕ, [], List, refl, sym, ap, subst, ◌∙◌, rules}
use Rattle.std.specs.Prelude.{Err}
use Rattle.disk_model.specs.Moment.{DiskMoment, MayLeave}
use Rattle.redo_store.specs.meaning.Records.{records_of}
use Rattle.redo_store.specs.Walk.{HasRead}
use Rattle.commit_log.specs.meaning.Rules.{Empty}
use Rattle.commit_log.specs.meaning.Journals.{journal_in, so_far_of}
use Rattle.commit_log.proofs.Steps.{so_far_by_records, damaged_gate}
use Rattle.commit_log.proofs.judging.judge_all.Goals as goal

pub returns-in_err-walk-clause-damaged : goal.returns-in_err-walk-clause-damaged
returns-in_err-walk-clause-damaged g c place is =
    let seen = (g.D.Disk.state c.args.disk.now).now.seen in
    let here = c.in_err-walk.ensures.damaged place (search rules) in
    ap journal_in (damaged_gate seen [] Empty 0 refl here.2 here.1) ∙ ap (λ (n : ℕ). Err n) (sym here.0)

pub returns-clause-judged : goal.returns-clause-judged
returns-clause-judged g c =
    let h = c.in_ok-judge_rest.ensures.judged in
    let same = c.begun.ensures.only_reads.same.now ∙ c.begin.ensures.only_reads.same.now in
    ap (λ (m : DiskMoment). so_far_of m.seen) (sym same) ∙ so_far_by_records (g.D.Disk.state c.begun.new.disk).now.seen h.judged_all.done h.all ∙ h.judged_all.judges

pub returns-clause-ready : goal.returns-clause-ready
returns-clause-ready g c settled =
    let u = g.D.Disk.state c.judge_rest.new.disk in
    let h = c.in_ok-judge_rest.ensures.judged in
    let last = c.judge_rest.ensures.only_reads.same.now in
    let same = last ∙ c.begun.ensures.only_reads.same.now ∙ c.begin.ensures.only_reads.same.now in
    let done = h.judged_all.done in
    c.finish.ensures.ready u done
    (subst (λ (m : DiskMoment). HasRead c.judge_rest.new.walk done m.seen) (sym last) h.judged_all.read)
    (ap (λ (m : DiskMoment). records_of m.seen) last ∙ h.all)
    (subst (λ (m : DiskMoment). (image : List ℕ) → MayLeave m image → image ≡ m.seen) (sym same) settled)
