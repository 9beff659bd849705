use Rattle.std.proofs.Common.{◌≡◌, [], ◌∷◌, ◌++◌, sym, ap, subst, ◌∙◌, rules, None}
use Rattle.std.specs.Prelude.{Ok, Err}
use Rattle.disk_model.specs.Moment.{DiskMoment}
use Rattle.disk_model.proofs.Offered.{reads_for, reads_then}
use Rattle.redo_store.specs.declared.walk.Walk.{Walk}
use Rattle.redo_store.specs.meaning.Records.{records_of, whole_records}
use Rattle.redo_store.specs.Walk.{HasRead}
use Rattle.commit_log.specs.meaning.Journals.{journal_in, journal_of, after_payload}
use Rattle.commit_log.specs.Judging.{so_far_in}
use Rattle.commit_log.proofs.Steps.{judged_push, damaged_gate, damaged_record}
use Rattle.commit_log.proofs.Misfits.{placed, when_none, when_some, no_fault}
use Rattle.commit_log.proofs.judging.judge_rest.Goals as goal

pub returns-in_err-payload-clause-damaged : goal.returns-in_err-payload-clause-damaged
returns-in_err-payload-clause-damaged g c place is =
    let t = g.D.Disk.state c.loop-payload.disk in
    let i = c.loop-payload.invariant in
    let j = i.judged in
    let same = i.only_reads.same.now in
    let read = subst (λ (m : DiskMoment). HasRead c.loop-payload.walk j.done m.seen) (sym same) j.read in
    let here = c.in_err-payload.ensures.damage place (search rules) j.done read in
    ap (λ (m : DiskMoment). journal_of m.seen) (sym same) ∙ ap journal_in (damaged_gate t.now.seen j.done (so_far_in c.loop-payload.judge) place j.judges here.1 here.0)

pub returns-in-Err-clause-damaged : goal.returns-in-Err-clause-damaged
returns-in-Err-clause-damaged g c place is =
    let t = g.D.Disk.state c.loop-payload.disk in
    let i = c.loop-payload.invariant in
    let j = i.judged in
    let same = i.only_reads.same.now in
    let payload = c.in-Some.payload in
    let walk = c.next.new.self in
    let before = subst (λ (m : DiskMoment). HasRead c.loop-payload.walk j.done m.seen) (sym same) j.read in
    let told : c.at.result ≡ _ = cc in
    let at = placed c.in-Err.misfit c.at.result c.loop-payload.place place c.at.ensures.no_memory c.at.ensures.misplaced told in
    let read : HasRead walk (j.done ++ payload.items ∷ []) t.now.seen = when_some c.in_ok-payload.field-0 payload (λ p. HasRead walk (j.done ++ p.items ∷ []) t.now.seen) c.in-Some.is (c.in_ok-payload.ensures.«record» j.done before) in
    let so_far = so_far_in c.loop-payload.judge in
    let misplaced : after_payload so_far payload.items ≡ None = ap (after_payload so_far) (sym c.deref.ensures.value) ∙ c.take.ensures.misplaced (c.in-Err.is ∙ ap (λ m. Err m) at.0) in
    ap (λ (m : DiskMoment). journal_of m.seen) (sym same)
    ∙ ap journal_in (damaged_record t.now.seen j.done payload.items walk so_far place j.judges read misplaced (sym at.1 ∙ i.place ∙ j.read.stands.at_place))

pub loop-payload-preserved : goal.loop-payload-preserved
loop-payload-preserved g c =
    let s = g.D.Disk.state c.args.disk.now in
    let t = g.D.Disk.state c.loop-payload.disk in
    let u = g.D.Disk.state c.next.new.disk in
    let i = c.loop-payload.invariant in
    let j = i.judged in
    let same = i.only_reads.same.now in
    let payload = c.in-Some.payload in
    let walk = c.next.new.self in
    let done = j.done ++ payload.items ∷ [] in
    let before = subst (λ (m : DiskMoment). HasRead c.loop-payload.walk j.done m.seen) (sym same) j.read in
    let read : HasRead walk done t.now.seen = when_some c.in_ok-payload.field-0 payload (λ p. HasRead walk (j.done ++ p.items ∷ []) t.now.seen) c.in-Some.is (c.in_ok-payload.ensures.«record» j.done before) in
    let so_far = so_far_in c.loop-payload.judge in
    record {
      only_reads = reads_then ⊥ ⊥ s t u (λ none. none) i.only_reads (reads_for _ ⊥ t u (no_fault c.next.result c.in_ok-payload.field-0 _ c.in_ok-payload.was) (λ none. absurd none) c.next.ensures.only_reads);
      judged = record {
        done = done;
        read = subst (λ (m : DiskMoment). HasRead walk done m.seen) same read;
        judges = judged_push j.done payload.items so_far (so_far_in c.take.new.self) j.judges (ap (after_payload so_far) (sym c.deref.ensures.value) ∙ c.in_default-take.ensures.taken);
        keeps = c.in_default-take.ensures.kept;
      };
      place = c.place-place-in-Some.ensures;
    }

pub returns-clause-judged : goal.returns-clause-judged
returns-clause-judged g c =
    let s = g.D.Disk.state c.args.disk.now in
    let t = g.D.Disk.state c.loop-payload.disk in
    let i = c.loop-payload.invariant in
    let j = i.judged in
    let same = i.only_reads.same.now in
    let before = subst (λ (m : DiskMoment). HasRead c.loop-payload.walk j.done m.seen) (sym same) j.read in
    let end = when_none c.in_ok-payload.field-0 ((records_of t.now.seen ≡ Ok j.done) × (whole_records t.now.seen ≡ j.done)) c.in_default.is (c.in_ok-payload.ensures.end j.done before) in
    let stays = when_none c.in_ok-payload.field-0 (c.next.new.self ≡ c.loop-payload.walk) c.in_default.is c.in_ok-payload.ensures.ended in
    record {
      judged_all = record {
        done = j.done;
        read = subst (λ (w : Walk). HasRead w j.done s.now.seen) (sym stays) j.read;
        judges = j.judges;
        keeps = j.keeps;
      };
      all = ap (λ (m : DiskMoment). records_of m.seen) (sym same) ∙ end.0;
    }
