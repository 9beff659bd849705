use Rattle.std.proofs.Common.{List, refl, sym, ◌∙◌, ap, subst}
use Rattle.disk_model.specs.declared.kept.KeptWrite.{KeptWrite}
use Rattle.disk_model.specs.Log.{bytes_before, first_bytes, synced_of}
use Rattle.disk_model.specs.InnerLog.{IsLog}
use Rattle.disk_model.proofs.Past.{first_bytes-push, synced_push, log_snoc, synced_snoc}
use Rattle.disk_model.proofs.crash.back_to_sync.Goals as goal

pub undo-requires : goal.undo-requires
undo-requires c = (log_snoc c.in-Some.write c.loop-write.bytes.items c.pop.new.self.items (subst (λ (l : List KeptWrite). IsLog l c.loop-write.bytes.items) c.in-Some.ensures.items c.loop-write.invariant.fits)).0

pub loop-write-preserved : goal.loop-write-preserved
loop-write-preserved c =
    let w = c.in-Some.write in
    let bytes = c.loop-write.bytes.items in
    let log = c.pop.new.self.items in
    let first = first_bytes c.args.log.now.items c.args.bytes.now.items in
    let is = c.undo.ensures in
    let v = c.loop-write.invariant in
    let rest = (log_snoc w bytes log (subst (λ (l : List KeptWrite). IsLog l bytes) c.in-Some.ensures.items v.fits)).1 in
    record {
      same_first = ap (first_bytes log) is ∙ sym (first_bytes-push w (bytes_before w bytes) bytes refl log) ∙ ap (λ (l : List KeptWrite). first_bytes l bytes) (sym c.in-Some.ensures.items) ∙ v.same_first;
      same_synced = ap (synced_of first log) is ∙ sym (synced_push w (bytes_before w bytes) bytes refl c.if-write.false log first) ∙ ap (λ (l : List KeptWrite). synced_of first l bytes) (sym c.in-Some.ensures.items) ∙ v.same_synced;
      fits = subst (IsLog log) (sym is) rest;
    }

pub returns-then-write : goal.returns-then-write
returns-then-write c =
    let first = first_bytes c.args.log.now.items c.args.bytes.now.items in
    let bytes = c.loop-write.bytes.items in
    sym (synced_snoc c.in-Some.write bytes c.if-write.true c.pop.new.self.items first) ∙ ap (λ (l : List KeptWrite). synced_of first l bytes) (sym c.in-Some.ensures.items) ∙ c.loop-write.invariant.same_synced
