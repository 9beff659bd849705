use Rattle.std.proofs.Common.{◌≡◌, ℕ, [], List, ap, ◌∙◌}
use Rattle.std.specs.Prelude.{Ok}
use Rattle.disk_model.specs.Moment.{DiskMoment}
use Rattle.redo_store.specs.meaning.Records.{records_of}
use Rattle.redo_store.specs.Records.{payload_in, with_last}
use Rattle.commit_log.proofs.Growing.{begins_with_base}
use Rattle.commit_log.proofs.log.Log.create.Goals as goal

pub returns-clause-made : goal.returns-clause-made
returns-clause-made g c =
    let s = g.D.Disk.state c.begin.new.disk in
    let t = g.D.Disk.state c.append_made.new.disk in
    let payload = payload_in c.in-Ok.made.items in
    let none : records_of s.now.seen ≡ Ok [] = ap (λ (m : DiskMoment). records_of m.seen) c.begin.ensures.only_reads.same.now ∙ c.in_ok-create.ensures.empty in
    begins_with_base s.now.seen t.now.seen c.args.base.now c.requires.base none (record {
      records = c.in_ok-append_made.ensures.added ∙ ap (λ (l : List ℕ). with_last l (records_of s.now.seen)) c.in-Ok.ensures.payload;
      fits = c.in-Ok.ensures.fitting;
    })
