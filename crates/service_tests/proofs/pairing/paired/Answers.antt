use Rattle.std.proofs.Common.{◌∙◌, ap}
use Rattle.disk_model.specs.Disk.{DiskState}
use Rattle.commit_log.specs.meaning.Journals.{journal_of}
use Rattle.service_tests.proofs.Knowing.{new_knows}
use Rattle.service_tests.proofs.Ready.{read_so}
use Rattle.service_tests.proofs.pairing.paired.Goals as goal

pub new-requires-2 : goal.new-requires-2
new-requires-2 g c =
    let reads = ap (λ (s : DiskState). journal_of s.now.seen) c.disk-first.ensures.state ∙ read_so _ _ _ c.read.ensures c.expect-journal.ensures in
    let new = c.new.ensures.seen c.expect-journal.result reads in
    new_knows _ new.0 new.1
