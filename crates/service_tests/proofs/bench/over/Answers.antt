use Rattle.std.proofs.Common.{◌≡◌, ◌∙◌, ap, rules}
use Rattle.std.specs.Prelude.{Ok}
use Rattle.disk_model.specs.Disk.{DiskState, new_disk}
use Rattle.disk_model.specs.Mem.{mem_state}
use Rattle.commit_log.specs.meaning.Journals.{journal_of}
use Rattle.service_tests.proofs.Knowing.{new_knows}
use Rattle.service_tests.proofs.bench.over.Goals as goal

pub new-requires-2 : goal.new-requires-2
new-requires-2 g c =
    let state : mem_state c.expect-disk.result ≡ new_disk c.args.bytes.now = search rules in
    let reads : journal_of (mem_state c.expect-disk.result).now.seen ≡ Ok c.in_ok-journal.journal = ap (λ (s : DiskState). journal_of s.now.seen) state ∙ c.in_ok-journal.ensures in
    let new = c.new.ensures.seen c.in_ok-journal.journal reads in
    new_knows _ new.0 new.1
