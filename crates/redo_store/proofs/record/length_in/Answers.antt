use Rattle.std.proofs.Common.{sym}
use Rattle.redo_store.proofs.Walking.{spelled_by}
use Rattle.redo_store.specs.meaning.Records.{length_of}
use Rattle.redo_store.proofs.record.length_in.Goals as goal

pub returns-clause-spelling : goal.returns-clause-spelling
unfolding length_of
returns-clause-spelling c = spelled_by c.from_be_bytes.result c.args.spelling.now c.told-spelling c.fits-spelling (sym c.from_be_bytes.ensures)
