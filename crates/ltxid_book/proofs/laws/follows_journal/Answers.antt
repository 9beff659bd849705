use Rattle.ltxid_book.proofs.Journal.{begins_untouched, follows_commits, follows_blocks, follows_forgetting, tells_blocks}
use Rattle.ltxid_book.proofs.laws.follows_journal.Goals as goal

pub returns : goal.returns
returns c = record { begins = begins_untouched; commits = follows_commits; blocks = follows_blocks; forgetting = follows_forgetting; tells = tells_blocks }
