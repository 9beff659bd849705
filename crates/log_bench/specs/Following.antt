-- What the work keeps beside a journal.
use Rattle.std.specs.Prelude.{◌≡◌, ℕ, List, [], Ok}
use Rattle.svc_values.specs.declared.entry.Entry.{Entry}
use Rattle.ltxid_book.specs.Sessions.{Contents}
use Rattle.commit_log.specs.declared.journal.Journal.{Journal}
use Rattle.commit_log.specs.meaning.Journals.{journal_of}
use Rattle.commit_log.specs.Judging.{IsBookFor}

-- a commit of the first opening that writes no row
pub record IsPlain (entry : Entry) : Type 0 where
  pub incarnation : entry.ltxid.incarnation ≡ 1
  pub writes : entry.writes ≡ []

-- the store was opened once, and the book is that of its journal
pub record Follows (book : Contents) (journal : Journal) : Type 0 where
  pub incarnation : journal.incarnation ≡ 1
  pub book_for : IsBookFor book journal

-- so it is with the journal that the image holds
abbrev pub IsFollowed : Contents → List ℕ → Type 0
IsFollowed book image = (journal : Journal) → journal_of image ≡ Ok journal → Follows book journal
