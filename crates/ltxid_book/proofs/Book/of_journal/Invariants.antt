use Rattle.std.proofs.Common.{◌≡◌, [], map, take}
use Rattle.ltxid_book.specs.Sessions.{sessions_in}
use Rattle.ltxid_book.specs.meaning.Journal.{committed_of, book_of}
use Rattle.ltxid_book.proofs.Book.of_journal.Given as goal

abbrev pub invariant-loop-entry : goal.invariant-loop-entry
invariant-loop-entry l = sessions_in l.book ≡ book_of l.horizon (map committed_of (take l.entry-index l.entries)) []

abbrev pub invariant-loop-x : goal.invariant-loop-x
invariant-loop-x l = sessions_in l.book ≡ book_of l.horizon (map committed_of l.entries) (take l.x-index l.blocked)
