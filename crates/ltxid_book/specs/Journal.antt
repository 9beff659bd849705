-- The book of a journal: what the commits and blocks that a journal stores say of each session.
-- Here is what contracts and proofs say of it besides.
use Rattle.std.specs.Prelude.{◌≡◌, true, List, length}
use Rattle.svc_values.specs.declared.entry.Ltxid.{Ltxid}
use Rattle.ltxid_book.specs.meaning.Journal.{Committed, commits_of, is_blocked}

-- each blocked identifier is its session's next one still: a block ends the session's commits
abbrev pub BlocksStand : List Committed → List Ltxid → Type 0
BlocksStand commits blocks = (x : Ltxid) → is_blocked blocks x ≡ true
    → x.number ≡ length (commits_of commits x.incarnation x.session)
