-- A book that is kept beside a journal says what the journal says.
use Rattle.std.specs.Prelude.{◌≡◌, ℕ, IsTrue, false, max, List, [], ◌∷◌, ◌++◌}
use Rattle.svc_values.specs.declared.entry.Ltxid.{Ltxid}
use Rattle.ltxid_book.specs.meaning.Sessions.{is_forgotten, may_commit}
use Rattle.ltxid_book.specs.Sessions.{none_yet, after_commit, after_block, after_forgetting}
use Rattle.ltxid_book.specs.meaning.Journal.{Committed, is_blocked, book_of}
use Rattle.ltxid_book.specs.Journal.{BlocksStand}

-- the book in which each session is untouched is that of the empty journal
abbrev pub BeginsUntouched : Type 0
BeginsUntouched = (none_yet ≡ book_of 0 [] []) × BlocksStand [] []

-- after the commit of an identifier that may commit, the book is that of the journal with this
-- commit last
abbrev pub FollowsCommits : Type 0
FollowsCommits =
    (horizon : ℕ) (commits : List Committed) (blocks : List Ltxid) (c : Committed)
    → BlocksStand commits blocks → IsTrue (may_commit (book_of horizon commits blocks) c.ltxid)
    → (after_commit (book_of horizon commits blocks) c.ltxid c.completed
    ≡ book_of horizon (commits ++ c ∷ []) blocks) × BlocksStand (commits ++ c ∷ []) blocks

-- after the block of an identifier that could have committed, the book is that of the journal with
-- this block last
abbrev pub FollowsBlocks : Type 0
FollowsBlocks =
    (horizon : ℕ) (commits : List Committed) (blocks : List Ltxid) (x : Ltxid)
    → BlocksStand commits blocks → IsTrue (may_commit (book_of horizon commits blocks) x)
    → (after_block (book_of horizon commits blocks) x ≡ book_of horizon commits (blocks ++ x ∷ []))
    × BlocksStand commits (blocks ++ x ∷ [])

-- after forgetting what is below an incarnation, the book is that of the journal with the greater
-- horizon
abbrev pub FollowsForgetting : Type 0
FollowsForgetting =
    (horizon below : ℕ) (commits : List Committed) (blocks : List Ltxid)
    → after_forgetting (book_of horizon commits blocks) below
    ≡ book_of (max horizon below) commits blocks

-- an identifier of a session that is not forgotten, with the session's next number, is blocked in
-- the book exactly where the journal blocks it
abbrev pub TellsBlocks : Type 0
TellsBlocks =
    (horizon : ℕ) (commits : List Committed) (blocks : List Ltxid) (x : Ltxid)
    → let book = book_of horizon commits blocks in is_forgotten book x.incarnation ≡ false
    → x.number ≡ (book.state x.incarnation x.session).next
    → (book.state x.incarnation x.session).blocked ≡ is_blocked blocks x
