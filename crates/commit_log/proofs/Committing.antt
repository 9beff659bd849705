-- The book beside a journal.
use Rattle.std.proofs.Common.{◌≡◌, ℕ, ◌&&◌, Bool, true, false, List, [], ◌∷◌, ◌++◌, map, refl, sym, ap, subst, ◌∙◌, arith}
use Rattle.std.specs.Prelude.{IsTrue, nat_le, nat_lt, max}
use Rattle.std.proofs.lemmas.List.{map_push}
use Rattle.std.proofs.lemmas.Bool.{ltb-true}
use Rattle.svc_values.specs.declared.schema.Shape.{Shape}
use Rattle.svc_values.specs.declared.entry.Entry.{Entry}
use Rattle.svc_values.specs.declared.entry.Ltxid.{Ltxid}
use Rattle.svc_values.specs.meaning.Fitting.{writes_fit}
use Rattle.ltxid_book.specs.meaning.Sessions.{Sessions, may_commit as may_note}
use Rattle.ltxid_book.specs.Sessions.{Contents, sessions_in, after_commit, after_block, after_forgetting}
use Rattle.ltxid_book.specs.meaning.Journal.{Committed, committed_of, book_of}
use Rattle.ltxid_book.specs.Journal.{BlocksStand}
use Rattle.ltxid_book.proofs.Offered.{follows_commits, follows_blocks, follows_forgetting}
use Rattle.commit_log.specs.declared.journal.Journal.{Journal}
use Rattle.commit_log.specs.declared.judge.Judge.{Judge}
use Rattle.commit_log.specs.declared.records.Record.TheVariants as kept
use Rattle.commit_log.specs.meaning.Bases.{schemas_of}
use Rattle.commit_log.specs.meaning.Rules.{sessions_of, may_commit, may_block, rises, with_record}
use Rattle.commit_log.specs.Judging.{IsBookFor, Keeps}

-- whether a commit may come next, by a book that is kept beside the journal
pub may_beside : (book : Contents) (journal : Journal) (entry : Entry) → IsBookFor book journal
    → may_commit journal entry ≡ (nat_le entry.ltxid.incarnation journal.incarnation && (may_note (sessions_in book) entry.ltxid && writes_fit (schemas_of journal.base) entry.writes))
unfolding may_commit
may_beside book journal entry book_for =
    ap (λ (s : Sessions). nat_le entry.ltxid.incarnation journal.incarnation && (may_note s entry.ltxid && writes_fit (schemas_of journal.base) entry.writes)) (sym book_for.sessions)

pub may_by_book : (judge : Judge) (entry : Entry) → Keeps judge
    → may_commit judge.journal entry ≡ (nat_le entry.ltxid.incarnation judge.journal.incarnation && (may_note (sessions_in judge.book) entry.ltxid && writes_fit judge.shape.schemas entry.writes))
may_by_book judge entry keeps =
    may_beside judge.book judge.journal entry keeps.book_for
    ∙ ap (λ (shape : Shape). nat_le entry.ltxid.incarnation judge.journal.incarnation && (may_note (sessions_in judge.book) entry.ltxid && writes_fit shape.schemas entry.writes)) (sym keeps.shape)

pub three_hold : (a b c r : Bool) → a ≡ true → b ≡ true → r ≡ c → r ≡ (a && (b && c))
three_hold true true c r first second e = e
three_hold true false c r first second e = absurd cc
three_hold false b c r first second e = absurd cc

pub second_fails : (a b c r : Bool) → a ≡ true → r ≡ b → r ≡ false → r ≡ (a && (b && c))
second_fails true true c r first e fails = absurd cc
second_fails true false c r first e fails = fails
second_fails false b c r first e fails = absurd cc

pub first_fails : (a b c : Bool) → a ≡ false → a ≡ (a && (b && c))
first_fails true b c fails = absurd cc
first_fails false b c fails = refl

pub second_holds : (a b : Bool) → (a && b) ≡ true → b ≡ true
second_holds true b e = e
second_holds false b e = absurd cc

middle : (a b c : Bool) → (a && (b && c)) ≡ true → b ≡ true
middle true true c e = refl
middle true false c e = cc
middle false b c e = absurd cc

-- the book lets a commit through that may come next
pub book_lets : (judge : Judge) (entry : Entry) → Keeps judge → may_commit judge.journal entry ≡ true → IsTrue (may_note (sessions_in judge.book) entry.ltxid)
book_lets judge entry keeps may =
    middle (nat_le entry.ltxid.incarnation judge.journal.incarnation) (may_note (sessions_in judge.book) entry.ltxid) (writes_fit judge.shape.schemas entry.writes) (sym (may_by_book judge entry keeps) ∙ may)

-- a book that has noted the commit is one for the journal with the entry
pub notes_commit : (old new : Contents) (journal : Journal) (entry : Entry) → IsBookFor old journal → IsTrue (may_note (sessions_in old) entry.ltxid) → sessions_in new ≡ after_commit (sessions_in old) entry.ltxid entry.completed
    → IsBookFor new (with_record journal (kept.Commit entry))
notes_commit old new journal entry book_for may says =
    let commits = map committed_of journal.entries in
    let lets : IsTrue (may_note (sessions_of journal) entry.ltxid) = ap (λ (s : Sessions). may_note s entry.ltxid) (sym book_for.sessions) ∙ may in
    let follows = follows_commits journal.horizon commits journal.blocked (committed_of entry) book_for.blocks lets in
    let more : map committed_of (journal.entries ++ entry ∷ []) ≡ commits ++ committed_of entry ∷ [] = map_push committed_of journal.entries entry in
    record {
      sessions = says ∙ ap (λ (s : Sessions). after_commit s entry.ltxid entry.completed) book_for.sessions ∙ follows.0 ∙ ap (λ (l : List Committed). book_of journal.horizon l journal.blocked) (sym more);
      blocks = subst (λ (l : List Committed). BlocksStand l journal.blocked) (sym more) follows.1;
    }

-- whether an identifier may be blocked, by a book that is kept beside the journal
pub block_beside : (book : Contents) (journal : Journal) (x : Ltxid) → IsBookFor book journal → may_note (sessions_in book) x ≡ may_block journal x
block_beside book journal x book_for = ap (λ (s : Sessions). may_note s x) book_for.sessions

-- a book that has noted the block is one for the journal with it
pub notes_block : (old new : Contents) (journal : Journal) (x : Ltxid) → IsBookFor old journal → IsTrue (may_note (sessions_in old) x) → sessions_in new ≡ after_block (sessions_in old) x
    → IsBookFor new (with_record journal (kept.Blocked x))
notes_block old new journal x book_for may says =
    let lets : IsTrue (may_block journal x) = sym (block_beside old journal x book_for) ∙ may in
    let follows = follows_blocks journal.horizon (map committed_of journal.entries) journal.blocked x book_for.blocks lets in
    record { sessions = says ∙ ap (λ (s : Sessions). after_block s x) book_for.sessions ∙ follows.0; blocks = follows.1 }

not_below : (a b : ℕ) → nat_lt a b ≡ true → max a b ≡ b
not_below a b e = omega (arith, ltb-true a b e)

-- a horizon that rises, or is the first, is the greater one
pub greater : (journal : Journal) (has_horizon : Bool) (horizon : ℕ) → (has_horizon ≡ false → journal.horizon ≡ 0) → rises journal has_horizon horizon ≡ true → max journal.horizon horizon ≡ horizon
greater journal true horizon unset up = not_below journal.horizon horizon up
greater journal false horizon unset up = let zero : journal.horizon ≡ 0 = unset refl in omega (arith, zero)

-- a book that has forgotten what is below a greater horizon, or below the first one, is one for the
-- journal with it
pub notes_horizon : (old new : Contents) (journal : Journal) (has_horizon : Bool) (horizon : ℕ) → IsBookFor old journal → (has_horizon ≡ false → journal.horizon ≡ 0) → rises journal has_horizon horizon ≡ true
    → sessions_in new ≡ after_forgetting (sessions_in old) horizon → IsBookFor new (with_record journal (kept.Horizon horizon))
notes_horizon old new journal has_horizon horizon book_for unset up says = record {
  sessions = says
      ∙ ap (λ (s : Sessions). after_forgetting s horizon) book_for.sessions
      ∙ follows_forgetting journal.horizon horizon (map committed_of journal.entries) journal.blocked
      ∙ ap (λ n. book_of n (map committed_of journal.entries) journal.blocked) (greater journal has_horizon horizon unset up);
  blocks = book_for.blocks;
}
