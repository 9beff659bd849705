-- A book that is kept beside a journal.
use Rattle.std.proofs.Common.{◌≡◌, ℕ, Bool, ◌&&◌, List, [], ◌∷◌, ap, subst, ◌∙◌}
use Rattle.std.specs.Prelude.{IsTrue, nat_le, Ok}
use Rattle.svc_values.specs.declared.entry.Entry.{Entry}
use Rattle.svc_values.specs.declared.entry.Write.{Write}
use Rattle.svc_values.specs.meaning.Fitting.{writes_fit}
use Rattle.ltxid_book.specs.meaning.Sessions.{may_commit as may_note}
use Rattle.ltxid_book.specs.Sessions.{Contents, sessions_in, after_commit}
use Rattle.commit_log.specs.declared.journal.Journal.{Journal}
use Rattle.commit_log.specs.declared.records.Record.TheVariants as kept
use Rattle.commit_log.specs.meaning.Bases.{schemas_of}
use Rattle.commit_log.specs.meaning.Rules.{with_record, may_commit}
use Rattle.commit_log.specs.meaning.Journals.{journal_of}
use Rattle.commit_log.specs.Growth.{with_records}
use Rattle.commit_log.proofs.Offered.{may_beside, notes_commit}
use Rattle.log_bench.specs.Following.{IsPlain, Follows, IsFollowed}

same_journal : (a b : Journal) (image : List ℕ) → journal_of image ≡ Ok a → journal_of image ≡ Ok b → a ≡ b
same_journal a b image first second = cc

-- the book lets a plain commit through that may come next
pub may_follow : (book : Contents) (journal : Journal) (entry : Entry) → Follows book journal → IsPlain entry → IsTrue (may_note (sessions_in book) entry.ltxid) → IsTrue (may_commit journal entry)
may_follow book journal entry follows plain may =
    let fits : Bool = writes_fit (schemas_of journal.base) entry.writes in
    may_beside book journal entry follows.book_for
    ∙ ap (λ (n : ℕ). nat_le n journal.incarnation && (may_note (sessions_in book) entry.ltxid && fits)) plain.incarnation
    ∙ ap (λ (n : ℕ). nat_le 1 n && (may_note (sessions_in book) entry.ltxid && fits)) follows.incarnation
    ∙ ap (λ (b : Bool). b && fits) may
    ∙ ap (λ (writes : List Write). writes_fit (schemas_of journal.base) writes) plain.writes

-- and after it the book follows
pub followed_after : (old new : Contents) (before after : List ℕ) (first : Journal) (entry : Entry) → journal_of before ≡ Ok first → IsFollowed old before → IsTrue (may_note (sessions_in old) entry.ltxid) → sessions_in new ≡ after_commit (sessions_in old) entry.ltxid entry.completed
    → journal_of after ≡ with_records (kept.Commit entry ∷ []) (journal_of before) → IsFollowed new after
followed_after old new before after first entry holds followed may says added journal is =
    let follows = followed first holds in
    let last : Journal = with_record first (kept.Commit entry) in
    let ends : journal_of after ≡ Ok last = added ∙ ap (with_records (kept.Commit entry ∷ [])) holds in
    subst (Follows new) (same_journal last journal after ends is) (record { incarnation = follows.incarnation; book_for = notes_commit old new first entry follows.book_for may says })
