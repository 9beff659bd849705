-- What may come next in a journal, by the book of its sessions.
use Rattle.std.proofs.Common.{◌≡◌, ◌≤◌, ◌&&◌, true, List, [], sym, ap, ◌∙◌}
use Rattle.std.specs.Prelude.{nat_le}
use Rattle.std.proofs.lemmas.Bool.{le-leb, and_from}
use Rattle.svc_values.specs.declared.entry.Entry.{Entry}
use Rattle.svc_values.specs.declared.entry.Write.{Write}
use Rattle.svc_values.specs.meaning.Fitting.{writes_fit}
use Rattle.ltxid_book.specs.meaning.Sessions.{Sessions, may_commit as may_note}
use Rattle.commit_log.specs.declared.journal.Journal.{Journal}
use Rattle.commit_log.specs.meaning.Bases.{schemas_of}
use Rattle.commit_log.specs.meaning.Rules.{sessions_of, may_commit}

-- a commit that writes no row
pub may_come_next : (sessions : Sessions) (journal : Journal) (entry : Entry) → sessions ≡ sessions_of journal → entry.ltxid.incarnation ≤ journal.incarnation → entry.writes ≡ [] → may_note sessions entry.ltxid ≡ true
    → may_commit journal entry ≡ true
unfolding may_commit
may_come_next sessions journal entry says before plain may =
    and_from (nat_le entry.ltxid.incarnation journal.incarnation) (may_note (sessions_of journal) entry.ltxid && writes_fit (schemas_of journal.base) entry.writes)
    (le-leb entry.ltxid.incarnation journal.incarnation before)
    (and_from (may_note (sessions_of journal) entry.ltxid) (writes_fit (schemas_of journal.base) entry.writes) (ap (λ (s : Sessions). may_note s entry.ltxid) (sym says) ∙ may) (ap (λ (writes : List Write). writes_fit (schemas_of journal.base) writes) plain))
