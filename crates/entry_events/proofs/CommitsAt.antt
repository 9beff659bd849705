-- Commits one after the other: how often each session committed is all that is asked of those
-- before.
use Rattle.std.proofs.Common.{◌≡◌, ℕ, ◌+◌, List, [], ◌∷◌, ◌++◌, Bool, not, ◌&&◌, append_assoc, refl, sym, ap, ◌∙◌, arith}
use Rattle.std.specs.Prelude.{cond}
use Rattle.std.specs.List.{list_any}
use Rattle.std.proofs.lemmas.List.Sums.{sum_by-append}
use Rattle.svc_values.specs.declared.call.Call.{Call}
use Rattle.svc_values.specs.declared.entry.Entry.{Entry}
use Rattle.svc_values.specs.declared.entry.SessionId.{SessionId}
use Rattle.svc_values.specs.meaning.Calls.{has_commit}
use Rattle.svc_values.specs.meaning.Identifiers.{same_ltxid, same_session, ltxid_of}
use Rattle.outage_schedule.specs.declared.item.Item.{Item}
use Rattle.outage_schedule.specs.declared.item.Item.TheVariants as item
use Rattle.run_clauses.specs.meaning.Moments.{HappenedAt, Happened, ServedItem, RanOutside, Asked}
use Rattle.run_clauses.specs.meaning.EntryEvents.{Commit, commits_by, StoredEntry, has_crashed_commit, commit_if, item_commits, commits_at, commits_from, stored_at}
use Rattle.entry_events.specs.Commits.{is_commit}

-- each session committed as often in the one list as in the other
abbrev pub CountAlike : List Commit → List Commit → Type 0
CountAlike a b = (session : SessionId) → commits_by session a ≡ commits_by session b

by-append : (session : SessionId) (a b : List Commit) → commits_by session (a ++ b) ≡ commits_by session a + commits_by session b
by-append session a b = sum_by-append (λ (commit : Commit). cond (same_session commit.session session) 1 0) a b

crashed_same : (entries : List Entry) (a b : List Commit) → CountAlike a b → (session : SessionId) (replay : Bool) (call : Call) → has_crashed_commit entries a session replay call ≡ has_crashed_commit entries b session replay call
crashed_same entries a b alike session replay call =
    ap (λ (n : ℕ). not replay && (has_commit call && list_any (λ (entry : Entry). same_ltxid entry.ltxid (ltxid_of session n)) entries)) (alike session)

item_same : (entries : List Entry) (a b : List Commit) → CountAlike a b → (event : ℕ) (session : SessionId) (one : Item) → item_commits entries a event session one ≡ item_commits entries b event session one
item_same entries a b alike event session (item.CrashedCall replay call) = ap (λ committed. commit_if committed session event) (crashed_same entries a b alike session replay call)
item_same entries a b alike event session (item.Call replay call answers draws) = refl
item_same entries a b alike event session _ = refl

at_same : (entries : List Entry) (a b : List Commit) → CountAlike a b → (event : ℕ) (happened : Happened) → commits_at entries a event happened ≡ commits_at entries b event happened
at_same entries a b alike event (ServedItem session one) = item_same entries a b alike event session one
at_same entries a b alike event (RanOutside ran) = refl
at_same entries a b alike event (Asked x told) = refl

alike_behind : (here a b : List Commit) → CountAlike a b → CountAlike (here ++ a) (here ++ b)
alike_behind here a b alike = λ session. by-append session here a ∙ ap (λ n. commits_by session here + n) (alike session) ∙ sym (by-append session here b)

from_same : (entries : List Entry) (moments : List HappenedAt) (a b : List Commit) → CountAlike a b → commits_from entries a moments ≡ commits_from entries b moments
from_same entries [] a b alike = refl
from_same entries (moment ∷ moments) a b alike =
    let here = commits_at entries b moment.event moment.happened in
    ap (λ h. h ++ commits_from entries (h ++ a) moments) (at_same entries a b alike moment.event moment.happened)
    ∙ ap (λ rest. here ++ rest) (from_same entries moments (here ++ a) (here ++ b) (alike_behind here a b alike))

alike_turned : (a b : List Commit) → CountAlike (a ++ b) (b ++ a)
alike_turned a b = λ session. let one = by-append session a b in let other = by-append session b a in omega (arith, one, other)

-- one moment more
pub commits_on : (entries : List Entry) (found : List Commit) (moment : HappenedAt) (moments : List HappenedAt)
    → (found ++ commits_at entries found moment.event moment.happened) ++ commits_from entries (found ++ commits_at entries found moment.event moment.happened) moments
    ≡ found ++ commits_from entries found (moment ∷ moments)
commits_on entries found moment moments =
    let here = commits_at entries found moment.event moment.happened in
    append_assoc found here (commits_from entries (found ++ here) moments)
    ∙ ap (λ rest. found ++ (here ++ rest)) (from_same entries moments (found ++ here) (here ++ found) (alike_turned found here))

-- what an item commits, by whether it is a commit
pub commits_if : (entries : List Entry) (before : List Commit) (event : ℕ) (session : SessionId) (one : Item) → item_commits entries before event session one ≡ commit_if (is_commit entries before session one) session event
commits_if entries before event session (item.CrashedCall replay call) = refl
commits_if entries before event session (item.Call replay call answers draws) = refl
commits_if entries before event session _ = refl

-- one entry more, with its commit
pub stored_more : (front new : List StoredEntry) (entry : Entry) (commit : Commit) (entries more : List Entry) (commits rest : List Commit) → entries ≡ entry ∷ more → commits ≡ commit ∷ rest
    → new ≡ front ++ record { ltxid = entry.ltxid; event = commit.event } ∷ [] → new ++ stored_at more rest ≡ front ++ stored_at entries commits
stored_more front new entry commit entries more commits rest first second is =
    ap (λ l. l ++ stored_at more rest) is
    ∙ (append_assoc front (record { ltxid = entry.ltxid; event = commit.event } ∷ []) (stored_at more rest)
    ∙ sym (ap (λ (l : List Entry). front ++ stored_at l commits) first ∙ ap (λ (l : List Commit). front ++ stored_at (entry ∷ more) l) second))
