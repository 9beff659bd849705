-- The event at which each entry was stored.
use Rattle.std.specs.Prelude.{ℕ, ◌+◌, ◌&&◌, Bool, not, nat_lt, nat_le, cond, List, [], ◌∷◌, ◌++◌, count_by}
use Rattle.std.specs.List.{list_any}
use Rattle.svc_values.specs.declared.call.Call.{Call}
use Rattle.svc_values.specs.declared.entry.Ltxid.{Ltxid}
use Rattle.svc_values.specs.declared.entry.Entry.{Entry}
use Rattle.svc_values.specs.meaning.Calls.{has_commit}
use Rattle.svc_values.specs.meaning.Endings.{ends_committed}
use Rattle.svc_values.specs.meaning.Identifiers.{same_ltxid, same_session, session_of, is_of_session}
use Rattle.svc_values.specs.declared.entry.SessionId.{SessionId}
use Rattle.outage_schedule.specs.declared.item.Item.{Item}
use Rattle.outage_schedule.specs.declared.item.Item.TheVariants as item
use Rattle.outage_schedule.specs.declared.note.NoteRun.{NoteRun}
use Rattle.outage_schedule.specs.declared.report.Report.{Report}
use Rattle.run_clauses.specs.meaning.Moments.{HappenedAt, Happened, ServedItem, RanOutside, Asked, moments}

-- a commit that was stored: its session, and the event
pub record Commit : Type 0 where
  pub session : SessionId
  pub event : ℕ

-- how often the session committed before
abbrev pub commits_by : SessionId → List Commit → ℕ
commits_by session before = count_by (λ commit. same_session commit.session session) before

-- the identifier that the session commits under next
abbrev pub next_of_session : SessionId → List Commit → Ltxid
next_of_session session before = record {
  incarnation = session.incarnation;
  session = session.session;
  number = commits_by session before;
}

-- A crashed call committed where it has no mark and a commit, and the entries have its session's
-- next identifier.
abbrev pub has_crashed_commit : List Entry → List Commit → SessionId → Bool → Call → Bool
has_crashed_commit entries before session replay call =
    not replay && (has_commit call && list_any (λ entry. same_ltxid entry.ltxid
    (next_of_session session before)) entries)

abbrev pub commit_if : Bool → SessionId → ℕ → List Commit
commit_if committed session event = cond committed (record {
  session = session;
  event = event;
} ∷ []) []

abbrev pub item_commits : List Entry → List Commit → ℕ → SessionId → Item → List Commit
item_commits entries before event session (item.Call replay call answers draws) =
    commit_if (ends_committed answers) session event
item_commits entries before event session (item.CrashedCall replay call) =
    commit_if (has_crashed_commit entries before session replay call) session event
item_commits entries before event session _ = []

abbrev pub run_commits : SessionId → ℕ → List NoteRun → List Commit
run_commits session event [] = []
run_commits session event (run ∷ runs) =
    commit_if (ends_committed run.answers) session event ++ run_commits session event runs

-- what was committed at this moment, after these commits
abbrev pub commits_at : List Entry → List Commit → ℕ → Happened → List Commit
commits_at entries before event (ServedItem session served) =
    item_commits entries before event session served
commits_at entries before event (RanOutside ran) = run_commits (session_of ran.ltxid) event ran.runs
commits_at entries before event (Asked x told) = []

-- the commits of these moments, in order, after those before them
abbrev pub commits_from : List Entry → List Commit → List HappenedAt → List Commit
commits_from entries before [] = []
commits_from entries before (moment ∷ moments) =
    let here = commits_at entries before moment.event moment.happened in
    here ++ commits_from entries (here ++ before) moments

-- the items that commit, in order, the crashed ones and those of `outside` included
abbrev pub commits : Report → List Commit
commits report = commits_from report.entries [] (moments report)

-- an entry's identifier, and the event at which it was stored
pub record StoredEntry : Type 0 where
  pub ltxid : Ltxid
  pub event : ℕ

-- The k-th entry is that of the k-th item that commits, and was stored at that item's event.
abbrev pub stored_at : List Entry → List Commit → List StoredEntry
stored_at [] commits = []
stored_at (entry ∷ entries) [] = []
stored_at (entry ∷ entries) (commit ∷ commits) = record {
  ltxid = entry.ltxid;
  event = commit.event;
} ∷ stored_at entries commits

abbrev pub stored_entries : Report → List StoredEntry
stored_entries report = stored_at report.entries (commits report)

-- how many entries the session has in the journal before the run
abbrev pub entries_of : List Entry → SessionId → ℕ
entries_of entries session = count_by (λ entry. is_of_session session entry.ltxid) entries

-- The number of the session's entries stored before an event: those of the image, and those of the
-- run.
abbrev pub stored_before : List Entry → List StoredEntry → SessionId → ℕ → ℕ
stored_before image stored session event =
    entries_of image session + count_by (λ one. is_of_session session one.ltxid
    && nat_lt one.event event) stored

-- The same up to an event, its own entry included.
abbrev pub stored_up_to : List Entry → List StoredEntry → SessionId → ℕ → ℕ
stored_up_to image stored session event =
    entries_of image session + count_by (λ one. is_of_session session one.ltxid
    && nat_le one.event event) stored
