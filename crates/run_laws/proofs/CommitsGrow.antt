-- The commits that a report tells of, moment by moment, and how many entries of a session they
-- stored before an event.
use Rattle.std.proofs.Common.{◌≡◌, refl, sym, ap, ◌∙◌, append_assoc, Bool, true, false, ℕ, ◌+◌, ◌&&◌, cond, List, [], ◌∷◌, ◌++◌, map, count_by, arith}
use Rattle.std.specs.Prelude.{not, nat_lt}
use Rattle.std.specs.List.{list_all}
use Rattle.std.proofs.lemmas.Bool.{and_parts, and_from, not-true}
use Rattle.std.proofs.lemmas.List.Sums.{sum_by-cons, sum_by-append}
use Rattle.svc_values.specs.declared.entry.Entry.{Entry}
use Rattle.svc_values.specs.declared.entry.SessionId.{SessionId}
use Rattle.svc_values.specs.meaning.Identifiers.{same_session, session_of, is_of_session}
use Rattle.outage_schedule.specs.declared.item.Item.{Item}
use Rattle.outage_schedule.specs.declared.item.Item.TheVariants as item
use Rattle.outage_schedule.specs.declared.note.NoteRun.{NoteRun}
use Rattle.svc_values.specs.meaning.Endings.{ends_committed}
use Rattle.run_clauses.specs.meaning.EntryEvents.{Commit, commits_by, commit_if, has_crashed_commit, item_commits, run_commits, commits_at, commits_from, StoredEntry, stored_at, stored_before, entries_of}
use Rattle.run_clauses.specs.meaning.Moments.{HappenedAt, Happened, ServedItem, RanOutside, Asked}
use Rattle.world_model.proofs.Offered.{append_all, entries_more, entries_cons}

-- MORE MOMENTS ------------------------------------------------------------------------------------

-- all commits behind these moments, those of each before those of the moments before it
abbrev pub commits_behind : List Entry → List Commit → List HappenedAt → List Commit
commits_behind entries before [] = before
commits_behind entries before (moment ∷ moments) = commits_behind entries (commits_at entries before moment.event moment.happened ++ before) moments

pub commits_more : (entries : List Entry) (before : List Commit) (moments more : List HappenedAt)
    → commits_from entries before (moments ++ more) ≡ commits_from entries before moments ++ commits_from entries (commits_behind entries before moments) more
commits_more entries before [] more = refl
commits_more entries before (moment ∷ moments) more =
    let here : List Commit = commits_at entries before moment.event moment.happened in
    ap (λ (rest : List Commit). here ++ rest) (commits_more entries (here ++ before) moments more)
    ∙ sym (append_assoc here (commits_from entries (here ++ before) moments) (commits_from entries (commits_behind entries (here ++ before) moments) more))

by_more : (session : SessionId) (commits more : List Commit) → commits_by session (commits ++ more) ≡ commits_by session commits + commits_by session more
by_more session commits more = sum_by-append (λ (one : Commit). cond (same_session one.session session) 1 0) commits more

pub behind_counts : (session : SessionId) (entries : List Entry) (before : List Commit) (moments : List HappenedAt)
    → commits_by session (commits_behind entries before moments) ≡ commits_by session (commits_from entries before moments) + commits_by session before
behind_counts session entries before [] = let same : commits_by session before ≡ 0 + commits_by session before = omega arith in same
behind_counts session entries before (moment ∷ moments) =
    let here : List Commit = commits_at entries before moment.event moment.happened in
    let later : commits_by session (commits_behind entries (here ++ before) moments) ≡ commits_by session (commits_from entries (here ++ before) moments) + commits_by session (here ++ before) = behind_counts session entries (here ++ before) moments in
    let all : commits_by session (here ++ commits_from entries (here ++ before) moments) ≡ commits_by session here + commits_by session (commits_from entries (here ++ before) moments) = by_more session here (commits_from entries (here ++ before) moments) in
    let both : commits_by session (here ++ before) ≡ commits_by session here + commits_by session before = by_more session here before in
    omega (arith, later, all, both)

-- SESSIONS ----------------------------------------------------------------------------------------

abbrev pub session_in : Entry → SessionId
session_in entry = session_of entry.ltxid

abbrev pub session_at : Commit → SessionId
session_at commit = commit.session

-- the entries are of the sessions of these commits, one each
abbrev pub AreOf : List Entry → List Commit → Type 0
AreOf entries commits = map session_in entries ≡ map session_at commits

abbrev count_in : SessionId → List SessionId → ℕ
count_in session sessions = count_by (λ one. same_session one session) sessions

entries_counted : (session : SessionId) (entries : List Entry) → entries_of entries session ≡ count_in session (map session_in entries)
entries_counted session [] = refl
entries_counted session (entry ∷ entries) =
    entries_cons entry entries session
    ∙ (ap (λ (n : ℕ). cond (is_of_session session entry.ltxid) 1 0 + n) (entries_counted session entries) ∙ sym (sum_by-cons (λ (one : SessionId). cond (same_session one session) 1 0) (session_in entry) (map session_in entries)))

commits_counted : (session : SessionId) (commits : List Commit) → commits_by session commits ≡ count_in session (map session_at commits)
commits_counted session [] = refl
commits_counted session (commit ∷ commits) =
    sum_by-cons (λ (one : Commit). cond (same_session one.session session) 1 0) commit commits
    ∙ (ap (λ (n : ℕ). cond (same_session commit.session session) 1 0 + n) (commits_counted session commits) ∙ sym (sum_by-cons (λ (one : SessionId). cond (same_session one session) 1 0) commit.session (map session_at commits)))

pub same_counts : (session : SessionId) (entries : List Entry) (commits : List Commit) → AreOf entries commits → entries_of entries session ≡ commits_by session commits
same_counts session entries commits are = entries_counted session entries ∙ (ap (count_in session) are ∙ sym (commits_counted session commits))

-- EVENTS ------------------------------------------------------------------------------------------

-- the commits of moments that pass a test on their events
module _ (test : ℕ → Bool) where
  abbrev of_commit : Commit → Bool
  of_commit commit = test commit.event

  abbrev of_moment : HappenedAt → Bool
  of_moment moment = test moment.event

  one_commit : (committed : Bool) (session : SessionId) (event : ℕ) → test event ≡ true → list_all of_commit (commit_if committed session event) ≡ true
  one_commit true session event is = and_from (test event) true is refl
  one_commit false session event is = refl

  item_events : (entries : List Entry) (before : List Commit) (event : ℕ) (session : SessionId) (one : Item) → test event ≡ true → list_all of_commit (item_commits entries before event session one) ≡ true
  item_events entries before event session (item.Call replay call answers draws) is = one_commit (ends_committed answers) session event is
  item_events entries before event session (item.CrashedCall replay call) is = one_commit (has_crashed_commit entries before session replay call) session event is
  item_events entries before event session one is = refl

  run_events : (session : SessionId) (event : ℕ) (runs : List NoteRun) → test event ≡ true → list_all of_commit (run_commits session event runs) ≡ true
  run_events session event [] is = refl
  run_events session event (run ∷ runs) is = append_all of_commit (commit_if (ends_committed run.answers) session event) (run_commits session event runs) (one_commit (ends_committed run.answers) session event is) (run_events session event runs is)

  moment_events : (entries : List Entry) (before : List Commit) (event : ℕ) (happened : Happened) → test event ≡ true → list_all of_commit (commits_at entries before event happened) ≡ true
  moment_events entries before event (ServedItem session served) is = item_events entries before event session served is
  moment_events entries before event (RanOutside ran) is = run_events (session_of ran.ltxid) event ran.runs is
  moment_events entries before event (Asked x told) is = refl

  pub commits_pass : (entries : List Entry) (before : List Commit) (moments : List HappenedAt) → list_all of_moment moments ≡ true → list_all of_commit (commits_from entries before moments) ≡ true
  commits_pass entries before [] all = refl
  commits_pass entries before (moment ∷ moments) all =
      let parts = and_parts (test moment.event) (list_all of_moment moments) all in
      let here : List Commit = commits_at entries before moment.event moment.happened in
      append_all of_commit here (commits_from entries (here ++ before) moments) (moment_events entries before moment.event moment.happened parts.0) (commits_pass entries (here ++ before) moments parts.1)

-- WHAT WAS STORED BEFORE AN EVENT -----------------------------------------------------------------

module _ (session : SessionId) (event : ℕ) where
  abbrev is_counted : StoredEntry → Bool
  is_counted one = is_of_session session one.ltxid && nat_lt one.event event

  abbrev counted : List StoredEntry → ℕ
  counted stored = count_by is_counted stored

  counted_cons : (one : StoredEntry) (stored : List StoredEntry) → counted (one ∷ stored) ≡ cond (is_counted one) 1 0 + counted stored
  counted_cons one stored = sum_by-cons (λ (each : StoredEntry). cond (is_counted each) 1 0) one stored

  later_none : (entries : List Entry) (commits : List Commit) → list_all (λ (commit : Commit). not (nat_lt commit.event event)) commits ≡ true → counted (stored_at entries commits) ≡ 0
  later_none [] commits later = refl
  later_none (entry ∷ entries) [] later = refl
  later_none (entry ∷ entries) (commit ∷ commits) later =
      let parts = and_parts (not (nat_lt commit.event event)) (list_all (λ (one : Commit). not (nat_lt one.event event)) commits) later in
      counted_cons (record { ltxid = entry.ltxid; event = commit.event }) (stored_at entries commits)
      ∙ by (is_of_session session entry.ltxid) (nat_lt commit.event event) (not-true (nat_lt commit.event event) parts.0) (later_none entries commits parts.1)
    where
      by : (own earlier : Bool) → earlier ≡ false → counted (stored_at entries commits) ≡ 0 → cond (own && earlier) 1 0 + counted (stored_at entries commits) ≡ 0
      by true true is none = absurd (let never : ⊥ = cc in never)
      by true false is none = let zero_is : 0 + counted (stored_at entries commits) ≡ 0 = omega (arith, none) in zero_is
      by false earlier is none = let zero_is : 0 + counted (stored_at entries commits) ≡ 0 = omega (arith, none) in zero_is

  -- the first commits are earlier, and these are their entries
  stored_counts : (entries gained : List Entry) (commits later : List Commit) → AreOf entries commits → list_all (λ (commit : Commit). nat_lt commit.event event) commits ≡ true
      → list_all (λ (commit : Commit). not (nat_lt commit.event event)) later ≡ true → counted (stored_at (entries ++ gained) (commits ++ later)) ≡ entries_of entries session
  stored_counts [] gained [] later are earlier behind = later_none gained later behind
  stored_counts [] gained (commit ∷ commits) later are earlier behind = absurd (let never : ⊥ = cc in never)
  stored_counts (entry ∷ entries) gained [] later are earlier behind = absurd (let never : ⊥ = cc in never)
  stored_counts (entry ∷ entries) gained (commit ∷ commits) later are earlier behind =
      let parts = and_parts (nat_lt commit.event event) (list_all (λ (one : Commit). nat_lt one.event event) commits) earlier in
      let rest : AreOf entries commits = cc in
      counted_cons (record { ltxid = entry.ltxid; event = commit.event }) (stored_at (entries ++ gained) (commits ++ later))
      ∙ (ap (λ (b : Bool). cond (is_of_session session entry.ltxid && b) 1 0 + counted (stored_at (entries ++ gained) (commits ++ later))) parts.0
      ∙ (by (is_of_session session entry.ltxid) (stored_counts entries gained commits later rest parts.1 behind) ∙ sym (entries_cons entry entries session)))
    where
      by : (own : Bool) → counted (stored_at (entries ++ gained) (commits ++ later)) ≡ entries_of entries session → cond (own && true) 1 0 + counted (stored_at (entries ++ gained) (commits ++ later)) ≡ cond own 1 0 + entries_of entries session
      by true same = ap (λ (n : ℕ). 1 + n) same
      by false same = ap (λ (n : ℕ). 0 + n) same

  -- The number of a session's entries that were stored before an event is that in the journal then.
  pub before_counts : (image entries gained : List Entry) (commits later : List Commit) → AreOf entries commits → list_all (λ (commit : Commit). nat_lt commit.event event) commits ≡ true
      → list_all (λ (commit : Commit). not (nat_lt commit.event event)) later ≡ true → stored_before image (stored_at (entries ++ gained) (commits ++ later)) session event ≡ entries_of (image ++ entries) session
  before_counts image entries gained commits later are earlier behind =
      ap (λ (n : ℕ). entries_of image session + n) (stored_counts entries gained commits later are earlier behind) ∙ sym (entries_more image entries session)
