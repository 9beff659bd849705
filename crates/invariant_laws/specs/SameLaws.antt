-- What a run's connections served is what the service's history has of their sessions, and what
-- they ran is what the entries have.
use Rattle.std.specs.Prelude.{◌≡◌, ℕ, ◌+◌, Bool, IsTrue, List, take, drop, Some}
use Rattle.svc_values.specs.declared.entry.SessionId.{SessionId}
use Rattle.svc_values.specs.meaning.SettingsList.{with_sets}
use Rattle.outage_schedule.specs.declared.document.Document.{Document}
use Rattle.outage_schedule.specs.declared.document.Request.{Request}
use Rattle.outage_schedule.specs.declared.event.Event.{Event}
use Rattle.outage_schedule.specs.declared.item.Served.{Served}
use Rattle.outage_schedule.specs.declared.note.Note.{Note}
use Rattle.outage_schedule.specs.declared.report.Report.{Report}
use Rattle.run_clauses.specs.meaning.NoClash.{no_clash}
use Rattle.run_clauses.specs.meaning.Same.{same}
use Rattle.server_model.specs.Runs.{Server}
use Rattle.server_model.specs.Seen.{Seen}
use Rattle.invariant_laws.specs.Begins.{settings_before}
use Rattle.svc_values.specs.declared.draw.Draw.{Draw}
use Rattle.invariant_laws.specs.EntryParts.{drew_so, ends_answered, goes_on, inside_answered, of_entries, starts_one}
use Rattle.invariant_laws.specs.Invariant.{Invariant}
use Rattle.world_model.specs.meaning.Links.{Link, link_at}
use Rattle.world_model.specs.Reached.{IsRun, Reached}
use Rattle.world_model.specs.records.Ready.{all_requests_right}
use Rattle.invariant_laws.specs.Same.{committed_entries_known, entries_follow_scripts, entries_ran, entries_started, granted_by, over_same}
use Rattle.world_model.specs.Reported.{IsReported}
use Rattle.invariant_laws.specs.Same.{committed_entries_known, entries_follow_scripts, entries_ran, entries_same, granted_by, over_same}
use Rattle.invariant_laws.specs.SessionHistory.{served_in, served_on}
use Rattle.world_model.specs.Traced.{Traced}
use Rattle.invariant_laws.specs.Verified.{answers_known, are_verified, commits_ran, insides_known, none_clash}

-- Wherever a run has come to, what the history has of a connection's session is what the connection
-- served.
abbrev pub RunsServe : Type 0
RunsServe =
    (document : Document) (events : List Event) (notes : List Note) (items : List Served)
    (seen : Seen) (t : Traced)
    → IsTrue (all_requests_right document) → Reached document events notes items seen t
    → (number : ℕ) (link : Link) (session : SessionId) → link_at t.machine.links number ≡ Some link
    → link.session ≡ Some session → served_in seen.history session ≡ served_on link

-- Wherever it has come to, the entry of a number of a connection's session has the pieces of the
-- transaction of this number that the connection ran.
abbrev pub RunsRan : Type 0
RunsRan =
    (document : Document) (events : List Event) (notes : List Note) (items : List Served)
    (seen : Seen) (t : Traced)
    → IsTrue (all_requests_right document) → Reached document events notes items seen t
    → IsTrue (entries_ran t)

-- a test of each state that a run comes to
abbrev pub HoldsInRuns : (Traced → Bool) → Type 0
HoldsInRuns test =
    (document : Document) (events : List Event) (notes : List Note) (items : List Served)
    (seen : Seen) (t : Traced)
    → IsTrue (all_requests_right document) → Reached document events notes items seen t
    → IsTrue (test t)

-- and of the state at the end of a whole run
abbrev pub HoldsAtEnds : (Traced → Bool) → Type 0
HoldsAtEnds test =
    (document : Document) (notes : List Note) (items : List Served) (seen : Seen) (t : Traced)
    → IsTrue (all_requests_right document) → IsRun document notes items seen t → IsTrue (test t)

-- and the settings of the session at the start of this transaction.
abbrev pub RunsStarted : Type 0
RunsStarted =
    (document : Document) (events : List Event) (notes : List Note) (items : List Served)
    (seen : Seen) (t : Traced)
    → IsTrue (all_requests_right document) → Reached document events notes items seen t
    → IsTrue (entries_started t)

-- The settings before a transaction, changed by each `set` of so many calls from there on, are
-- those behind these calls.
abbrev pub SettingsGoOn : Type 0
SettingsGoOn = (request : Request) (first more : ℕ)
    → with_sets (settings_before request first) (take more (drop first request.calls))
    ≡ settings_before request (first + more)

-- a test of each state that is as the invariant says
abbrev pub FollowsInvariant : (Traced → Bool) → Type 0
FollowsInvariant test = (t : Traced) → Invariant t → IsTrue (test t)

-- Wherever a run has come to, a sending that was answered Committed has an entry with the calls of
-- its script that end with the one that was sent, and the settings before the first of them.
abbrev pub RunsStoreScripts : Type 0
RunsStoreScripts =
    (document : Document) (events : List Event) (notes : List Note) (items : List Served)
    (seen : Seen) (t : Traced)
    → IsTrue (all_requests_right document) → Reached document events notes items seen t
    → IsTrue (committed_entries_known t)

-- and at the end of a whole run
abbrev pub WholeRunsStoreScripts : Type 0
WholeRunsStoreScripts =
    (document : Document) (notes : List Note) (items : List Served) (seen : Seen) (t : Traced)
    → IsTrue (all_requests_right document) → IsRun document notes items seen t
    → IsTrue (committed_entries_known t)

-- Wherever a run has come to, each entry of a sending that is open or was answered Committed has
-- the calls of the script that end with the one that was sent, and the settings before the first of
-- them.
abbrev pub RunsFollowScripts : Type 0
RunsFollowScripts =
    (document : Document) (events : List Event) (notes : List Note) (items : List Served)
    (seen : Seen) (t : Traced)
    → IsTrue (all_requests_right document) → Reached document events notes items seen t
    → IsTrue (entries_follow_scripts t)

-- and at the end of a whole run
abbrev pub WholeRunsFollowScripts : Type 0
WholeRunsFollowScripts =
    (document : Document) (notes : List Note) (items : List Served) (seen : Seen) (t : Traced)
    → IsTrue (all_requests_right document) → IsRun document notes items seen t
    → IsTrue (entries_follow_scripts t)

-- Wherever a run has come to, each call of a request that its connection served, and behind which
-- it sent a further one, was shown with what was answered; where it was repeated, the digest of
-- what was answered is that of what was shown.
abbrev pub RunsVerify : Type 0
RunsVerify =
    (document : Document) (events : List Event) (notes : List Note) (items : List Served)
    (seen : Seen) (t : Traced)
    → IsTrue (all_requests_right document) → Reached document events notes items seen t
    → IsTrue (are_verified t)

-- and at the end of a whole run
abbrev pub WholeRunsVerify : Type 0
WholeRunsVerify =
    (document : Document) (notes : List Note) (items : List Served) (seen : Seen) (t : Traced)
    → IsTrue (all_requests_right document) → IsRun document notes items seen t
    → IsTrue (are_verified t)

-- Where no two answers that are compared have one digest by chance, the answers are those that were
-- shown.
abbrev pub RunsKnowAnswers : Type 0
RunsKnowAnswers =
    (document : Document) (events : List Event) (notes : List Note) (items : List Served)
    (seen : Seen) (t : Traced)
    → IsTrue (all_requests_right document) → Reached document events notes items seen t
    → IsTrue (none_clash t) → IsTrue (answers_known t)

-- and at the end of a whole run
abbrev pub WholeRunsKnowAnswers : Type 0
WholeRunsKnowAnswers =
    (document : Document) (notes : List Note) (items : List Served) (seen : Seen) (t : Traced)
    → IsTrue (all_requests_right document) → IsRun document notes items seen t
    → IsTrue (none_clash t) → IsTrue (answers_known t)

-- Then each call inside a transaction that such a run's connections ran for a request was answered
-- as it was shown, and ended none.
abbrev pub RunsKnowInsides : Type 0
RunsKnowInsides =
    (document : Document) (events : List Event) (notes : List Note) (items : List Served)
    (seen : Seen) (t : Traced)
    → IsTrue (all_requests_right document) → Reached document events notes items seen t
    → IsTrue (none_clash t) → IsTrue (insides_known t)

-- and at the end of a whole run
abbrev pub WholeRunsKnowInsides : Type 0
WholeRunsKnowInsides =
    (document : Document) (notes : List Note) (items : List Served) (seen : Seen) (t : Traced)
    → IsTrue (all_requests_right document) → IsRun document notes items seen t
    → IsTrue (none_clash t) → IsTrue (insides_known t)

-- Where no two answers that the clients of a report compared have one digest by chance, none do in
-- the state at the end of its run.
abbrev pub ReportsClashNowhere : Type 0
ReportsClashNowhere =
    (document : Document) (report : Report) (seen : Seen) (t : Traced) (server : Server)
    → IsTrue (all_requests_right document) → IsReported document report seen t server
    → IsTrue (no_clash document report) → IsTrue (none_clash t)

-- Where each request that is over stands in the journal at the end of a run as its client knows it,
-- it does in the report.
abbrev pub ReportsAreSame : Type 0
ReportsAreSame =
    (document : Document) (report : Report) (seen : Seen) (t : Traced) (server : Server)
    → IsReported document report seen t server → IsTrue (over_same (granted_by document) t)
    → IsTrue (same document report)

-- Wherever a run has come to, a sending that was answered Committed was run as the last call of the
-- transaction of its number on its connection.
abbrev pub RunsRanLast : Type 0
RunsRanLast =
    (document : Document) (events : List Event) (notes : List Note) (items : List Served)
    (seen : Seen) (t : Traced)
    → IsTrue (all_requests_right document) → Reached document events notes items seen t
    → IsTrue (commits_ran t)

-- and at the end of a whole run
abbrev pub WholeRunsRanLast : Type 0
WholeRunsRanLast =
    (document : Document) (notes : List Note) (items : List Served) (seen : Seen) (t : Traced)
    → IsTrue (all_requests_right document) → IsRun document notes items seen t
    → IsTrue (commits_ran t)

-- In a state that is as the invariant says: where each entry of a sending that is open or was
-- answered Committed has the calls, answers, granted draws and settings that its request knows, so
-- has each transaction of a request that is over.
abbrev pub EntriesMakeSame : Type 0
EntriesMakeSame = (granted : Draw → Bool) (t : Traced) → Invariant t
    → IsTrue (entries_same granted t) → IsTrue (over_same granted t)

-- So the report of a whole run has Same, where at the run's end each such entry has this.
abbrev pub EntriesMakeReportsSame : Type 0
EntriesMakeReportsSame =
    (document : Document) (report : Report) (seen : Seen) (t : Traced) (server : Server)
    → IsTrue (all_requests_right document) → IsReported document report seen t server
    → IsTrue (entries_same (granted_by document) t) → IsTrue (same document report)

-- Each entry of a sending that is open or was answered Committed is as its request knows, where
-- each of its parts is.
abbrev pub PartsMakeEntries : Type 0
PartsMakeEntries =
    (granted : Draw → Bool) (t : Traced) → IsTrue (entries_follow_scripts t)
    → IsTrue (of_entries starts_one t) → IsTrue (of_entries goes_on t)
    → IsTrue (of_entries inside_answered t) → IsTrue (of_entries ends_answered t)
    → IsTrue (of_entries (drew_so granted) t) → IsTrue (entries_same granted t)

-- Wherever a run has come to, where no digests clash: no call of an entry of such a sending was
-- shown as an end before the one that was sent, and each such call has the shown answers.
abbrev pub RunsEntriesGoOn : Type 0
RunsEntriesGoOn =
    (document : Document) (events : List Event) (notes : List Note) (items : List Served)
    (seen : Seen) (t : Traced)
    → IsTrue (all_requests_right document) → Reached document events notes items seen t
    → IsTrue (none_clash t) → IsTrue (of_entries goes_on t)
    × IsTrue (of_entries inside_answered t)

-- and at the end of a whole run
abbrev pub WholeRunsEntriesGoOn : Type 0
WholeRunsEntriesGoOn =
    (document : Document) (notes : List Note) (items : List Served) (seen : Seen) (t : Traced)
    → IsTrue (all_requests_right document) → IsRun document notes items seen t
    → IsTrue (none_clash t) → IsTrue (of_entries goes_on t)
    × IsTrue (of_entries inside_answered t)

-- Then each piece of such an entry drew the granted values with which its call was shown, and the
-- last one has the answers with which its call was shown, if it was.
abbrev pub RunsEntriesDraw : Type 0
RunsEntriesDraw =
    (document : Document) (events : List Event) (notes : List Note) (items : List Served)
    (seen : Seen) (t : Traced)
    → IsTrue (all_requests_right document) → Reached document events notes items seen t
    → IsTrue (none_clash t) → IsTrue (of_entries (drew_so (granted_by document)) t)
    × IsTrue (of_entries ends_answered t)

-- and at the end of a whole run
abbrev pub WholeRunsEntriesDraw : Type 0
WholeRunsEntriesDraw =
    (document : Document) (notes : List Note) (items : List Served) (seen : Seen) (t : Traced)
    → IsTrue (all_requests_right document) → IsRun document notes items seen t
    → IsTrue (none_clash t) → IsTrue (of_entries (drew_so (granted_by document)) t)
    × IsTrue (of_entries ends_answered t)

-- Then the transaction of such an entry is its request's first, or begins behind a call that was
-- shown as the end of one.
abbrev pub RunsEntriesStart : Type 0
RunsEntriesStart =
    (document : Document) (events : List Event) (notes : List Note) (items : List Served)
    (seen : Seen) (t : Traced)
    → IsTrue (all_requests_right document) → Reached document events notes items seen t
    → IsTrue (none_clash t) → IsTrue (of_entries starts_one t)

-- and at the end of a whole run
abbrev pub WholeRunsEntriesStart : Type 0
WholeRunsEntriesStart =
    (document : Document) (notes : List Note) (items : List Served) (seen : Seen) (t : Traced)
    → IsTrue (all_requests_right document) → IsRun document notes items seen t
    → IsTrue (none_clash t) → IsTrue (of_entries starts_one t)

-- So each such entry is as its request knows.
abbrev pub RunsKnowEntries : Type 0
RunsKnowEntries =
    (document : Document) (events : List Event) (notes : List Note) (items : List Served)
    (seen : Seen) (t : Traced)
    → IsTrue (all_requests_right document) → Reached document events notes items seen t
    → IsTrue (none_clash t) → IsTrue (entries_same (granted_by document) t)

-- and at the end of a whole run
abbrev pub WholeRunsKnowEntries : Type 0
WholeRunsKnowEntries =
    (document : Document) (notes : List Note) (items : List Served) (seen : Seen) (t : Traced)
    → IsTrue (all_requests_right document) → IsRun document notes items seen t
    → IsTrue (none_clash t) → IsTrue (entries_same (granted_by document) t)
