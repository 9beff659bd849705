-- When each entry was stored is told without its writes, and so is whether each request was shown
-- its script.
use Rattle.std.proofs.Common.{◌≡◌, ℕ, ◌&&◌, not, Bool, List, [], ◌∷◌, ◌++◌, map, refl, ap, ◌∙◌}
use Rattle.svc_values.specs.declared.entry.Entry.{Entry}
use Rattle.svc_values.specs.declared.entry.SessionId.{SessionId}
use Rattle.svc_values.specs.meaning.Calls.{has_commit}
use Rattle.svc_values.specs.meaning.Identifiers.{same_ltxid}
use Rattle.outage_schedule.specs.declared.item.Item.{Item}
use Rattle.outage_schedule.specs.declared.item.Item.TheVariants as item
use Rattle.outage_schedule.specs.declared.report.Report.{Report}
use Rattle.run_clauses.specs.meaning.Before.{journal_before}
use Rattle.run_clauses.specs.meaning.Copies.{has_its_reports}
use Rattle.run_clauses.specs.meaning.EntryEvents.{Commit, next_of_session, commit_if, item_commits, commits_at, commits_from, commits, StoredEntry, stored_at, stored_entries}
use Rattle.run_clauses.specs.meaning.Moments.{HappenedAt, Happened, ServedItem, RanOutside, Asked, moments}
use Rattle.shown_clauses.specs.meaning.Steps.{steps, turns}
use Rattle.shown_clauses.specs.meaning.Submissions.{submissions_by_client}
use Rattle.shown_clauses.specs.meaning.Whole.{is_told_whole}
use Rattle.report_text.specs.Laws.{shown_entry, shown_report}
use Rattle.printed_laws.specs.Laws.{WholeSeesNoWrites}
use Rattle.printed_laws.proofs.ShownEntries.{any_shown}

item_shown : (es : List Entry) (before : List Commit) (event : ℕ) (session : SessionId) (one : Item)
    → item_commits (map shown_entry es) before event session one ≡ item_commits es before event session one
item_shown es before event session item.Connect = refl
item_shown es before event session (item.Begin settings) = refl
item_shown es before event session (item.Call replay call answers draws) = refl
item_shown es before event session (item.Blocked call) = refl
item_shown es before event session (item.Outcome x result) = refl
item_shown es before event session item.End = refl
item_shown es before event session item.Close = refl
item_shown es before event session (item.Refused cause) = refl
item_shown es before event session (item.CrashedCall replay call) =
    ap (λ (b : Bool). commit_if (not replay && (has_commit call && b)) session event) (any_shown (λ entry. same_ltxid entry.ltxid (next_of_session session before)) (λ _. refl) es)
item_shown es before event session (item.CrashedOutcome x) = refl

at_shown : (es : List Entry) (before : List Commit) (event : ℕ) (happened : Happened) → commits_at (map shown_entry es) before event happened ≡ commits_at es before event happened
at_shown es before event (ServedItem session served) = item_shown es before event session served
at_shown es before event (RanOutside ran) = refl
at_shown es before event (Asked x told) = refl

commits_shown : (es : List Entry) (before : List Commit) (more : List HappenedAt) → commits_from (map shown_entry es) before more ≡ commits_from es before more
commits_shown es before [] = refl
commits_shown es before (moment ∷ more) =
    let here = commits_at es before moment.event moment.happened in
    ap (λ (first : List Commit). first ++ commits_from (map shown_entry es) (first ++ before) more) (at_shown es before moment.event moment.happened)
    ∙ ap (λ (rest : List Commit). here ++ rest) (commits_shown es (here ++ before) more)

stored_at_shown : (es : List Entry) (cs : List Commit) → stored_at (map shown_entry es) cs ≡ stored_at es cs
stored_at_shown [] cs = refl
stored_at_shown (e ∷ es) [] = refl
stored_at_shown (e ∷ es) (c ∷ cs) = ap (λ (rest : List StoredEntry). record { ltxid = e.ltxid; event = c.event } ∷ rest) (stored_at_shown es cs)

pub events_shown : (r : Report) → stored_entries (shown_report r) ≡ stored_entries r
events_shown r = stored_at_shown r.entries (commits (shown_report r)) ∙ ap (stored_at r.entries) (commits_shown r.entries [] (moments r))

pub whole_shown : WholeSeesNoWrites
whole_shown document r =
    ap (λ (stored : List StoredEntry).
    has_its_reports document r && is_told_whole (record { image = (journal_before document).entries; stored = stored; steps = steps r; turns = turns r }) (submissions_by_client document r))
    (events_shown r)
