-- Commits and stored entries, as code keeps them.
use Rattle.std.specs.Prelude.{Bool, false, List, map}
use Rattle.svc_values.specs.declared.entry.SessionId.{SessionId}
use Rattle.svc_values.specs.declared.entry.Entry.{Entry}
use Rattle.svc_values.specs.meaning.Endings.{ends_committed}
use Rattle.outage_schedule.specs.declared.item.Item.{Item}
use Rattle.outage_schedule.specs.declared.item.Item.TheVariants as item
use Rattle.run_clauses.specs.meaning.EntryEvents.{Commit, StoredEntry, has_crashed_commit}
use Rattle.entry_events.specs.declared.commits.CommitAt.{CommitAt}
use Rattle.entry_events.specs.declared.stored.StoredAt.{StoredAt}

abbrev pub commit_as : CommitAt → Commit
commit_as one = record { session = one.session; event = one.event }

abbrev pub commits_as : List CommitAt → List Commit
commits_as all = map commit_as all

abbrev pub stored_as : StoredAt → StoredEntry
stored_as one = record { ltxid = one.ltxid; event = one.event }

abbrev pub all_stored : List StoredAt → List StoredEntry
all_stored all = map stored_as all

-- the item is a commit of its session
abbrev pub is_commit : List Entry → List Commit → SessionId → Item → Bool
is_commit entries before session (item.Call replay call answers draws) = ends_committed answers
is_commit entries before session (item.CrashedCall replay call) =
    has_crashed_commit entries before session replay call
is_commit entries before session _ = false
