-- What the outcome of an identifier is, by the journal.
use Rattle.std.specs.Prelude.{ℕ, ◌==◌, Bool, true, false, List, Option, Some, None, option_map, find}
use Rattle.svc_values.specs.declared.entry.Ltxid.{Ltxid}
use Rattle.svc_values.specs.declared.entry.Entry.{Entry}
use Rattle.svc_values.specs.meaning.Identifiers.{same_ltxid}
use Rattle.ltxid_book.specs.declared.State.{State}
use Rattle.ltxid_book.specs.declared.verdict.Verdict.{Verdict}
use Rattle.ltxid_book.specs.declared.verdict.Verdict.TheVariants as verdict
use Rattle.ltxid_book.specs.meaning.Sessions.{known_from}
use Rattle.ltxid_book.specs.meaning.Outcomes.{verdict_of}
use Rattle.outage_schedule.specs.declared.note.AskResult.{AskResult}
use Rattle.outage_schedule.specs.declared.note.AskResult.TheVariants as told
use Rattle.svc_values.specs.meaning.Same.{same_bool}

-- the entry with this identifier, and whether it is completed
abbrev pub entry_of : List Entry → Ltxid → Option Entry
entry_of entries x = find (λ entry. same_ltxid entry.ltxid x) entries

abbrev pub completed_of : List Entry → Ltxid → Option Bool
completed_of entries x = option_map (λ entry. entry.completed) (entry_of entries x)

-- a session with so many commits, of whose last one and whose blocks nothing is said
abbrev pub has_committed : ℕ → State
has_committed next = record { next = next; blocked = false; completed = false }

-- What a verdict tells of an identifier, where this is known of its entry. (Whether it was blocked
-- before makes no other answer. None stands where the entry is not there.)
abbrev pub told_of : Verdict → Option Bool → Option AskResult
told_of verdict.BlockIt completed = Some told.Uncommitted
told_of verdict.AlreadyBlocked completed = Some told.Uncommitted
told_of (verdict.Committed last) completed = option_map told.Committed completed
told_of (verdict.ServerAhead next) completed = Some (told.ServerAhead next)
told_of (verdict.ClientAhead next) completed = Some (told.ClientAhead next)
told_of (verdict.Forgotten horizon) completed = Some (told.Forgotten horizon)

-- The outcome by the service's table, with the horizon, the number of the session's entries, and
-- whether the entry x is completed.
abbrev pub outcome_of : ℕ → ℕ → Option Bool → Ltxid → Option AskResult
outcome_of horizon next completed x = told_of
    (verdict_of (known_from horizon (λ incarnation session. has_committed next)) x) completed

abbrev pub same_told : AskResult → AskResult → Bool
same_told (told.Committed a) (told.Committed b) = same_bool a b
same_told told.Uncommitted told.Uncommitted = true
same_told (told.ServerAhead a) (told.ServerAhead b) = a == b
same_told (told.ClientAhead a) (told.ClientAhead b) = a == b
same_told (told.Forgotten a) (told.Forgotten b) = a == b
same_told _ _ = false

abbrev pub is_told : Option AskResult → AskResult → Bool
is_told None answer = false
is_told (Some outcome) answer = same_told outcome answer

abbrev pub is_uncommitted : AskResult → Bool
is_uncommitted told.Uncommitted = true
is_uncommitted _ = false

-- it says forgotten, with this horizon
abbrev pub says_forgotten : AskResult → ℕ → Bool
says_forgotten (told.Forgotten a) horizon = a == horizon
says_forgotten _ horizon = false

abbrev pub is_forgotten : AskResult → Bool
is_forgotten (told.Forgotten horizon) = true
is_forgotten _ = false
