-- The outcome of an identifier.
use Rattle.std.specs.Prelude.{ℕ, ◌+◌, ◌==◌, ◌&&◌, not, nat_lt, if◌then◌else◌}
use Rattle.svc_values.specs.declared.entry.Ltxid.{Ltxid}
use Rattle.ltxid_book.specs.declared.State.{State}
use Rattle.ltxid_book.specs.declared.verdict.Verdict.{Verdict}
use Rattle.ltxid_book.specs.declared.verdict.Verdict.TheVariants as verdict
use Rattle.ltxid_book.specs.meaning.Sessions.{Sessions, is_forgotten}

-- the first line that holds; in the last one the number is above the next one
abbrev pub outcome_in : State → ℕ → Verdict
outcome_in state number =
    if (number == state.next) && not state.blocked then verdict.BlockIt
    else (if (number == state.next) && state.blocked then verdict.AlreadyBlocked
    else (if number + 1 == state.next then verdict.Committed state.completed
    else (if nat_lt (number + 1) state.next then verdict.ServerAhead state.next
    else verdict.ClientAhead state.next)))

-- the outcome of an identifier, where this is said of sessions: one below the horizon is forgotten,
-- whatever it was
abbrev pub verdict_of : Sessions → Ltxid → Verdict
verdict_of sessions x = if is_forgotten sessions x.incarnation then
    verdict.Forgotten sessions.horizon else outcome_in (sessions.state x.incarnation x.session)
    x.number
