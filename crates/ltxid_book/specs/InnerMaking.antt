-- A book under way to that of a journal: commits and blocks that are taken as they come, whatever
-- their numbers.
use Rattle.std.specs.Prelude.{◌+◌, ◌==◌, true, if◌then◌else◌}
use Rattle.svc_values.specs.declared.entry.Ltxid.{Ltxid}
use Rattle.ltxid_book.specs.meaning.Sessions.{Sessions, is_forgotten}
use Rattle.ltxid_book.specs.Sessions.{with_state}
use Rattle.ltxid_book.specs.meaning.Journal.{Committed}

-- its session has one commit more
abbrev pub counted : Sessions → Committed → Sessions
counted sessions c =
    let state = sessions.state c.ltxid.incarnation c.ltxid.session in
    if is_forgotten sessions c.ltxid.incarnation then sessions else
    with_state sessions c.ltxid (record state {
      next = state.next + 1;
      completed =
          c.completed;
    })

-- its session is blocked, if this is its next identifier
abbrev pub marked : Sessions → Ltxid → Sessions
marked sessions x =
    let state = sessions.state x.incarnation x.session in
    if is_forgotten sessions x.incarnation then sessions else
    (if x.number == state.next then with_state sessions x (record state { blocked = true }) else
    sessions)
