-- The identifier held on a connection, and how often its session committed.
use Rattle.std.specs.Prelude.{ℕ, ◌+◌, ◌==◌, ◌&&◌, ◌||◌, Bool, true, false, not, if◌then◌else◌, nat_le, nat_lt, IsTrue, List, [], ◌∷◌, length, drop, fold, Option, None, is_some}
use Rattle.std.specs.List.{list_all, list_any, last_or}
use Rattle.std.specs.Option.{option_or, option_map_or}
use Rattle.svc_values.specs.declared.entry.Ltxid.{Ltxid}
use Rattle.svc_values.specs.declared.entry.Entry.{Entry}
use Rattle.svc_values.specs.declared.entry.SessionId.{SessionId}
use Rattle.outage_schedule.specs.declared.item.Item.{Item}
use Rattle.outage_schedule.specs.declared.item.Item.TheVariants as item
use Rattle.svc_values.specs.meaning.Identifiers.{is_of_session, session_of}
use Rattle.client_model.specs.declared.input.Input.TheVariants.{Took}
use Rattle.world_model.specs.meaning.Frames.{Reply}
use Rattle.world_model.specs.meaning.Links.{Link, told_by}
use Rattle.world_model.specs.records.Hold.{same_held}
use Rattle.world_model.specs.meaning.Serving.{is_commit}
use Rattle.world_model.specs.Traced.{Traced}
use Rattle.world_model.specs.records.Basic.{is_made}
use Rattle.world_model.specs.Sames.{same_sent}
use Rattle.run_clauses.specs.meaning.Tried.{holds}
use Rattle.run_clauses.specs.meaning.EntryEvents.{entries_of}
use Rattle.world_model.specs.Parts.{number_of, held_number, is_out, out_frame, is_commit_call, served_reps, implies}

-- before Hello is taken nothing can have committed
abbrev pub cond_held : Link → ℕ
cond_held link = if is_some link.held then 1 else 0

-- N1: h(k) ≤ n(k) ≤ h(k) + 1, and 0 before Hello was taken
abbrev pub is_near : Traced → Link → Bool
is_near t link = nat_le (held_number link) (number_of t.entries link)
    && nat_le (number_of t.entries link) (held_number link + cond_held link)

abbrev pub are_near : Traced → Bool
are_near t = list_all (is_near t) t.machine.links

abbrev pub is_stopped_call : Item → Bool
is_stopped_call (item.CrashedCall replay call) = true
is_stopped_call _ = false

-- N1b: what the machine counts is n(k), but for a commit that was stopped, which is the last item
abbrev pub last_is_stopped_commit : Link → Bool
last_is_stopped_commit link = option_map_or (λ one. is_stopped_call one.served.item
    && is_commit_call one.sent) (last_or None link.served) false

abbrev pub is_counted : Traced → Link → Bool
is_counted t link = (number_of t.entries link == link.commits)
    || ((number_of t.entries link == link.commits + 1) && last_is_stopped_commit link)

abbrev pub are_counted : Traced → Bool
are_counted t = list_all (is_counted t) t.machine.links

-- N1c: what is held is the identifier of the last reply taken that tells one: all Committed replies
-- that were taken are counted in it
abbrev pub told_in : Option Ltxid → Reply → Option Ltxid
told_in held reply = option_or (told_by (Took reply.frame true)) held

abbrev pub last_told : List Reply → Option Ltxid
last_told taken = fold told_in None taken

abbrev pub is_told : Link → Bool
is_told link = same_held (last_told link.taken) link.held

abbrev pub are_told : Traced → Bool
are_told t = list_all is_told t.machine.links

-- N2: ahead by one: the frame that is out was served and committed, or was stopped, and no other
-- commit call is left to be served
abbrev pub made_entry : Item → Bool
made_entry one = is_commit one || is_stopped_call one

abbrev pub last_served_made : Link → Bool
last_served_made link =
    option_map_or (λ one. made_entry one.served.item
    && (is_commit_call one.sent && option_map_or (same_sent one.sent) (out_frame link) false))
    (last_or None (served_reps link)) false

abbrev pub is_ahead : Traced → Link → Bool
is_ahead t link = number_of t.entries link == held_number link + 1

abbrev pub ahead_rightly : Traced → Link → Bool
ahead_rightly t link = implies (is_ahead t link)
    (is_out link && (last_served_made link && not (list_any is_commit_call link.up)))

abbrev pub are_ahead : Traced → Bool
are_ahead t = list_all (ahead_rightly t) t.machine.links

-- N2b: as many answered frames were served as were taken, or one more
abbrev pub served_near : Link → Bool
served_near link = nat_le (length link.taken) (length (served_reps link))
    && nat_le (length (served_reps link)) (length link.taken + 1)

abbrev pub are_served_near : Traced → Bool
are_served_near t = list_all served_near t.machine.links

-- N4: a block is of its session's next number
abbrev pub is_next : Traced → Ltxid → Bool
is_next t x = x.number == entries_of t.entries (session_of x)

abbrev pub blocks_next : Traced → Bool
blocks_next t = list_all (is_next t) t.blocked

-- N5: the entries of a session have the numbers 0, 1, 2 and so on
abbrev pub numbered_after : List Entry → List Entry → Bool
numbered_after before [] = true
numbered_after before (entry ∷ entries) =
    (entry.ltxid.number == entries_of before (session_of entry.ltxid))
    && numbered_after (entry ∷ before) entries

abbrev pub entries_numbered : Traced → Bool
entries_numbered t = numbered_after [] t.entries

-- N6: an entry is of an incarnation before this one, or of a session that was made; one of this run
-- is of a connection's session, or of an `outside`
abbrev pub is_session : Ltxid → SessionId → Bool
is_session x session = is_of_session session x

abbrev pub is_of_run : Traced → Entry → Bool
is_of_run t entry = list_any (λ link. option_map_or (is_session entry.ltxid) link.session false)
    t.machine.links || list_any (is_session entry.ltxid) t.outside

abbrev pub is_known : Traced → SessionId → Bool
is_known t session = nat_lt session.incarnation t.machine.server.incarnation || is_made t session

abbrev pub known_so_far : Traced → Bool
known_so_far t = list_all (λ entry. is_known t (session_of entry.ltxid)) t.entries
    && list_all (is_of_run t) (drop t.image t.entries)

-- N8: no entry has a blocked identifier
abbrev pub none_blocked : Traced → Bool
none_blocked t = list_all (λ entry. not (holds t.blocked entry.ltxid)) t.entries

pub record Number (t : Traced) : Type 0 where
  pub near : IsTrue (are_near t)
  pub counted : IsTrue (are_counted t)
  pub told : IsTrue (are_told t)
  pub served : IsTrue (are_served_near t)
  pub ahead : IsTrue (are_ahead t)
  pub blocks : IsTrue (blocks_next t)
  pub entries : IsTrue (entries_numbered t)
  pub known : IsTrue (known_so_far t)
  pub unblocked : IsTrue (none_blocked t)
