-- Entries, the sendings that they are of, and values that were drawn.
use Rattle.std.specs.Prelude.{ℕ, ◌+◌, ◌==◌, ◌&&◌, ◌||◌, Bool, true, false, not, nat_lt, nat_le, if◌then◌else◌, IsTrue, List, [], ◌∷◌, ◌++◌, length, map, filter, flat_map, count_by, take, drop, slice_get, Option, Some, None, is_some, is_none}
use Rattle.std.specs.List.{list_all, list_any, last_or}
use Rattle.std.specs.Option.{option_map_or}
use Rattle.std.specs.Cmp.Lexicographic.{pointwise}
use Rattle.svc_values.specs.declared.answer.Answer.{Answer}
use Rattle.svc_values.specs.declared.call.Call.{Call}
use Rattle.svc_values.specs.declared.draw.Draw.{Draw}
use Rattle.svc_values.specs.declared.entry.Ltxid.{Ltxid}
use Rattle.svc_values.specs.declared.entry.Entry.{Entry}
use Rattle.svc_values.specs.declared.entry.Piece.{Piece}
use Rattle.svc_values.specs.meaning.Calls.{is_lone_commit}
use Rattle.svc_values.specs.meaning.Endings.{ends_committed, ends_transaction}
use Rattle.svc_values.specs.meaning.Identifiers.{same_ltxid, is_of_session}
use Rattle.outage_schedule.specs.declared.failure.Failure.{Failure}
use Rattle.outage_schedule.specs.declared.failure.Failure.TheVariants as failure
use Rattle.outage_schedule.specs.declared.item.Item.{Item}
use Rattle.outage_schedule.specs.declared.item.Item.TheVariants as item
use Rattle.outage_schedule.specs.declared.request.Outcome.{Outcome}
use Rattle.outage_schedule.specs.declared.request.ShownCall.{ShownCall}
use Rattle.outage_schedule.specs.declared.request.RequestReport.{RequestReport}
use Rattle.svc_values.specs.meaning.Same.{same_answers, same_bool, same_call}
use Rattle.client_model.specs.meaning.Tried.{Sending as Noted, Trying, trying_of}
use Rattle.run_clauses.specs.meaning.Tried.{ids_tried, ids_differ, holds}
use Rattle.run_clauses.specs.Tried.{Sending as Tried, is_tried}
use Rattle.run_clauses.specs.meaning.Once.{request_ends, copies_have_one, entries_in}
use Rattle.run_clauses.specs.meaning.Copies.{copies_of}
use Rattle.run_clauses.specs.Fresh.{is_given_again}
use Rattle.server_model.specs.meaning.Fresh.{draws_of}
use Rattle.svc_values.specs.declared.frame.Down.{Down}
use Rattle.svc_values.specs.declared.frame.Down.TheVariants as down
use Rattle.world_model.specs.meaning.Frames.{Owner, Sent, Handled}
use Rattle.world_model.specs.meaning.Links.{Link, link_at}
use Rattle.world_model.specs.meaning.Clients.{Client, script_at}
use Rattle.world_model.specs.Traced.{Traced, Course, courses_of}
use Rattle.invariant_laws.specs.Lost.{lost_links}
use Rattle.world_model.specs.Words.{dones_of, held_in}
use Rattle.world_model.specs.Sames.{each_pair, same_owners, owned_by}
use Rattle.world_model.specs.Parts.{Sending, Scan, Numbered, links_of, scan_of, sendings_of, commit_sendings, is_commit_call, has_entry, implies, is_out, out_frame, held_number}

-- all sendings of calls with a commit, of all requests
abbrev pub all_sendings : Traced → List Sending
all_sendings t = flat_map commit_sendings (courses_of t)

-- O1: AN ENTRY'S SENDING --------------------------------------------------------------------------

abbrev pub under : Ltxid → List Sending → List Sending
under x sendings = filter (λ sending. same_ltxid sending.ltxid x) sendings

abbrev pub is_open_or_committed : Sending → Bool
is_open_or_committed sending = option_map_or ends_committed sending.taken true

-- the entry is of a session of a connection
abbrev pub is_of_link : Traced → Entry → Bool
is_of_link t entry = list_any (λ link. option_map_or (λ session. is_of_session session entry.ltxid) link.session false) t.machine.links

-- Exactly one sending under the identifier of an entry has no reply that was taken, or one that
-- says Committed.
abbrev pub has_sending : Traced → Entry → Bool
has_sending t entry = count_by is_open_or_committed (under entry.ltxid (all_sendings t)) == 1

abbrev pub entries_sent : Traced → Bool
entries_sent t = list_all (λ entry. implies (is_of_link t entry) (has_sending t entry)) t.entries

-- O1a: an entry of this run is completed where the call that committed it has no statement. One of
-- the image has what its bytes say, whatever made them, and is of no connection's session
abbrev pub last_lone : List Piece → Bool
last_lone [] = false
last_lone (piece ∷ []) = is_lone_commit piece.call
last_lone (piece ∷ next ∷ pieces) = last_lone (next ∷ pieces)

abbrev pub is_completed_rightly : Entry → Bool
is_completed_rightly entry = same_bool entry.completed (last_lone entry.pieces)

abbrev pub is_foreign : Traced → Entry → Bool
is_foreign t entry = not (is_of_link t entry)

abbrev pub completed_rightly : Traced → Bool
completed_rightly t = list_all (is_foreign t) (take t.image t.entries) && list_all is_completed_rightly (drop t.image t.entries)

-- O1b: a sending's identifier is one of its connection's session
abbrev pub is_on_link : Traced → Sending → Bool
is_on_link t sending = option_map_or (λ link. option_map_or (λ session. is_of_session session sending.ltxid) link.session false) (link_at t.machine.links sending.connection) false

abbrev pub on_links : Traced → Bool
on_links t = list_all (is_on_link t) (all_sendings t)

-- O1c: a sending that was answered Committed has its entry
abbrev pub committed_stored : Traced → Bool
committed_stored t = list_all (λ sending. implies (option_map_or ends_committed sending.taken false) (has_entry t.entries sending.ltxid)) (all_sendings t)

-- O1d: what became of a sending, against its connection: its number is at most the one held, and
-- below it where it was answered Committed; where no reply was taken, it is what is out on it,
-- under the identifier held
abbrev pub is_frame_of : Sending → Sent → Bool
is_frame_of sending sent = is_commit_call sent && (owned_by sending.owner sent && (sent.call == sending.at))

-- the last reply that was taken is Blocked: the sending has none then
abbrev pub is_blocked_reply : Down → Bool
is_blocked_reply down.Blocked = true
is_blocked_reply _ = false

abbrev pub answered_blocked : Link → Bool
answered_blocked link = option_map_or (λ reply. is_blocked_reply reply.frame) (last_or None link.taken) false

abbrev pub has_fate : Sending → Link → Bool
has_fate sending link =
    nat_le sending.ltxid.number (held_number link)
    && (option_map_or (λ answers. implies (ends_committed answers) (nat_lt sending.ltxid.number (held_number link))) sending.taken true
    && implies (is_none sending.taken) ((is_out link || answered_blocked link) && (option_map_or (same_ltxid sending.ltxid) link.held false && option_map_or (is_frame_of sending) (out_frame link) false)))

abbrev pub have_fates : Traced → Bool
have_fates t = list_all (λ sending. option_map_or (has_fate sending) (link_at t.machine.links sending.connection) false) (all_sendings t)

-- O1e: a call with a commit that is out on a connection has its sending there: under the identifier
-- held, and no reply was taken to it
abbrev pub has_commit_out : Link → Bool
has_commit_out link = is_out link && option_map_or is_commit_call (out_frame link) false

abbrev pub is_waiting_on : Numbered → Sending → Bool
is_waiting_on one sending = (sending.connection == one.number) && (is_none sending.taken && option_map_or (same_ltxid sending.ltxid) one.link.held false)

abbrev pub out_waits : Traced → Numbered → Bool
out_waits t one = implies (has_commit_out one.link) (list_any (is_waiting_on one) (all_sendings t))

abbrev pub outs_wait : Traced → Bool
outs_wait t = list_all (out_waits t) (links_of t)

-- O2: of two sendings under one identifier, both are on one connection and at most one is open or
-- committed
abbrev pub share : Sending → Sending → Bool
share a b = not (same_ltxid a.ltxid b.ltxid) || ((a.connection == b.connection) && not (is_open_or_committed a && is_open_or_committed b))

abbrev pub are_apart : Traced → Bool
are_apart t = each_pair share (all_sendings t)

-- O3: TRANSACTIONS --------------------------------------------------------------------------------

-- which transaction of its request a call is of, by the calls shown before it
abbrev pub transaction_at : List ShownCall → ℕ → ℕ
transaction_at shown at = count_by (λ call. ends_transaction call.answers) (take at shown)

-- taken with other answers, or of an identifier that is blocked
abbrev pub is_settled : Traced → Sending → Bool
is_settled t sending = not (is_open_or_committed sending) || holds t.blocked sending.ltxid

-- O3a: each sending is of its script's call, on a connection that its request held
abbrev pub is_placed : List Call → List ℕ → Sending → Bool
is_placed calls held sending = option_map_or (same_call sending.call) (slice_get calls sending.at) false && list_any (λ number. number == sending.connection) held

abbrev pub are_placed : Course → Bool
are_placed course = list_all (is_placed course.request.calls (held_in course.steps)) (sendings_of course)

abbrev pub all_placed : Traced → Bool
all_placed t = list_all are_placed (courses_of t)

-- O3b: One that was answered is of a call that was shown with these answers. One that was not is of
-- the next call, and no outcome told it committed and completed; or its identifier is blocked; or
-- its call was shown as committed
abbrev pub shows_at : (List Answer → Bool) → List ShownCall → ℕ → Bool
shows_at test shown at = option_map_or (λ call. test call.answers) (slice_get shown at) false

abbrev pub tells_completed : Ltxid → Outcome → Bool
tells_completed x outcome = same_ltxid outcome.ltxid x && (outcome.committed && outcome.completed)

abbrev pub is_untold : List Ltxid → List ShownCall → List Outcome → Sending → Bool
is_untold blocked shown outcomes sending =
    ((sending.at == length shown) && not (list_any (tells_completed sending.ltxid) outcomes)) || (holds blocked sending.ltxid || shows_at ends_committed shown sending.at)

abbrev pub is_known : List Ltxid → List ShownCall → List Outcome → Sending → Bool
is_known blocked shown outcomes sending = option_map_or (λ answers. shows_at (same_answers answers) shown sending.at) sending.taken (is_untold blocked shown outcomes sending)

abbrev pub are_known : Traced → Course → Bool
are_known t course = list_all (is_known t.blocked course.report.calls course.report.outcomes) (commit_sendings course)

abbrev pub all_known : Traced → Bool
all_known t = list_all (are_known t) (courses_of t)

-- O3c: of the sendings (the last one first) of a transaction, all but the last are settled
abbrev pub later_settled : Traced → List ShownCall → ℕ → List Sending → Bool
later_settled t shown transaction [] = true
later_settled t shown transaction (sending ∷ earlier) =
    implies (transaction_at shown sending.at == transaction) (is_settled t sending) && later_settled t shown transaction earlier

abbrev pub all_but_last : Traced → List ShownCall → List Sending → Bool
all_but_last t shown [] = true
all_but_last t shown (sending ∷ earlier) = later_settled t shown (transaction_at shown sending.at) earlier && all_but_last t shown earlier

abbrev pub earlier_settled : Traced → Bool
earlier_settled t = list_all (λ course. all_but_last t course.report.calls (commit_sendings course)) (courses_of t)

-- O3d: How a request that is over ended: without an error no call of its script is left, and with
-- an error one is. With Incomplete it had sent that call, under the identifier of the error, which
-- has its entry. A sending of the next call that was not answered is on a connection that it lost
abbrev pub is_open_at : Ltxid → ℕ → Sending → Bool
is_open_at x count sending = same_ltxid sending.ltxid x && ((sending.at == count) && is_none sending.taken)

abbrev pub ends_so : List Entry → Course → Option Failure → Bool
ends_so entries course None = is_none (slice_get course.request.calls (length course.report.calls))
ends_so entries course (Some (failure.Incomplete x)) = has_entry entries x && list_any (is_open_at x (length course.report.calls)) (commit_sendings course)
ends_so entries course (Some other) = is_some (slice_get course.request.calls (length course.report.calls))

abbrev pub is_left_lost : ℕ → List ℕ → Sending → Bool
is_left_lost count lost sending = is_some sending.taken || (not (sending.at == count) || list_any (λ number. number == sending.connection) lost)

abbrev pub ends_rightly : List Entry → Course → Bool
ends_rightly entries course =
    implies course.is_over (ends_so entries course course.report.failed && list_all (is_left_lost (length course.report.calls) (lost_links course)) (commit_sendings course))

abbrev pub all_end : Traced → Bool
all_end t = list_all (ends_rightly t.entries) (courses_of t)

-- O3e: each call that was shown as committed has a sending with a commit at its place, open or
-- committed, whose entry is there
abbrev pub is_stored_at : List Entry → ℕ → Sending → Bool
is_stored_at entries at sending = (sending.at == at) && (is_open_or_committed sending && has_entry entries sending.ltxid)

abbrev pub is_shown_stored : List Entry → List Sending → ℕ → ShownCall → Bool
is_shown_stored entries sendings at shown = implies (ends_committed shown.answers) (list_any (is_stored_at entries at) sendings)

abbrev pub stored_from : List Entry → List Sending → ℕ → List ShownCall → Bool
stored_from entries sendings at [] = true
stored_from entries sendings at (shown ∷ others) = is_shown_stored entries sendings at shown && stored_from entries sendings (at + 1) others

abbrev pub shown_stored : Traced → Bool
shown_stored t = list_all (λ course. stored_from t.entries (commit_sendings course) 0 course.report.calls) (courses_of t)

-- what follows: the lines of Once for each request that is over, with the journal so far
abbrev pub over_ends : Traced → Bool
over_ends t = list_all (λ course. implies course.is_over (request_ends t.entries course.report)) (courses_of t)

-- no list of a request, over or in course, has the identifiers of two entries: by the sendings
abbrev pub transactions_have_one : Traced → Bool
transactions_have_one t = list_all (λ course. list_all (λ ids. nat_le (length (entries_in t.entries ids)) 1) course.report.tried) (courses_of t)

-- O4a: what a client notes of its sendings is what they are: each call without the mark, under the
-- identifier held on the connection, of the transaction of its place, with the answers that were
-- taken
abbrev pub same_taken : Option (List Answer) → Option (List Answer) → Bool
same_taken None None = true
same_taken (Some a) (Some b) = same_answers a b
same_taken _ _ = false

abbrev pub is_noted : List ShownCall → Noted → Sending → Bool
is_noted shown noted sending =
    same_ltxid noted.ltxid sending.ltxid
    && (same_call noted.call sending.call && (same_taken noted.reply sending.taken && (noted.transaction == transaction_at shown sending.at)))

abbrev pub agree_on : List ShownCall → Trying → Scan → Bool
agree_on shown trying scan =
    (scan.shown == length shown) && ((trying.over == transaction_at shown (length shown)) && pointwise (is_noted shown) trying.sendings scan.sendings)

abbrev pub notes_sendings : Course → Bool
notes_sendings course = agree_on course.report.calls (trying_of (dones_of course.steps)) (scan_of course)

abbrev pub note_sendings : Traced → Bool
note_sendings t = list_all notes_sendings (courses_of t)

-- O4: `tried` is that of the sendings
abbrev pub reverse_onto : List Sending → List Sending → List Sending
reverse_onto [] done = done
reverse_onto (sending ∷ others) done = reverse_onto others (sending ∷ done)

abbrev pub tried_one : Sending → Tried
tried_one sending = record { at = sending.at; call = sending.call; ltxid = sending.ltxid; taken = sending.taken }

abbrev pub tells_tried : Course → Bool
tells_tried course = is_tried course.report (map tried_one (reverse_onto (sendings_of course) []))

abbrev pub tell_tried : Traced → Bool
tell_tried t = list_all tells_tried (courses_of t)

abbrev pub tried_apart : Traced → Bool
tried_apart t = ids_differ (flat_map (λ course. ids_tried course.report) (courses_of t))

-- O6: copies of a request with `again` above 0: an entry is of the last copy, and there is at most
-- one
abbrev pub with_now : Traced → ℕ → List RequestReport
with_now t client = map (λ course. course.report) (filter (λ course. course.owner.client == client) (courses_of t))

abbrev pub copies_have : Traced → ℕ → List Client → Bool
copies_have t number [] = true
copies_have t number (client ∷ clients) = list_all (copies_have_one t.entries) (copies_of (script_at t.setting number) (with_now t number)) && copies_have t (number + 1) clients

abbrev pub copies_once : Traced → Bool
copies_once t = copies_have t 1 t.machine.clients

-- O5: VALUES --------------------------------------------------------------------------------------

-- a value that was given: to which call of which request, with the mark or not, and at which event
pub record Given : Type 0 where
  pub value : Draw
  pub owner : Option Owner
  pub call : ℕ
  pub mark : Bool
  pub event : ℕ

abbrev pub given_as : Handled → Bool → Draw → Given
given_as one mark value = record { value = value; owner = one.sent.owner; call = one.sent.call; mark = mark; event = one.served.event }

-- a call that was stopped: the values that its entry has, if it has one
abbrev pub last_draws : List Piece → List Draw
last_draws [] = []
last_draws (piece ∷ []) = piece.draws
last_draws (piece ∷ next ∷ pieces) = last_draws (next ∷ pieces)

abbrev pub stopped_draws : Traced → Option Ltxid → List Draw
stopped_draws t None = []
stopped_draws t (Some x) = option_map_or (λ entry. last_draws entry.pieces) (last_or None (filter (λ entry. same_ltxid entry.ltxid x) t.entries)) []

abbrev pub given_by : Traced → Link → Handled → Item → List Given
given_by t link one (item.Call mark call answers draws) = map (given_as one mark) draws
given_by t link one (item.CrashedCall mark call) = map (given_as one mark) (stopped_draws t link.held)
given_by t link one _ = []

abbrev pub given_on : Traced → Link → List Given
given_on t link = flat_map (λ one. given_by t link one one.served.item) link.served

abbrev pub given : Traced → List Given
given t = flat_map (given_on t) t.machine.links

-- Of two that are the same value, the later one is of a marked call, and both are of one call of
-- one request.
abbrev pub later_is_marked : Given → Given → Bool
later_is_marked a b = if nat_lt a.event b.event then b.mark else a.mark

abbrev pub have_one_owner : Given → Given → Bool
have_one_owner a b = not (is_given_again a.value b.value) || (same_owners a.owner b.owner && ((a.call == b.call) && later_is_marked a b))

abbrev pub owned : Traced → Bool
owned t = each_pair have_one_owner (given t)

-- None is one that a run from outside drew, or that such an entry has: one that the run added and
-- that is of no connection. (An entry of the image has what its bytes say, whatever made them.)
abbrev pub foreign_draws : Traced → List Draw
foreign_draws t = t.outside_draws ++ flat_map draws_of (filter (is_foreign t) (drop t.image t.entries))

abbrev pub none_foreign : Traced → Bool
none_foreign t = list_all (λ one. not (list_any (is_given_again one.value) (foreign_draws t))) (given t)

pub record Once (t : Traced) : Type 0 where
  pub entries : IsTrue (entries_sent t)
  pub completed : IsTrue (completed_rightly t)
  pub links : IsTrue (on_links t)
  pub stored : IsTrue (committed_stored t)
  pub fates : IsTrue (have_fates t)
  pub waits : IsTrue (outs_wait t)
  pub apart : IsTrue (are_apart t)
  pub placed : IsTrue (all_placed t)
  pub known : IsTrue (all_known t)
  pub settled : IsTrue (earlier_settled t)
  pub shown : IsTrue (shown_stored t)
  pub ended : IsTrue (all_end t)
  pub ends : IsTrue (over_ends t)
  pub one : IsTrue (transactions_have_one t)
  pub noted : IsTrue (note_sendings t)
  pub tried : IsTrue (tell_tried t)
  pub lists : IsTrue (tried_apart t)
  pub copies : IsTrue (copies_once t)
