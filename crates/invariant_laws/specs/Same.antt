-- The calls of an open transaction, and of an entry, are those that the client knows.
use Rattle.std.specs.Prelude.{ℕ, ◌+◌, ◌-◌, ◌==◌, ◌&&◌, ◌||◌, Bool, true, false, not, cond, nat_lt, if◌then◌else◌, IsTrue, List, [], ◌∷◌, ◌++◌, length, map, filter, fold, slice_get, take, drop, Option, None, is_some, option_and_then}
use Rattle.std.specs.List.{list_all, list_any, last_or}
use Rattle.std.specs.Option.{option_map_or}
use Rattle.svc_values.specs.declared.answer.Answer.{Answer}
use Rattle.svc_values.specs.declared.answer.Answer.TheVariants as answer
use Rattle.svc_values.specs.declared.call.Call.{Call}
use Rattle.svc_values.specs.declared.draw.Draw.{Draw}
use Rattle.svc_values.specs.declared.value.Value.{Value}
use Rattle.svc_values.specs.declared.entry.Entry.{Entry}
use Rattle.svc_values.specs.declared.entry.Piece.{Piece}
use Rattle.svc_values.specs.declared.call.Call.TheVariants as call
use Rattle.svc_values.specs.meaning.SettingsList.{same_settings, put_setting, with_sets}
use Rattle.svc_values.specs.meaning.Endings.{ends_with, ends_committed, ends_transaction}
use Rattle.svc_values.specs.meaning.Identifiers.{same_ltxid}
use Rattle.svc_values.specs.meaning.Same.{same_answers, same_call, same_calls, same_draws, same_piece}
use Rattle.outage_schedule.specs.declared.document.Document.{Document}
use Rattle.outage_schedule.specs.declared.item.Item.{Item}
use Rattle.outage_schedule.specs.declared.item.Item.TheVariants as item
use Rattle.outage_schedule.specs.declared.request.ShownCall.{ShownCall}
use Rattle.server_model.specs.meaning.NewValues.{grants}
use Rattle.run_clauses.specs.meaning.ServiceBase.{service_base}
use Rattle.run_clauses.specs.meaning.Same.{is_same_request}
use Rattle.client_model.specs.meaning.Terms.{Phase, Running, Replaying}
use Rattle.world_model.specs.meaning.Frames.{Sent}
use Rattle.world_model.specs.meaning.Links.{Link, link_at}
use Rattle.world_model.specs.Traced.{Traced, Course, courses_of}
use Rattle.world_model.specs.Sames.{owned_by}
use Rattle.invariant_laws.specs.Lost.{lost_links, is_pending, submitted_on}
use Rattle.world_model.specs.Parts.{Sending, commit_sendings, served_reps, count_reps, implies}
use Rattle.world_model.specs.Words.{held_in}

-- E1: THE PIECES OF A TRANSACTION -----------------------------------------------------------------

-- a call that was served: its index and owner, its item, and its piece
pub record ServedCall : Type 0 where
  pub sent : Sent
  pub mark : Bool
  pub piece : Piece

-- What a connection's session did: its settings, and what they were at the start of its open
-- transaction; the calls of this one, in order; and the transactions that committed before, each
-- with its calls, and with the settings at its start.
pub record Ran : Type 0 where
  pub settings : List (List ℕ × Value)
  pub at_start : List (List ℕ × Value)
  pub pieces : List ServedCall
  pub over : List (List ServedCall)
  pub starts : List (List (List ℕ × Value))

abbrev pub is_no_commit : Answer → Bool
is_no_commit answer.CommitInReplay = true
is_no_commit _ = false

-- the server's transaction is over
abbrev pub ends_on_server : List Answer → Bool
ends_on_server answers = ends_transaction answers || ends_with is_no_commit answers

-- a transaction begins here
abbrev pub begins : Ran → Ran
begins ran = record ran { at_start = ran.settings; pieces = [] }

abbrev pub did_all : Ran → Bool → Bool → List ServedCall → Ran
did_all ran true ends dids = record (begins ran) {
  over = ran.over ++ dids ∷ [];
  starts =
      ran.starts ++ ran.at_start ∷ [];
}
did_all ran false true dids = begins ran
did_all ran false false dids = record ran { pieces = dids }

abbrev pub with_call : Ran → Call → Ran
with_call ran (call.Set name x) = record ran { settings = put_setting ran.settings name x }
with_call ran _ = ran

abbrev pub ran_item : Ran → Sent → Item → Ran
ran_item ran sent (item.Begin settings) = begins (record ran { settings = settings })
ran_item ran sent item.End = begins (record ran { settings = [] })
ran_item ran sent (item.Call mark call answers draws) =
    did_all (with_call ran call) (ends_committed answers) (ends_on_server answers)
    (ran.pieces ++ record {
      sent = sent;
      mark = mark;
      piece = record { call = call; answers = answers; draws = draws };
    } ∷ [])
ran_item ran sent (item.CrashedCall mark call) =
    record ran {
      over = ran.over ++ (ran.pieces ++ record {
        sent = sent;
        mark = mark;
        piece = record { call = call; answers = []; draws = [] };
      } ∷ []) ∷ [];
      starts = ran.starts ++ ran.at_start ∷ [];
    }
ran_item ran sent _ = ran

abbrev pub ran_by : Link → Ran
ran_by link = fold (λ ran one. ran_item ran one.sent one.served.item) (record {
  settings = [];
  at_start = [];
  pieces = [];
  over = [];
  starts = [];
}) link.served

-- The entry of this number of the session has the pieces of the transaction of this number. (Of a
-- stopped call only the call is known: it is the last one of its transaction, which is the last
-- one, and may have no entry.)
abbrev pub is_stopped_piece : ServedCall → Bool
is_stopped_piece did = length did.piece.answers == 0

abbrev pub is_piece_of : ServedCall → Piece → Bool
is_piece_of did piece = same_piece did.piece piece
    || (is_stopped_piece did && same_call did.piece.call piece.call)

abbrev pub are_pieces : List ServedCall → List Piece → Bool
are_pieces [] [] = true
are_pieces (did ∷ []) (piece ∷ []) = is_piece_of did piece
are_pieces (did ∷ next ∷ dids) (piece ∷ pieces) =
    same_piece did.piece piece && are_pieces (next ∷ dids) pieces
are_pieces _ _ = false

abbrev pub is_session_of : Entry → Link → Bool
is_session_of entry link = option_map_or
    (λ session. (session.incarnation == entry.ltxid.incarnation)
    && (session.session == entry.ltxid.session)) link.session false

abbrev pub link_of : Traced → Entry → Option Link
link_of t entry = last_or None (filter (is_session_of entry) t.machine.links)

abbrev pub transaction_of : Traced → Entry → Option (List ServedCall)
transaction_of t entry = option_and_then (λ link. slice_get (ran_by link).over entry.ltxid.number)
    (link_of t entry)

abbrev pub is_ran : Traced → Entry → Bool
is_ran t entry = implies (is_some (link_of t entry))
    (option_map_or (λ dids. are_pieces dids entry.pieces) (transaction_of t entry) false)

abbrev pub entries_ran : Traced → Bool
entries_ran t = list_all (is_ran t) t.entries

-- and the settings of this session at the start of this transaction
abbrev pub start_of : Traced → Entry → Option (List (List ℕ × Value))
start_of t entry = option_and_then (λ link. slice_get (ran_by link).starts entry.ltxid.number)
    (link_of t entry)

abbrev pub is_started : Traced → Entry → Bool
is_started t entry = implies (is_some (link_of t entry))
    (option_map_or (same_settings entry.settings) (start_of t entry) false)

abbrev pub entries_started : Traced → Bool
entries_started t = list_all (is_started t) t.entries

-- E4: WHAT THE CLIENT KNOWS OF A TRANSACTION ------------------------------------------------------

-- where the transaction begins that a call at this index is of
abbrev pub behind_ends : ℕ → ℕ → List ShownCall → ℕ
behind_ends found index [] = found
behind_ends found index (shown ∷ others) =
    behind_ends (cond (ends_transaction shown.answers) (index + 1) found) (index + 1) others

abbrev pub begins_at : List ShownCall → ℕ → ℕ
begins_at shown index = behind_ends 0 0 (take index shown)

-- answers and granted draws are the shown ones
abbrev pub agrees : (Draw → Bool) → Piece → ShownCall → Bool
agrees granted piece shown = same_answers piece.answers shown.answers
    && same_draws (filter granted piece.draws) (filter granted shown.draws)

-- A call that was taken: the reply to it on this connection. (The last one may be on its way, or be
-- stopped.)
abbrev pub is_scripts : Course → ℕ → ServedCall → Bool
is_scripts course index did = owned_by course.owner did.sent
    && ((did.sent.call == index) && option_map_or (same_call did.piece.call)
    (slice_get course.request.calls index) false)

-- the calls are the script's from this index on, and those that were shown, or that were verified,
-- agree with what was shown
abbrev pub known : (Draw → Bool) → Course → ℕ → ℕ → List ServedCall → Bool
known granted course upto index [] = true
known granted course upto index (did ∷ dids) =
    is_scripts course index did
    && (implies (nat_lt index upto) (is_stopped_piece did
    || option_map_or (agrees granted did.piece) (slice_get course.report.calls index) false)
    && known granted course upto (index + 1) dids)

abbrev pub first_call : List ServedCall → ℕ → ℕ
first_call [] other = other
first_call (did ∷ dids) other = did.sent.call

-- its calls are the script's, in a row, from this index on
abbrev pub scripts_from : Course → ℕ → List ServedCall → Bool
scripts_from course index [] = true
scripts_from course index (did ∷ dids) =
    is_scripts course index did && scripts_from course (index + 1) dids

-- a transaction with a call of the request has all its calls from the script, in a row from the
-- first one
abbrev pub has_script_calls : Course → List ServedCall → Bool
has_script_calls course dids = implies (list_any (λ did. owned_by course.owner did.sent) dids)
    (scripts_from course (first_call dids 0) dids)

abbrev pub runs_script_calls : Course → Link → Bool
runs_script_calls course link = list_all (has_script_calls course) (ran_by link).over
    && has_script_calls course (ran_by link).pieces

-- the calls that are known: shown, or verified on the replay that is in course
abbrev pub known_upto : Phase → ℕ → ℕ
known_upto (Replaying state) shown = (state.track.call - length state.track.recorder.calls)
    + state.verified
known_upto _ shown = shown

-- The session has begun the request: before that its open transaction is that of the request
-- before, if one had the connection.
abbrev pub is_begin : Item → Bool
is_begin (item.Begin settings) = true
is_begin _ = false

abbrev pub has_begun : Course → Link → Bool
has_begun course link = list_any (λ one. owned_by course.owner one.sent && is_begin one.served.item)
    link.served

-- its open transaction is known
abbrev pub open_known : (Draw → Bool) → Course → ℕ → Link → Bool
open_known granted course upto link = known granted course upto (first_call (ran_by link).pieces 0)
    (ran_by link).pieces

-- the answered frame that was sent last was served
abbrev pub is_answered_last : Link → Bool
is_answered_last link = length (served_reps link) == count_reps link.sent

-- It begins where the transaction of the call `next` begins; where it has no call, and `next` was
-- not served, that call begins one.
abbrev pub begins_rightly : Course → ℕ → Link → Bool
begins_rightly course next link =
    if length (ran_by link).pieces == 0 then is_answered_last link
    || (next == begins_at course.report.calls next)
    else first_call (ran_by link).pieces 0 == begins_at course.report.calls next

-- with the settings of the request, changed by each `set` before the transaction
abbrev pub has_settings : Course → ℕ → Link → Bool
has_settings course next link = is_answered_last link
    || same_settings (ran_by link).at_start
    (with_sets course.request.settings (take (begins_at course.report.calls next)
    course.request.calls))

abbrev pub is_repeating : Phase → Bool
is_repeating (Replaying state) = true
is_repeating _ = false

abbrev pub is_running : Phase → Bool
is_running (Running state) = true
is_running _ = false

-- on the connection that the request has
abbrev pub is_current_known : (Draw → Bool) → Course → Link → Bool
is_current_known granted course link =
    implies (has_begun course link)
    (open_known granted course (known_upto course.phase (length course.report.calls)) link
    && (implies (is_running course.phase) (begins_rightly course (length course.report.calls) link
    && has_settings course (length course.report.calls) link)
    && implies (is_repeating course.phase && not (is_answered_last link))
    (begins_rightly course (known_upto course.phase 0) link)))

-- on one that was lost and is pending, where a call was sent on it without the mark: an orphan may
-- still commit it
abbrev pub is_pending_known : (Draw → Bool) → Course → Link → Bool
is_pending_known granted course link =
    implies (is_pending course link && (submitted_on course link && has_begun course link))
    (open_known granted course (length course.report.calls) link
    && (begins_rightly course (length course.report.calls) link
    && has_settings course (length course.report.calls) link))

abbrev pub test_at : Traced → (Link → Bool) → ℕ → Bool
test_at t test number = option_map_or test (link_at t.machine.links number) false

abbrev pub is_open_known : (Draw → Bool) → Traced → Course → Bool
is_open_known granted t course =
    option_map_or (test_at t (is_current_known granted course)) course.connection true
    && list_all (test_at t (is_pending_known granted course)) (lost_links course)

abbrev pub opens_known : (Draw → Bool) → Traced → Bool
opens_known granted t = list_all (is_open_known granted t) (courses_of t)

-- each transaction that was run on a connection that the request held: those that are over, and the
-- open one
abbrev pub run_script_calls : Traced → Bool
run_script_calls t = list_all (λ course. list_all (test_at t (runs_script_calls course))
    (held_in course.steps)) (courses_of t)

-- E2: THE ENTRY OF A SENDING ----------------------------------------------------------------------

abbrev pub calls_of : Entry → List Call
calls_of entry = map (λ piece. piece.call) entry.pieces

-- The entry has the calls of the script that end with the one that was sent, and the request's
-- settings, changed by each `set` before the first of them.
abbrev pub ends_with_sent : Course → Sending → Entry → Bool
ends_with_sent course sending entry =
    same_calls (calls_of entry) (drop ((sending.at + 1) - length entry.pieces)
    (take (sending.at + 1) course.request.calls))
    && same_settings entry.settings (with_sets course.request.settings
    (take ((sending.at + 1) - length entry.pieces) course.request.calls))

-- so has each that has the identifier of a sending to which no reply was taken
abbrev pub is_open_stored : Traced → Course → Sending → Bool
is_open_stored t course sending = is_some sending.taken
    || list_all (λ entry. not (same_ltxid entry.ltxid sending.ltxid)
    || ends_with_sent course sending entry) t.entries

abbrev pub open_entries_known : Traced → Bool
open_entries_known t = list_all (λ course. list_all (is_open_stored t course)
    (commit_sendings course)) (courses_of t)

-- one that was answered Committed has such an entry
abbrev pub has_script_entry : List Entry → Course → Sending → Bool
has_script_entry entries course sending =
    list_any (λ entry. same_ltxid sending.ltxid entry.ltxid && ends_with_sent course sending entry)
    entries

abbrev pub is_committed_stored : List Entry → Course → Sending → Bool
is_committed_stored entries course sending =
    implies (option_map_or ends_committed sending.taken false)
    (has_script_entry entries course sending)

abbrev pub committed_entries_known : Traced → Bool
committed_entries_known t = list_all (λ course. list_all (is_committed_stored t.entries course)
    (commit_sendings course)) (courses_of t)

-- each entry of one that is open or was answered Committed has these calls
abbrev pub follows_script : Traced → Course → Sending → Bool
follows_script t course sending =
    not (option_map_or ends_committed sending.taken true)
    || list_all (λ entry. not (same_ltxid entry.ltxid sending.ltxid)
    || ends_with_sent course sending entry) t.entries

abbrev pub entries_follow_scripts : Traced → Bool
entries_follow_scripts t = list_all (λ course. list_all (follows_script t course)
    (commit_sendings course)) (courses_of t)

abbrev pub agree_from : (Draw → Bool) → List Piece → List ShownCall → Bool
agree_from granted [] shown = true
agree_from granted pieces [] = true
agree_from granted (piece ∷ pieces) (shown ∷ others) =
    agrees granted piece shown && agree_from granted pieces others

-- the entry has the calls of the transaction up to the one that was sent, with the settings before
-- its first call
abbrev pub is_entry_of : (Draw → Bool) → Course → Sending → Entry → Bool
is_entry_of granted course sending entry =
    let from : ℕ = begins_at course.report.calls sending.at in
    same_calls (calls_of entry) (drop from (take (sending.at + 1) course.request.calls))
    && (same_settings entry.settings (with_sets course.request.settings
    (take from course.request.calls))
    && agree_from granted entry.pieces (drop from course.report.calls))

abbrev pub is_same_sending : (Draw → Bool) → Traced → Course → Sending → Bool
is_same_sending granted t course sending =
    option_map_or ends_committed sending.taken true
    && list_all (λ entry. not (same_ltxid entry.ltxid sending.ltxid)
    || is_entry_of granted course sending entry) t.entries
    || not (option_map_or ends_committed sending.taken true)

abbrev pub entries_same : (Draw → Bool) → Traced → Bool
entries_same granted t = list_all (λ course. list_all (is_same_sending granted t course)
    (commit_sendings course)) (courses_of t)

-- what follows: the lines of Same for each request that is over, with the journal so far
abbrev pub over_same : (Draw → Bool) → Traced → Bool
over_same granted t = list_all (λ course. implies course.is_over
    (is_same_request granted t.entries course.request course.report)) (courses_of t)

abbrev pub granted_by : Document → Draw → Bool
granted_by document = grants (service_base document)

-- These stand beside the invariant, which has of entries that their sessions ran them.
pub record Same (granted : Draw → Bool) (t : Traced) : Type 0 where
  pub opens : IsTrue (opens_known granted t)
  pub entries : IsTrue (entries_same granted t)
  pub over : IsTrue (over_same granted t)
