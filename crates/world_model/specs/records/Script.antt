-- Each request is a conversation of its client, and what it sends is its script's.
use Rattle.std.specs.Prelude.{ℕ, ◌+◌, ◌==◌, ◌&&◌, Bool, true, false, cond, nat_le, IsTrue, List, [], ◌∷◌, ◌++◌, length, map, filter, slice_get, Option, Some, None, is_some, is_none}
use Rattle.std.specs.List.{list_all, list_any}
use Rattle.std.specs.Option.{option_map_or}
use Rattle.std.specs.Str.{bytes_eq}
use Rattle.std.specs.Cmp.Lexicographic.{pointwise}
use Rattle.svc_values.specs.declared.call.Call.{Call}
use Rattle.svc_values.specs.declared.frame.Up.{Up}
use Rattle.svc_values.specs.declared.frame.Up.TheVariants as up
use Rattle.request_bounds.specs.meaning.Replies.{ends_decided}
use Rattle.svc_values.specs.meaning.Same.{same_bool, same_call, same_calls, same_draws}
use Rattle.client_model.specs.declared.track.Track.{Track}
use Rattle.call_recorder.specs.declared.recorded.Recorded.{Recorded}
use Rattle.outage_schedule.specs.declared.document.Request.{Request}
use Rattle.outage_schedule.specs.declared.request.ShownCall.{ShownCall}
use Rattle.outage_schedule.specs.declared.request.RequestReport.{RequestReport}
use Rattle.run_clauses.specs.meaning.Copies.{next_of}
use Rattle.client_model.specs.meaning.Terms.{Terms, Talk, Phase, Idle, Unbegun, Queued, Seeking, Greeting, Asked, Running, Replaying}
use Rattle.client_model.specs.meaning.Talk.{wants_of}
use Rattle.client_model.specs.meaning.Conversation.{Done, Timed, done_at, talk_at}
use Rattle.client_model.specs.Conversation.{talk_after, may_come, is_gone_next}
use Rattle.client_model.specs.meaning.Account.{Account, account_of}
use Rattle.client_model.specs.Account.{count_uncommitted, set_shown}
use Rattle.client_model.specs.Laws.{track_of}
use Rattle.world_model.specs.meaning.Frames.{Owner, Sent}
use Rattle.world_model.specs.meaning.Links.{Link, link_at}
use Rattle.world_model.specs.meaning.Clients.{Step, Past, Client, reports_of, script_at}
use Rattle.world_model.specs.records.Conversing.{AllTalk, timed, inputs_of, first_talk}
use Rattle.world_model.specs.meaning.Followed.{tells_steps}
use Rattle.run_clauses.specs.meaning.Reports.{report_of}
use Rattle.world_model.specs.Traced.{Traced, Course, courses_of}
use Rattle.world_model.specs.Sames.{owned_by, same_owner, same_up}
use Rattle.world_model.specs.Words.{held_in}
use Rattle.world_model.specs.records.Ready.{are_ready}
use Rattle.world_model.specs.Parts.{Sending, sendings_of, implies, is_unmarked}

-- S0: A CONVERSATION ------------------------------------------------------------------------------

-- Each step is that of the client at its input, which may come then; and the request stands where
-- they lead. By client_model's laws that is S1 to S5: KeepsWhatIsTold, FewReplays, FailsForCause,
-- FailsAtCause, BeginsKnown, ReleasesRightly and ReplaysOnlyVerified speak of it.
abbrev pub may_all_come : Terms → Talk → Bool → List Timed → Bool
may_all_come terms talk gone_next [] = true
may_all_come terms talk gone_next (one ∷ inputs) =
    may_come gone_next (wants_of terms talk one.1) one.0
    && may_all_come terms (talk_at terms talk one)
    (is_gone_next one.0 (done_at terms talk one).act.hold) inputs

abbrev pub same_sends : List Up → List Up → Bool
same_sends = pointwise same_up

-- the acts are those (by their frames and showings: for the test)
abbrev pub is_act_of : Done → Done → Bool
is_act_of a b = same_sends a.act.send b.act.send
    && (same_bool (is_some a.act.shown) (is_some b.act.shown)
    && same_bool (is_some a.act.failed) (is_some b.act.failed))

abbrev pub acts_follow : Terms → Talk → List Step → Bool
acts_follow terms talk [] = true
acts_follow terms talk (step ∷ steps) = is_act_of (done_at terms talk (timed step)) step.done
    && acts_follow terms (talk_at terms talk (timed step)) steps

abbrev pub place_of : Phase → ℕ
place_of Idle = 0
place_of Unbegun = 1
place_of (Queued from) = 2
place_of (Seeking lost) = 3
place_of (Greeting lost) = 4
place_of (Asked asking) = 5
place_of (Running state) = 6
place_of (Replaying state) = 7

abbrev pub is_conversation : Traced → Course → Bool
is_conversation t course =
    may_all_come t.setting.terms (first_talk course.request) false (inputs_of course.steps)
    && (acts_follow t.setting.terms (first_talk course.request) course.steps
    && (place_of (talk_after t.setting.terms (first_talk course.request)
    (inputs_of course.steps)).phase == place_of course.phase))

abbrev pub are_conversations : Traced → Bool
are_conversations t = list_all (is_conversation t) (courses_of t)

-- S1 to S5: WHAT IS KEPT --------------------------------------------------------------------------

abbrev pub account : Traced → Course → Account
account t course = account_of t.setting.terms course.request.calls
    (map (λ step. step.done) course.steps)

abbrev pub same_digests : List Recorded → List Recorded → Bool
same_digests a b = pointwise (λ one other. bytes_eq one.seen.digest other.seen.digest
    && same_call one.call other.call && same_draws one.draws other.draws) a b

abbrev pub same_ticks : Option ℕ → Option ℕ → Bool
same_ticks None None = true
same_ticks (Some a) (Some b) = a == b
same_ticks _ _ = false

-- the index behind the last shown answers that end with Committed or Conflict
abbrev pub behind_decided : ℕ → ℕ → List ShownCall → ℕ
behind_decided found index [] = found
behind_decided found index (shown ∷ others) =
    behind_decided (cond (ends_decided shown.answers) (index + 1) found) (index + 1) others

abbrev pub recorded_from : List ShownCall → ℕ
recorded_from shown = behind_decided 0 0 shown

abbrev pub keeps : Traced → Course → Account → Track → Bool
keeps t course told track =
    (track.call == length told.shown)
    && (same_bool (is_some track.why) (is_some told.reason)
    && (implies (is_none track.why) (same_digests track.recorder.calls told.since_purge
    && (length track.recorder.calls + recorded_from course.report.calls == track.call))
    && ((track.replays == count_uncommitted told)
    && (nat_le track.replays t.setting.terms.limits.replays
    && (same_ticks track.first told.first
    && same_bool track.set_shown (set_shown course.request.calls told))))))

abbrev pub is_kept : Traced → Course → Bool
is_kept t course = option_map_or (keeps t course (account t course)) (track_of course.phase) true

abbrev pub are_kept : Traced → Bool
are_kept t = list_all (is_kept t) (courses_of t)

-- SCRIPTS -----------------------------------------------------------------------------------------

abbrev pub same_request : Option Request → Option Request → Bool
same_request None None = true
same_request (Some a) (Some b) = same_calls a.calls b.calls && (a.again == b.again)
same_request _ _ = false

abbrev pub now_or_next : Client → Option Request
now_or_next client = option_map_or (λ doing. Some doing.request) client.now client.next

-- the k-th request that was submitted is the one that follows the reports before it
abbrev pub past_follows : List Request → List RequestReport → List Past → Bool
past_follows script before [] = true
past_follows script before (past ∷ others) =
    same_request (Some past.request) (next_of script before)
    && past_follows script (before ++ past.report ∷ []) others

abbrev pub follows_script : Traced → ℕ → Client → Bool
follows_script t number client =
    past_follows (script_at t.setting number) [] client.past
    && same_request (now_or_next client)
    (next_of (script_at t.setting number) (reports_of client.past))

abbrev pub follow_scripts_from : Traced → ℕ → List Client → Bool
follow_scripts_from t number [] = true
follow_scripts_from t number (client ∷ clients) =
    follows_script t number client && follow_scripts_from t (number + 1) clients

abbrev pub follow_scripts : Traced → Bool
follow_scripts t = follow_scripts_from t 1 t.machine.clients

-- a request that is over has the report of its steps
abbrev pub reports_rightly : Traced → Course → Bool
reports_rightly t course =
    let told : RequestReport = report_of
    t.setting.terms course.request (map (λ step. step.done) course.steps) in
    (length told.calls == length course.report.calls)
    && (tells_steps told course.report
    && same_bool (is_some told.failed) (is_some course.report.failed))

abbrev pub report_rightly : Traced → Bool
report_rightly t = list_all (reports_rightly t) (courses_of t)

-- S8: each frame with an owner was sent by that request, on a connection that it held
abbrev pub is_held_by : List Course → ℕ → Owner → Bool
is_held_by courses number owner = list_any (λ course. same_owner course.owner owner
    && list_any (λ other. other == number) (held_in course.steps)) courses

abbrev pub owned_rightly : List Course → ℕ → List Link → Bool
owned_rightly courses number [] = true
owned_rightly courses number (link ∷ links) =
    list_all (λ sent. option_map_or (is_held_by courses number) sent.owner true) link.sent
    && owned_rightly courses (number + 1) links

abbrev pub are_owned : Traced → Bool
are_owned t = owned_rightly (courses_of t) 1 t.machine.links

abbrev pub is_call_of : Call → Up → Bool
is_call_of call (up.Call false kept other) = same_call call other
is_call_of call _ = false

-- S9: the sendings of a request on a connection are the unmarked calls that it sent there, in order
abbrev pub is_sending_of : Sent → Sending → Bool
is_sending_of sent sending = (sent.call == sending.at) && is_call_of sending.call sent.frame

abbrev pub reverse_onto : List Sending → List Sending → List Sending
reverse_onto [] done = done
reverse_onto (sending ∷ others) done = reverse_onto others (sending ∷ done)

abbrev pub sendings_on : Course → ℕ → List Sending
sendings_on course number = reverse_onto
    (filter (λ sending. sending.connection == number) (sendings_of course)) []

abbrev pub sent_on : Course → Link → List Sent
sent_on course link = filter (λ sent. owned_by course.owner sent && is_unmarked sent) link.sent

abbrev pub are_sent : Traced → Course → Bool
are_sent t course = list_all (λ number. option_map_or
    (λ link. pointwise is_sending_of (sent_on course link) (sendings_on course number))
    (link_at t.machine.links number) false) (held_in course.steps)

abbrev pub all_sent : Traced → Bool
all_sent t = list_all (are_sent t) (courses_of t)

-- S10: a marked call carries the draws that were shown of its call
abbrev pub has_shown_draws : Course → ℕ → Up → Bool
has_shown_draws course index (up.Call true kept call) =
    option_map_or (λ shown. same_draws kept shown.draws) (slice_get course.report.calls index) false
has_shown_draws course index (up.Call false kept call) = length kept == 0
has_shown_draws course index _ = true

abbrev pub carries_draws : Course → Link → Bool
carries_draws course link = list_all (λ sent. implies (owned_by course.owner sent)
    (has_shown_draws course sent.call sent.frame)) link.sent

abbrev pub carry_draws : Traced → Bool
carry_draws t = list_all (λ course. list_all (carries_draws course) t.machine.links) (courses_of t)

-- `talks` says the conversations to the letter, where the tests tell them apart by frames, showings
-- and phases.
pub record Script (t : Traced) : Type 0 where
  pub talks : AllTalk t.setting.terms t.machine.clients
  pub conversations : IsTrue (are_conversations t)
  pub kept : IsTrue (are_kept t)
  pub scripts : IsTrue (follow_scripts t)
  pub reports : IsTrue (report_rightly t)
  pub owned : IsTrue (are_owned t)
  pub sent : IsTrue (all_sent t)
  pub marks : IsTrue (carry_draws t)
  pub ready : IsTrue (are_ready t)
