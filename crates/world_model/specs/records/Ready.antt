-- What a request in course is ready for: what it says next fits the grammar of its connection.
use Rattle.std.specs.Prelude.{◌≡◌, ◌==◌, ◌&&◌, ◌||◌, Bool, true, false, not, IsTrue, List, [], ◌∷◌, length, None, is_none}
use Rattle.std.specs.List.{list_all}
use Rattle.std.specs.Option.{option_map_or}
use Rattle.svc_values.specs.declared.answer.Answer.TheVariants as answer
use Rattle.svc_values.specs.declared.call.Call.{Call}
use Rattle.svc_values.specs.declared.call.Call.TheVariants as call
use Rattle.svc_values.specs.meaning.Calls.{has_commit}
use Rattle.request_bounds.specs.declared.rule.After.{After}
use Rattle.request_bounds.specs.declared.rule.After.TheVariants as after
use Rattle.call_recorder.specs.declared.recorded.Recorded.{Recorded}
use Rattle.outage_schedule.specs.declared.document.Request.{Request}
use Rattle.outage_schedule.specs.declared.document.Document.{Document}
use Rattle.client_model.specs.declared.track.Track.{Track}
use Rattle.client_model.specs.meaning.Terms.{Terms, Talk, Phase, Unbegun, Queued, Seeking, Greeting, Running, Replaying}
use Rattle.client_model.specs.meaning.Talk.{next_call}
use Rattle.client_model.specs.Laws.{track_of}
use Rattle.world_model.specs.meaning.Settings.{Setting, setting_of}
use Rattle.world_model.specs.meaning.Clients.{Doing, Client}
use Rattle.world_model.specs.Words.{held_in}
use Rattle.world_model.specs.Traced.{Traced}
use Rattle.world_model.specs.Parts.{implies}
use Rattle.world_model.specs.records.Wire.{is_alter}

abbrev pub has_calls : Request → Bool
has_calls request = not (length request.calls == 0)

-- a call that may stand before the last one of a transaction: it ends nothing, and stores nothing
-- by itself
abbrev pub is_inside : Call → Bool
is_inside call.Rollback = false
is_inside (call.Alter line) = false
is_inside one = not (has_commit one)

-- one transaction: its last call commits, and the others stand inside it
abbrev pub is_one_transaction : List Call → Bool
is_one_transaction [] = false
is_one_transaction (one ∷ []) = has_commit one
is_one_transaction (one ∷ calls) = is_inside one && is_one_transaction calls

-- only a request that is one transaction is submitted again
abbrev pub is_rightly_repeated : Request → Bool
is_rightly_repeated request = (request.again == 0) || is_one_transaction request.calls

abbrev pub is_right_request : Request → Bool
is_right_request request = has_calls request && is_rightly_repeated request

-- each request of the document has a call, and is one transaction where it is submitted again
abbrev pub all_requests_right : Document → Bool
all_requests_right document = list_all (λ client. list_all is_right_request client.requests)
    document.clients

-- the setting is that of such a document
pub record IsOfCalls (setting : Setting) : Type 0 where
  pub document : Document
  pub same : setting ≡ setting_of document
  pub calls : IsTrue (all_requests_right document)

-- PHASES ------------------------------------------------------------------------------------------

-- it has no slot
abbrev pub is_waiting : Phase → Bool
is_waiting Unbegun = true
is_waiting (Queued from) = true
is_waiting _ = false

-- it sent no Begin
abbrev pub is_unbegun : Phase → Bool
is_unbegun Unbegun = true
is_unbegun (Queued from) = true
is_unbegun (Seeking None) = true
is_unbegun (Greeting None) = true
is_unbegun _ = false

-- WHAT IS REPEATED --------------------------------------------------------------------------------

-- no call that alters the service is among these
abbrev pub alters_none : List Recorded → Bool
alters_none calls = list_all (λ one. not (is_alter one.call)) calls

abbrev pub is_recording : After → Bool
is_recording after.Record = true
is_recording _ = false

-- a call that was answered Committed is not recorded
abbrev pub forgets_commits : Terms → Bool
forgets_commits terms = not (is_recording (terms.rules.reply (answer.Committed ∷ [])))

abbrev pub repeats_rightly : Terms → Track → Bool
repeats_rightly terms track = alters_none track.recorder.calls && forgets_commits terms

-- where no reason stands against a replay
abbrev pub is_repeatable : Terms → Track → Bool
is_repeatable terms track = implies (is_none track.why) (repeats_rightly terms track)

-- the call that was sent does not alter the service
abbrev pub alters_nothing : Talk → Bool
alters_nothing talk = option_map_or (λ call. not (is_alter call)) (next_call talk) true

abbrev pub records_rightly : Terms → Talk → Phase → Bool
records_rightly terms talk (Replaying state) = repeats_rightly terms state.track
records_rightly terms talk (Running state) = is_repeatable terms state.track && implies
    (is_none state.track.why) (alters_nothing talk)
records_rightly terms talk phase = option_map_or (is_repeatable terms) (track_of phase) true

-- REQUESTS ----------------------------------------------------------------------------------------

-- A request that sent no Begin has a call to send, and one without a slot had no connection so far.
-- Where no reason stands against a replay, and in one, no recorded call alters the service.
abbrev pub is_ready : Terms → Doing → Bool
is_ready terms doing =
    implies (is_unbegun doing.talk.phase) (not (length doing.talk.left == 0))
    && (implies (is_waiting doing.talk.phase) (length (held_in doing.steps) == 0)
    && records_rightly terms doing.talk doing.talk.phase)

-- the one in course is ready, and the one that is submitted next has a call
abbrev pub is_ready_client : Terms → Client → Bool
is_ready_client terms client = option_map_or (is_ready terms) client.now true
    && option_map_or has_calls client.next true

abbrev pub are_ready : Traced → Bool
are_ready t = list_all (is_ready_client t.setting.terms) t.machine.clients
