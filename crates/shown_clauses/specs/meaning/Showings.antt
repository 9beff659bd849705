-- The showings of a request: the replies by which its calls were shown.
use Rattle.std.specs.Prelude.{◌==◌, ◌&&◌, Bool, true, false, List, [], ◌∷◌, length, filter_map, flat_map, map, Option, Some, None, option_and_then}
use Rattle.std.specs.List.{list_all, list_any}
use Rattle.std.specs.Option.{option_map_or}
use Rattle.svc_values.specs.declared.answer.Answer.{Answer}
use Rattle.svc_values.specs.declared.answer.Answer.TheVariants as answer
use Rattle.svc_values.specs.declared.call.Call.{Call}
use Rattle.svc_values.specs.declared.entry.Ltxid.{Ltxid}
use Rattle.svc_values.specs.declared.entry.Entry.{Entry}
use Rattle.svc_values.specs.meaning.Calls.{is_lone_commit}
use Rattle.svc_values.specs.meaning.Identifiers.{same_ltxid, same_session}
use Rattle.svc_values.specs.meaning.Same.{same_answers, same_bool, same_call, same_draws}
use Rattle.outage_schedule.specs.declared.item.Item.{Item}
use Rattle.outage_schedule.specs.declared.item.Item.TheVariants as item
use Rattle.outage_schedule.specs.declared.item.Served.{Served}
use Rattle.outage_schedule.specs.declared.note.AskResult.TheVariants as told
use Rattle.outage_schedule.specs.declared.request.Outcome.{Outcome}
use Rattle.outage_schedule.specs.declared.request.ShownCall.{ShownCall}
use Rattle.outage_schedule.specs.declared.request.RequestReport.{RequestReport}
use Rattle.run_clauses.specs.meaning.Transactions.{txns_of}
use Rattle.run_clauses.specs.meaning.Tried.{holds}
use Rattle.run_clauses.specs.meaning.EntryEvents.{StoredEntry, stored_up_to}
use Rattle.shown_clauses.specs.meaning.Fronts.{is_empty}
use Rattle.shown_clauses.specs.meaning.Steps.{Step}
use Rattle.shown_clauses.specs.meaning.Parts.{Part}

-- The answers that a taken reply shows: those of a call without the mark, and [Committed] of an
-- outcome that says committed and completed.
abbrev pub shown_answers : Item → Option (List Answer)
shown_answers (item.Call false call answers draws) = Some answers
shown_answers (item.Outcome x (told.Committed true)) = Some (answer.Committed ∷ [])
shown_answers _ = None

abbrev pub is_showing : Served → Bool
is_showing one = option_map_or (λ answers. true) (shown_answers one.item) false

abbrev pub showing_of : Bool → Served → Option Served
showing_of true one = Some one
showing_of false one = None

abbrev pub showing_at : Step → Option Served
showing_at step = option_and_then (λ one. showing_of (is_showing one) one) step.taken

-- the showings among these steps, in order
abbrev pub showings : List Step → List Served
showings steps = filter_map showing_at steps

-- ---- outcomes

-- the outcome that a taken reply tells
abbrev pub outcome_told : Item → Option Outcome
outcome_told (item.Outcome x (told.Committed completed)) = Some (record {
  ltxid = x;
  committed = true;
  completed = completed;
})
outcome_told (item.Outcome x told.Uncommitted) = Some (record {
  ltxid = x;
  committed = false;
  completed = false;
})
outcome_told _ = None

abbrev pub outcome_at : Step → Option Outcome
outcome_at step = option_and_then (λ one. outcome_told one.item) step.taken

abbrev pub same_outcome : Outcome → Outcome → Bool
same_outcome a b = same_ltxid a.ltxid b.ltxid
    && (same_bool a.committed b.committed && same_bool a.completed b.completed)

-- ---- each shown call with its showing

-- A shown call: the script's call, the `tried` list of its transaction, what was shown, and the
-- reply that showed it.
pub record Shown : Type 0 where
  pub call : Call
  pub tried : List Ltxid
  pub shown : ShownCall
  pub showing : Served

-- for each shown call the list of its transaction
abbrev pub tried_by_call : RequestReport → List (List Ltxid)
tried_by_call copy = flat_map (λ txn. map (λ shown. txn.tried) txn.shown) (txns_of copy)

-- the calls side by side; what has no fellow is left out
abbrev pub shown_with : List Call → List (List Ltxid) → List ShownCall → List Served → List Shown
shown_with (call ∷ calls) (ids ∷ tried) (shown ∷ more) (one ∷ items) =
    record {
      call = call;
      tried = ids;
      shown = shown;
      showing = one;
    } ∷ shown_with calls tried more items
shown_with _ _ _ _ = []

abbrev pub shown_calls : Part → List Shown
shown_calls part =
    shown_with part.submission.request.calls (tried_by_call part.submission.copy)
    part.submission.copy.calls (showings part.steps)

-- A request's calls are, in order, the replies to calls without the mark that its steps took, and
-- [Committed] for each outcome taken that says committed and completed.
abbrev pub is_shown_by : Shown → Item → Bool
is_shown_by one (item.Call replay call answers draws) =
    same_answers one.shown.answers answers && same_draws one.shown.draws draws
is_shown_by one _ = same_answers one.shown.answers (answer.Committed ∷ [])
    && is_empty one.shown.draws

abbrev pub has_its_showings : Part → Bool
has_its_showings part =
    (length part.submission.copy.calls == length (showings part.steps))
    && list_all (λ one. is_shown_by one one.showing.item) (shown_calls part)

-- Each shown call has the answers and draws of a `call` item of that call, served without the mark
-- by a session of this request before it was shown. Or it is a lone commit shown with [Committed]
-- and no draws, and an outcome of this request says committed and completed of an identifier in its
-- transaction's list.
abbrev pub says_completed : Ltxid → Outcome → Bool
says_completed x outcome = same_ltxid outcome.ltxid x && (outcome.committed && outcome.completed)

abbrev pub is_served : RequestReport → Shown → Item → Bool
is_served copy one (item.Call replay call answers draws) =
    same_call one.call call && list_any (same_session one.showing.session) copy.sessions
is_served copy one (item.Outcome x result) =
    is_lone_commit one.call && (holds one.tried x && list_any (says_completed x) copy.outcomes)
is_served copy one _ = false

abbrev pub calls_served : Part → Bool
calls_served part = list_all (λ one. is_served part.submission.copy one one.showing.item)
    (shown_calls part)

-- The identifier shown has the session of that item. Its number is that of the session's entries
-- stored up to the event of that item.
abbrev pub identifier_at : List Entry → List StoredEntry → Served → Ltxid
identifier_at image stored one =
    record {
      incarnation = one.session.incarnation;
      session = one.session.session;
      number = stored_up_to image stored one.session one.event;
    }

abbrev pub has_identifier : List Entry → List StoredEntry → Shown → Bool
has_identifier image stored one = same_ltxid one.shown.ltxid
    (identifier_at image stored one.showing)

abbrev pub have_identifiers : List Entry → List StoredEntry → Part → Bool
have_identifiers image stored part = list_all (has_identifier image stored) (shown_calls part)
