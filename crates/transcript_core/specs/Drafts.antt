-- The report of a request in the making.
use Rattle.std.specs.Prelude.{◌≡◌, ℕ, nat_lt, List, [], ◌∷◌, ◌++◌, length, map, filter_map, fold, Option, Some, None, option_and_then, if◌then◌else◌}
use Rattle.svc_values.specs.declared.entry.Ltxid.{Ltxid}
use Rattle.svc_values.specs.declared.entry.SessionId.{SessionId}
use Rattle.svc_values.specs.declared.frame.Up.{Up}
use Rattle.svc_values.specs.declared.frame.Up.TheVariants as up
use Rattle.svc_values.specs.meaning.Identifiers.{session_of}
use Rattle.outage_schedule.specs.declared.document.Request.{Request}
use Rattle.outage_schedule.specs.declared.failure.Failure.{Failure}
use Rattle.outage_schedule.specs.declared.request.Outcome.{Outcome}
use Rattle.outage_schedule.specs.declared.request.RequestReport.{RequestReport}
use Rattle.outage_schedule.specs.declared.request.ShownCall.{ShownCall}
use Rattle.client_model.specs.declared.act.Failed.{Failed}
use Rattle.client_model.specs.declared.act.Hold.{Hold}
use Rattle.client_model.specs.declared.act.Shown.{Shown}
use Rattle.client_model.specs.declared.input.Input.{Input}
use Rattle.client_model.specs.meaning.Account.{Account, account_of}
use Rattle.client_model.specs.meaning.Conversation.{Done}
use Rattle.client_model.specs.meaning.Terms.{Terms}
use Rattle.client_model.specs.meaning.Tried.{trying_of}
use Rattle.run_clauses.specs.meaning.Reports.{failure_of, failed_in, shown_call, told_outcome, reached as told_session}
use Rattle.transcript_core.specs.declared.heard.Heard.{Heard}
use Rattle.transcript_core.specs.declared.heard.Heard.TheVariants as tells
use Rattle.transcript_core.specs.Attempts.{Attempts, AreAttempts, none_yet, settled, lists_of}
use Rattle.transcript_core.specs.Attempts as attempts

-- What is kept of the steps: how many calls the request has; the calls shown, the last error, the
-- outcomes and the sessions as they will be reported; the identifier whose outcome the last frame
-- that went out asked for; and what was tried.
pub record Draft : Type 0 where
  pub limit : ℕ
  pub calls : List ShownCall
  pub failed : Option Failure
  pub outcomes : List Outcome
  pub asked : Option Ltxid
  pub sessions : List SessionId
  pub attempts : Attempts

abbrev pub blank : ℕ → Draft
blank limit = record {
  limit = limit;
  calls = [];
  failed = None;
  outcomes = [];
  asked = None;
  sessions = [];
  attempts = none_yet;
}

-- one more, if there is one
abbrev pub one_more : {A : Type 0} → List A → Option A → List A
one_more list None = list
one_more list (Some item) = list ++ item ∷ []

-- an outcome is that of the identifier that was asked
abbrev pub told_of : Heard → Option Ltxid → Option Outcome
told_of (tells.Outcome committed completed) (Some ltxid) = Some (record {
  ltxid = ltxid;
  committed = committed;
  completed = completed;
})
told_of _ _ = None

-- the session that was lent, or whose Hello was taken
abbrev pub reached : Heard → Option SessionId
reached (tells.Session ltxid) = Some (session_of ltxid)
reached _ = None

abbrev pub hears : Draft → Heard → Draft
hears draft heard = record draft {
  outcomes = one_more draft.outcomes (told_of heard draft.asked);
  sessions = one_more draft.sessions (reached heard);
}

-- no more calls are shown than the request has
abbrev pub shows : Draft → Option Shown → Draft
shows draft None = draft
shows draft (Some shown) = if nat_lt (length draft.calls) draft.limit then record draft {
  calls =
      draft.calls ++ shown_call shown ∷ [];
} else draft

-- the identifier whose outcome a frame asks for
abbrev pub asked_by : Up → Option Ltxid
asked_by (up.Outcome ltxid) = Some ltxid
asked_by _ = None

abbrev pub sends : Draft → Up → Draft
sends draft frame = record draft {
  asked = asked_by frame;
  attempts =
      attempts.sends draft.attempts frame;
}

-- before frames go out
abbrev pub noted : Draft → Heard → Option Shown → Option Failed → Draft
noted draft heard shown failed = shows (record (hears draft heard) {
  failed =
      option_and_then failure_of failed;
  attempts = attempts.hears draft.attempts heard shown;
}) shown

abbrev pub notes : Draft → Heard → List Up → Option Shown → Option Failed → Draft
notes draft heard send shown failed = fold sends (noted draft heard shown failed) send

abbrev pub drafted : Draft → RequestReport
drafted draft = record {
  calls = draft.calls;
  failed = draft.failed;
  outcomes = draft.outcomes;
  sessions = draft.sessions;
  tried = lists_of (settled draft.attempts);
}

-- ---- how it stands for the steps

abbrev pub asked_in : Option Up → Option Ltxid
asked_in last = option_and_then asked_by last

-- it is what an account of the steps tells
pub record IsOf (account : Account) (draft : Draft) : Type 0 where
  pub calls : draft.calls ≡ map shown_call account.shown
  pub outcomes : draft.outcomes ≡ map told_outcome account.outcomes
  pub asked : draft.asked ≡ asked_in account.last

-- the draft of the request's report after these steps
pub record IsDraft (terms : Terms) (request : Request) (steps : List Done)
    (draft : Draft) : Type 0 where
  pub limit : draft.limit ≡ length request.calls
  pub told : IsOf (account_of terms request.calls steps) draft
  pub failed : draft.failed ≡ option_and_then failure_of (failed_in steps)
  pub sessions : draft.sessions ≡ filter_map (λ done. told_session done.input) steps
  pub attempts : AreAttempts (trying_of steps) draft.attempts

-- a step, at any tick and with whatever becomes of the connection
abbrev pub done_so : Input → ℕ → List Up → Option Shown → Option Failed → Hold → Done
done_so input now send shown failed hold = record {
  input = input;
  now = now;
  act = record { send = send; shown = shown; failed = failed; hold = hold };
}
