-- What came of a conversation, told by its inputs and acts alone and not by the client's state.
use Rattle.std.specs.Prelude.{ℕ, ◌+◌, Bool, true, false, List, [], ◌∷◌, ◌++◌, length, fold, slice_get, Option, Some, None, if◌then◌else◌, nat_le}
use Rattle.std.specs.Option.{option_or}
use Rattle.svc_values.specs.declared.answer.Answer.{Answer}
use Rattle.svc_values.specs.declared.call.Call.{Call}
use Rattle.svc_values.specs.declared.entry.Ltxid.{Ltxid}
use Rattle.svc_values.specs.declared.frame.Up.{Up}
use Rattle.svc_values.specs.declared.frame.Up.TheVariants as up
use Rattle.svc_values.specs.declared.frame.Down.TheVariants as down
use Rattle.request_bounds.specs.declared.rule.Why.{Why}
use Rattle.request_bounds.specs.declared.rule.Why.TheVariants as why
use Rattle.request_bounds.specs.declared.rule.After.{After}
use Rattle.request_bounds.specs.declared.rule.After.TheVariants as after
use Rattle.call_recorder.specs.declared.recorded.Recorded.{Recorded}
use Rattle.client_model.specs.declared.input.Input.{Input}
use Rattle.client_model.specs.declared.input.Input.TheVariants.{Waiting, Lent, Opened, TryFailed, Took, Gone}
use Rattle.client_model.specs.declared.act.Shown.{Shown}
use Rattle.client_model.specs.meaning.Terms.{Terms}
use Rattle.client_model.specs.meaning.Talk.{recorded_as}
use Rattle.client_model.specs.meaning.Conversation.{Done}

-- an outcome with the identifier that was asked
pub record Outcome : Type 0 where
  pub ltxid : Ltxid
  pub committed : Bool
  pub completed : Bool

-- What was known when a session answered for a lost one: the outcome; the identifier that was held,
-- and the event that had ended its connection; the index of the lost call; the recorded calls.
pub record Answered : Type 0 where
  pub outcome : Outcome
  pub held : Option Ltxid
  pub event : Option ℕ
  pub lost : ℕ
  pub recorded : List Recorded

-- The session of the last Lent or Hello: the identifier it came with; whether the request began on
-- it first; what it answered for a lost one; the digests of the replies to marked calls; how many
-- unmarked calls went out on it.
pub record Session : Type 0 where
  pub ltxid : Option Ltxid
  pub first : Bool
  pub answered : Option Answered
  pub repeated : List (List ℕ)
  pub sent : ℕ

-- What a request's steps told so far: when it was first told to wait, and whether it got a slot;
-- how many tries in a row failed; the shown calls, those since the last purge as they are recorded,
-- and how many came before; the tick of the first submitted call; the first reason; the outcomes;
-- whether it began; the last frame that went out; the identifier to be asked after a loss (`held`),
-- with the event that first ended a connection since it was held (`ended`); its session.
pub record Account : Type 0 where
  pub waits : Option ℕ
  pub slot : Bool
  pub tries : ℕ
  pub shown : List Shown
  pub since_purge : List Recorded
  pub purged : ℕ
  pub first : Option ℕ
  pub reason : Option Why
  pub outcomes : List Outcome
  pub begun : Bool
  pub last : Option Up
  pub held : Option Ltxid
  pub ended : Option ℕ
  pub session : Session

abbrev pub session_of : Option Ltxid → Session
session_of ltxid = record { ltxid = ltxid; first = false; answered = None; repeated = []; sent = 0 }

-- nothing was told yet
abbrev pub unheard : Account
unheard = record {
  waits = None;
  slot = false;
  tries = 0;
  shown = [];
  since_purge = [];
  purged = 0;
  first = None;
  reason = None;
  outcomes = [];
  begun = false;
  last = None;
  held = None;
  ended = None;
  session = session_of None;
}

-- WHAT COMES IN -----------------------------------------------------------------------------------

-- an outcome answers the last frame that went out, if that asked for one
abbrev pub hears_outcome : Account → Bool → Bool → Option Up → Account
hears_outcome account committed completed (Some (up.Outcome asked)) =
    let outcome : Outcome = record {
      ltxid = asked;
      committed = committed;
      completed = completed;
    } in
    record account {
      outcomes = account.outcomes ++ outcome ∷ [];
      held = account.session.ltxid;
      ended = None;
      session = record account.session {
        answered = Some (record {
          outcome = outcome;
          held = account.held;
          event = account.ended;
          lost = length account.shown;
          recorded = account.since_purge;
        });
      };
    }
hears_outcome account committed completed _ = account

-- a reply that is shown belongs to the running call, and any other to a marked one
abbrev pub hears_reply : Terms → Account → List Answer → Ltxid → Option Shown → Account
hears_reply terms account answers ltxid None =
    record account {
      session = record account.session {
        repeated =
            account.session.repeated ++ terms.digest answers ∷ [];
      };
    }
hears_reply terms account answers ltxid (Some shown) =
    record account { held = Some ltxid; ended = None }

abbrev pub hears : Terms → Account → Input → ℕ → Option Shown → Account
hears terms account Waiting now shown = record account {
  waits =
      option_or account.waits (Some now);
}
hears terms account TryFailed now shown = record account { slot = true; tries = account.tries + 1 }
hears terms account (Opened connection) now shown = record account { slot = true; tries = 0 }
hears terms account (Lent connection ltxid) now shown =
    record account { slot = true; session = session_of (Some ltxid) }
hears terms account (Took (down.Hello ltxid) alive) now shown =
    record account { session = session_of (Some ltxid) }
hears terms account (Took (down.OutcomeIs committed completed) alive) now shown =
    hears_outcome account committed completed account.last
hears terms account (Took (down.Reply answers draws ltxid) alive) now shown =
    hears_reply terms account answers ltxid shown
hears terms account (Gone event) now shown =
    record account { ended = option_or account.ended (Some event) }
hears terms account _ now shown = account

-- WHAT IS SHOWN -----------------------------------------------------------------------------------

-- the reason of a reply, where so many calls are recorded
abbrev pub reply_reason : Terms → ℕ → After → Option Why
reply_reason terms since (after.Stop reason) = Some reason
reply_reason terms since after.Purge = None
reply_reason terms since after.Record = if nat_le terms.recorded since then
    Some (why.Full terms.recorded) else None

abbrev pub since_after : List Recorded → Recorded → After → List Recorded
since_after since one after.Purge = []
since_after since one _ = since ++ one ∷ []

abbrev pub purged_after : ℕ → ℕ → After → ℕ
purged_after purged shown after.Purge = shown + 1
purged_after purged shown _ = purged

abbrev pub shows_call : Terms → Account → Shown → Call → Account
shows_call terms account shown call =
    let after : After = terms.rules.reply shown.answers in
    record account {
      shown = account.shown ++ shown ∷ [];
      since_purge = since_after account.since_purge
          (recorded_as terms call shown.answers shown.draws) after;
      purged = purged_after account.purged (length account.shown) after;
      reason = option_or account.reason (reply_reason terms (length account.since_purge) after);
    }

abbrev pub shows_found : Terms → Account → Shown → Option Call → Account
shows_found terms account shown None = account
shows_found terms account shown (Some call) = shows_call terms account shown call

abbrev pub shows : Terms → List Call → Account → Option Shown → Account
shows terms calls account None = account
shows terms calls account (Some shown) =
    shows_found terms account shown (slice_get calls (length account.shown))

-- WHAT IS SENT ------------------------------------------------------------------------------------

-- only the first Begin makes a session the one whose identifier is held
abbrev pub begins : Account → Bool → Account
begins account true = account
begins account false = record account {
  begun = true;
  held = account.session.ltxid;
  ended =
      None;
  session = record account.session { first = true };
}

-- An unmarked call goes out: its index is the number of calls shown. Going out again it gives the
-- reason that it gave before, so nothing changes.
abbrev pub submits : Terms → Account → Call → ℕ → Account
submits terms account call now =
    record account {
      first = option_or account.first (Some now);
      reason = option_or account.reason (terms.rules.submit call (length account.shown));
      session = record account.session { sent = account.session.sent + 1 };
    }

abbrev pub sends_one : Terms → ℕ → Account → Up → Account
sends_one terms now account (up.Begin settings) = begins account account.begun
sends_one terms now account (up.Call false kept call) = submits terms account call now
sends_one terms now account _ = account

abbrev pub sends : Terms → ℕ → Account → Up → Account
sends terms now account frame = record (sends_one terms now account frame) { last = Some frame }

-- THE STEPS ---------------------------------------------------------------------------------------

-- between input and frames: the input was heard, and its call shown
abbrev pub before_sends : Terms → List Call → Account → Done → Account
before_sends terms calls account done = shows terms calls
    (hears terms account done.input done.now done.act.shown) done.act.shown

abbrev pub after_step : Terms → List Call → Account → Done → Account
after_step terms calls account done = fold (sends terms done.now)
    (before_sends terms calls account done) done.act.send

abbrev pub account_of : Terms → List Call → List Done → Account
account_of terms calls steps = fold (after_step terms calls) unheard steps
