-- Under which identifiers a request tried to commit, transaction by transaction.
use Rattle.std.specs.Prelude.{ℕ, zero, suc, ◌+◌, ◌==◌, Bool, true, false, not, ◌&&◌, List, [], ◌∷◌, filter, map, fold, Option, Some, None, if◌then◌else◌}
use Rattle.std.specs.Option.{option_map_or, option_or}
use Rattle.svc_values.specs.declared.answer.Answer.{Answer}
use Rattle.svc_values.specs.declared.call.Call.{Call}
use Rattle.svc_values.specs.declared.entry.Ltxid.{Ltxid}
use Rattle.svc_values.specs.declared.frame.Up.{Up}
use Rattle.svc_values.specs.declared.frame.Up.TheVariants as up
use Rattle.svc_values.specs.declared.frame.Down.TheVariants as down
use Rattle.svc_values.specs.meaning.Calls.{has_commit}
use Rattle.svc_values.specs.meaning.Identifiers.{same_ltxid}
use Rattle.svc_values.specs.meaning.Endings.{ends_committed, ends_transaction}
use Rattle.client_model.specs.declared.input.Input.{Input}
use Rattle.client_model.specs.declared.input.Input.TheVariants.{Lent, Took}
use Rattle.client_model.specs.declared.act.Shown.{Shown}
use Rattle.client_model.specs.meaning.Conversation.{Done}

-- An unmarked call that went out: the call, its transaction in the request (from 0), the
-- identifier, and the answers if a reply was taken.
pub record Sending : Type 0 where
  pub call : Call
  pub transaction : ℕ
  pub ltxid : Ltxid
  pub reply : Option (List Answer)

-- What the steps told so far: the identifier of the session as it stands, how many transactions are
-- over, and the sendings with the last one first.
pub record Trying : Type 0 where
  pub held : Option Ltxid
  pub over : ℕ
  pub sendings : List Sending

-- the identifier that comes with a session or with a reply that is shown
abbrev pub told_ltxid : Input → Option Shown → Option Ltxid
told_ltxid (Lent connection ltxid) shown = Some ltxid
told_ltxid (Took (down.Hello ltxid) alive) shown = Some ltxid
told_ltxid (Took (down.Reply answers draws ltxid) alive) (Some shown) = Some ltxid
told_ltxid _ _ = None

-- a shown reply answers the last sending
abbrev pub with_answer : List Answer → List Sending → List Sending
with_answer answers [] = []
with_answer answers (sending ∷ earlier) = record sending { reply = Some answers } ∷ earlier

abbrev pub replied : Input → Option Shown → List Sending → List Sending
replied (Took (down.Reply answers draws ltxid) alive) (Some shown) sendings =
    with_answer answers sendings
replied _ _ sendings = sendings

-- a shown call may end its transaction
abbrev pub over_after : ℕ → Option Shown → ℕ
over_after over None = over
over_after over (Some shown) = if ends_transaction shown.answers then over + 1 else over

-- an unmarked call goes out under the identifier that is held
abbrev pub sent_under : Option Ltxid → ℕ → List Sending → Up → List Sending
sent_under (Some ltxid) over sendings (up.Call false kept call) = record {
  call = call;
  transaction = over;
  ltxid = ltxid;
  reply = None;
} ∷ sendings
sent_under _ over sendings _ = sendings

abbrev pub tries_on : Trying → Done → Trying
tries_on trying done =
    let held : Option Ltxid = option_or (told_ltxid done.input done.act.shown) trying.held in
    let over : ℕ = over_after trying.over done.act.shown in
    record {
      held = held;
      over = over;
      sendings = fold (sent_under held over) (replied done.input done.act.shown trying.sendings)
          done.act.send;
    }

abbrev pub trying_of : List Done → Trying
trying_of steps = fold tries_on (record { held = None; over = 0; sendings = [] }) steps

-- a commit was tried where the call has one, unless its reply ends otherwise than Committed
abbrev pub is_try : Sending → Bool
is_try sending = has_commit sending.call && option_map_or ends_committed sending.reply true

-- each identifier once, where it was tried first: later sendings come before earlier ones here
abbrev pub each_once : List Ltxid → Ltxid → List Ltxid
each_once found ltxid = ltxid ∷ filter (λ other. not (same_ltxid other ltxid)) found

abbrev pub tried_in : ℕ → List Sending → List Ltxid
tried_in transaction sendings = fold each_once []
    (map (λ sending. sending.ltxid) (filter (λ sending. is_try sending
    && (sending.transaction == transaction)) sendings))

abbrev pub tried_upto : ℕ → ℕ → List Sending → List (List Ltxid)
tried_upto zero from sendings = []
tried_upto (suc left) from sendings = tried_in from sendings ∷ tried_upto left (suc from) sendings

-- a list for each transaction that is over, and one for the last
abbrev pub tried_of : List Done → List (List Ltxid)
tried_of steps = let trying : Trying = trying_of steps in
    tried_upto (suc trying.over) 0 trying.sendings
