-- Under which identifiers a request tried to commit, kept from step to step.
use Rattle.std.specs.Prelude.{◌≡◌, ℕ, Bool, false, ◌&&◌, nat_lt, List, [], ◌∷◌, ◌++◌, length, get_or, drop, slice_get, slice_set, Option, Some, None, option_map, if◌then◌else◌}
use Rattle.std.specs.List.{list_any}
use Rattle.std.specs.Option.{option_or}
use Rattle.svc_values.specs.declared.call.Call.{Call}
use Rattle.svc_values.specs.declared.entry.Ltxid.{Ltxid}
use Rattle.svc_values.specs.declared.frame.Up.{Up}
use Rattle.svc_values.specs.declared.frame.Up.TheVariants as up
use Rattle.svc_values.specs.meaning.Calls.{has_commit}
use Rattle.svc_values.specs.meaning.Endings.{ends_transaction}
use Rattle.svc_values.specs.meaning.Identifiers.{same_ltxid}
use Rattle.client_model.specs.declared.act.Shown.{Shown}
use Rattle.client_model.specs.meaning.Tried.{Sending, Trying, is_try, tried_in, tried_upto}
use Rattle.transcript_core.specs.declared.attempts.Attempt.{Attempt}
use Rattle.transcript_core.specs.declared.heard.Heard.{Heard}
use Rattle.transcript_core.specs.declared.heard.Heard.TheVariants as tells

-- What is kept: for each transaction that is over, and for the one now, the identifiers tried by
-- all calls but the last one that went out; the identifier held; and that last call, whose reply
-- may still come.
pub record Attempts : Type 0 where
  pub over : List (List Ltxid)
  pub now : List Ltxid
  pub held : Option Ltxid
  pub last : Option Attempt

abbrev pub none_yet : Attempts
none_yet = record { over = []; now = []; held = None; last = None }

-- an identifier stands once, where it was tried first
abbrev pub put_once : List Ltxid → Ltxid → List Ltxid
put_once found ltxid = if list_any (λ other. same_ltxid other ltxid) found then found else found
    ++ ltxid ∷ []

-- tried in the transaction of this number
abbrev pub put_in : Attempts → ℕ → Ltxid → Attempts
put_in kept transaction ltxid =
    if nat_lt transaction (length kept.over) then record kept {
      over =
          slice_set kept.over transaction (put_once (get_or kept.over transaction []) ltxid);
    }
    else record kept { now = put_once kept.now ltxid }

abbrev pub put_tried : Attempts → Attempt → Attempts
put_tried kept attempt = if attempt.tried then put_in kept attempt.transaction attempt.ltxid else
    kept

-- No reply to the last call is to come any more.
abbrev pub settled_with : Attempts → Option Attempt → Attempts
settled_with kept None = kept
settled_with kept (Some attempt) = put_tried kept attempt

abbrev pub settled : Attempts → Attempts
settled kept = settled_with kept kept.last

-- a reply that is shown answers the last call
abbrev pub answered : Bool → Attempt → Attempt
answered committed attempt = record attempt { tried = attempt.commits && committed }

abbrev pub answered_by : Heard → Option Shown → Option Attempt → Option Attempt
answered_by (tells.Reply ltxid committed) (Some shown) last = option_map (answered committed) last
answered_by _ _ last = last

-- the identifier that comes with a session or with a reply that is shown
abbrev pub told_ltxid : Heard → Option Shown → Option Ltxid
told_ltxid (tells.Session ltxid) shown = Some ltxid
told_ltxid (tells.Reply ltxid committed) (Some shown) = Some ltxid
told_ltxid _ _ = None

abbrev pub told_by : Attempts → Heard → Option Shown → Attempts
told_by kept heard shown = record kept {
  held = option_or (told_ltxid heard shown) kept.held;
  last =
      answered_by heard shown kept.last;
}

-- the next transaction begins
abbrev pub next_transaction : Attempts → Attempts
next_transaction kept = record kept { over = kept.over ++ kept.now ∷ []; now = [] }

-- a shown call may end its transaction
abbrev pub ended_by : Attempts → Option Shown → Attempts
ended_by kept None = kept
ended_by kept (Some shown) = if ends_transaction shown.answers then next_transaction kept else kept

abbrev pub hears : Attempts → Heard → Option Shown → Attempts
hears kept heard shown = ended_by (told_by kept heard shown) shown

-- an unmarked call goes out, which is a try until its reply says otherwise
abbrev pub submitted : Attempts → Ltxid → Call → Attempts
submitted kept ltxid call = record (settled kept) {
  last = Some (record {
    transaction = length kept.over;
    ltxid = ltxid;
    commits = has_commit call;
    tried = has_commit call;
  });
}

-- it goes out under the identifier that is held
abbrev pub sent_under : Attempts → Option Ltxid → Up → Attempts
sent_under kept (Some ltxid) (up.Call false draws call) = submitted kept ltxid call
sent_under kept _ _ = kept

abbrev pub sends : Attempts → Up → Attempts
sends kept frame = sent_under kept kept.held frame

-- a list for each transaction that is over, and one for the last
abbrev pub lists_of : Attempts → List (List Ltxid)
lists_of kept = kept.over ++ kept.now ∷ []

-- ---- how they stand for what the steps told

-- a call that went out
abbrev pub attempt_of : Sending → Attempt
attempt_of sending = record {
  transaction = sending.transaction;
  ltxid = sending.ltxid;
  commits = has_commit sending.call;
  tried = is_try sending;
}

pub record AreAttempts (trying : Trying) (kept : Attempts) : Type 0 where
  pub over : kept.over ≡ tried_upto trying.over 0 (drop 1 trying.sendings)
  pub now : kept.now ≡ tried_in trying.over (drop 1 trying.sendings)
  pub held : kept.held ≡ trying.held
  pub last : kept.last ≡ option_map attempt_of (slice_get trying.sendings 0)
