-- The identifiers under which the transactions of a request may have committed.
-- Here is what contracts and proofs say of it besides.
use Rattle.std.specs.Prelude.{ℕ, ◌+◌, ◌&&◌, Bool, true, nat_le, nat_lt, List, [], ◌∷◌, ◌++◌, length, filter, fold, map, Option, if◌then◌else◌}
use Rattle.std.specs.Option.{option_map_or}
use Rattle.std.specs.Cmp.Lexicographic.{pointwise}
use Rattle.svc_values.specs.declared.answer.Answer.{Answer}
use Rattle.svc_values.specs.declared.call.Call.{Call}
use Rattle.svc_values.specs.declared.entry.Ltxid.{Ltxid}
use Rattle.svc_values.specs.meaning.Calls.{has_commit}
use Rattle.svc_values.specs.meaning.Endings.{ends_committed}
use Rattle.svc_values.specs.meaning.Identifiers.{same_ltxid}
use Rattle.outage_schedule.specs.declared.request.ShownCall.{ShownCall}
use Rattle.outage_schedule.specs.declared.request.RequestReport.{RequestReport}
use Rattle.run_clauses.specs.meaning.Transactions.{txns}
use Rattle.run_clauses.specs.meaning.Tried.{holds}

-- A call that the driver sent without the replay mark: its place in its request, the identifier
-- that the driver held, and the answers of the reply that it took, if it took one.
pub record Sending : Type 0 where
  pub at : ℕ
  pub call : Call
  pub ltxid : Ltxid
  pub taken : Option (List Answer)

-- it may have committed: the call has a commit, and no reply was taken, or one whose answers end
-- with Committed
abbrev pub may_have_committed : Sending → Bool
may_have_committed sending = has_commit sending.call
    && option_map_or ends_committed sending.taken true

-- the identifier put last, unless it is there
abbrev pub with_new : List Ltxid → Ltxid → List Ltxid
with_new ids x = if holds ids x then ids else ids ++ x ∷ []

-- the identifiers of the sendings of these calls that may have committed, in order of first
-- sending, each once
abbrev pub tried_among : (ℕ → Bool) → List Sending → List Ltxid
tried_among is_of sendings = fold with_new []
    (map (λ sending. sending.ltxid) (filter (λ sending. is_of sending.at
    && may_have_committed sending) sendings))

-- for each part, the first of whose calls is at this place; the last part has all calls from its
-- first on
abbrev pub tried_from : ℕ → List (List ShownCall) → List Sending → List (List Ltxid)
tried_from first [] sendings = []
tried_from first (part ∷ []) sendings = tried_among (λ at. nat_le first at) sendings ∷ []
tried_from first (part ∷ next ∷ parts) sendings =
    tried_among (λ at. nat_le first at && nat_lt at (first + length part)) sendings
    ∷ tried_from (first + length part) (next ∷ parts) sendings

-- `tried` of a request that was shown these calls and made these sendings
abbrev pub tried_of : List ShownCall → List Sending → List (List Ltxid)
tried_of calls sendings = tried_from 0 (txns calls) sendings

-- the report's `tried` of a request is that
abbrev pub is_tried : RequestReport → List Sending → Bool
is_tried request sendings = pointwise (pointwise same_ltxid) request.tried
    (tried_of request.calls sendings)
