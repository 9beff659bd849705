-- What came of a conversation, told by its inputs and acts alone and not by the client's state.
-- Here is what contracts and proofs say of it besides.
use Rattle.std.specs.Prelude.{ℕ, Bool, not, List, length, take, count_by}
use Rattle.std.specs.List.{list_any}
use Rattle.svc_values.specs.declared.call.Call.{Call}
use Rattle.client_model.specs.meaning.Talk.{is_set}
use Rattle.client_model.specs.meaning.Account.{Account, Outcome}

-- a `set` is among the shown calls
abbrev pub set_shown : List Call → Account → Bool
set_shown calls account = list_any is_set (take (length account.shown) calls)

abbrev pub is_uncommitted : Outcome → Bool
is_uncommitted outcome = not outcome.committed

-- how many outcomes said uncommitted
abbrev pub count_uncommitted : Account → ℕ
count_uncommitted account = count_by is_uncommitted account.outcomes
