-- What the runs of `Rows` and `LaterRows` are written in.
use Rattle.std.proofs.Common.{ℕ, pos, Bool, List, [], ◌∷◌, ◌++◌, Option}
use Rattle.svc_values.specs.declared.value.Value.{Value}
use Rattle.svc_values.specs.declared.value.Value.TheVariants as value
use Rattle.svc_values.specs.declared.answer.Answer.{Answer}
use Rattle.svc_values.specs.declared.answer.Answer.TheVariants as answer
use Rattle.svc_values.specs.declared.entry.Ltxid.{Ltxid}
use Rattle.svc_values.specs.declared.frame.Up.{Up}
use Rattle.request_bounds.specs.meaning.Rules.{Rules}
use Rattle.client_model.specs.declared.act.Act.{Act}
use Rattle.client_model.specs.declared.act.Shown.{Shown}
use Rattle.client_model.specs.declared.act.Hold.{Hold}
use Rattle.client_model.specs.declared.act.Failed.{Failed}
use Rattle.client_model.specs.meaning.Terms.{Terms}
use Rattle.client_model.specs.meaning.Account.{Outcome}

-- a digest by which the answers of these runs differ
abbrev pub ints_of : List Value → List ℕ
ints_of [] = []
ints_of (value.Int (pos n) ∷ values) = n ∷ ints_of values
ints_of (_ ∷ values) = ints_of values

abbrev pub ints_of_rows : List (List Value) → List ℕ
ints_of_rows [] = []
ints_of_rows (row ∷ rows) = ints_of row ++ ints_of_rows rows

abbrev pub spelled : Answer → List ℕ
spelled (answer.Done n) = 2 ∷ n ∷ []
spelled (answer.Rows rows) = 1 ∷ ints_of_rows rows
spelled (answer.Number (pos n)) = 3 ∷ n ∷ []
spelled answer.Committed = 4 ∷ []
spelled answer.Conflict = 5 ∷ []
spelled answer.RolledBack = 6 ∷ []
spelled answer.CommitInReplay = 7 ∷ []
spelled _ = 8 ∷ []

abbrev pub digest_of : List Answer → List ℕ
digest_of [] = []
digest_of (one ∷ answers) = spelled one ++ digest_of answers

abbrev pub x : ℕ → ℕ → ℕ → Ltxid
x incarnation session number = record { incarnation = incarnation; session = session; number = number }

abbrev pub act : List Up → Option Shown → Option Failed → Hold → Act
act send shown failed hold = record { send = send; shown = shown; failed = failed; hold = hold }

abbrev pub outcome : Ltxid → Bool → Bool → Outcome
outcome ltxid committed completed = record { ltxid = ltxid; committed = committed; completed = completed }

abbrev pub terms : Rules → (retries delay timeout replays wait recorded : ℕ) → Terms
terms rules retries delay timeout replays wait recorded =
    record { rules = rules; limits = record { retries = retries; delay = delay; timeout = timeout; replays = replays; wait = wait }; recorded = recorded; digest = digest_of }
