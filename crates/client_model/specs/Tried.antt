-- Under which identifiers a request tried to commit, transaction by transaction.
-- Here is what contracts and proofs say of it besides.
use Rattle.std.specs.Prelude.{false, List, [], ◌∷◌, fold, Option}
use Rattle.svc_values.specs.declared.call.Call.{Call}
use Rattle.svc_values.specs.declared.entry.Ltxid.{Ltxid}
use Rattle.svc_values.specs.declared.frame.Up.{Up}
use Rattle.svc_values.specs.declared.frame.Up.TheVariants as up
use Rattle.client_model.specs.meaning.Terms.{Terms}
use Rattle.client_model.specs.meaning.Conversation.{Done}
use Rattle.client_model.specs.meaning.Account.{Account, after_step}

-- the unmarked calls among frames with the identifier that is held, the last one first
abbrev pub sent_with : Option Ltxid → List (Call × Option Ltxid) → Up → List (Call × Option Ltxid)
sent_with held sent (up.Call false kept call) = (call, held) ∷ sent
sent_with held sent _ = sent

-- the same over all steps, each with what its account holds
abbrev pub sent_in : Terms → List Call → Account → List (Call × Option Ltxid) → List Done
    → List (Call × Option Ltxid)
sent_in terms calls account sent [] = sent
sent_in terms calls account sent (done ∷ steps) =
    let after : Account = after_step terms calls account done in
    sent_in terms calls after (fold (sent_with after.held) sent done.act.send) steps
