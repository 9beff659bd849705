-- Where an outcome showed a call the report has it as committed.
use Rattle.std.proofs.Common.{◌≡◌, sym, ap, subst, ◌∙◌, true, ℕ, zero, suc, ◌<◌, length, List, ◌∷◌, map, Some, arith}
use Rattle.std.specs.Prelude.{slice_get}
use Rattle.svc_values.specs.declared.entry.Ltxid.{Ltxid}
use Rattle.svc_values.specs.meaning.Endings.{ends_committed}
use Rattle.client_model.specs.meaning.Account.{account_of}
use Rattle.client_model.specs.declared.act.Shown.{Shown}
use Rattle.outage_schedule.specs.declared.item.Item.TheVariants as item
use Rattle.outage_schedule.specs.declared.item.Served.{Served}
use Rattle.outage_schedule.specs.declared.note.AskResult.{AskResult}
use Rattle.outage_schedule.specs.declared.request.ShownCall.{ShownCall}
use Rattle.run_clauses.specs.meaning.Reports.{shown_call}
use Rattle.shown_clauses.specs.meaning.Parts.{Part}
use Rattle.shown_clauses.specs.meaning.Showings.{showings}
use Rattle.world_model.specs.meaning.Clients.{Past}
use Rattle.invariant_laws.specs.Once.{shows_at}
use Rattle.world_model.specs.meaning.Settings.{Setting}
use Rattle.world_model.specs.Words.{dones_of}
use Rattle.shown_laws.specs.ShowingsTold.{ShownBy, ByReply, ByOutcome, AreShownBy, NoneShown, OneShown}
use Rattle.shown_laws.specs.Tellings.{Telling}
use Rattle.shown_laws.proofs.shown.PartsHold.{IsTold}
use Rattle.shown_laws.proofs.shown.ShowingsHold.{calls_listed, shown_by_part}

-- a call of this place is shown, and as committed
pub record IsCommitted (calls : List ShownCall) (place : ℕ) : Type 0 where
  pub among : place < length calls
  pub committed : shows_at ends_committed calls place ≡ true

by_outcome : (shown : Shown) (served : Served) (x : Ltxid) (result : AskResult) → ShownBy shown served → served.item ≡ item.Outcome x result → ends_committed shown.answers ≡ true
by_outcome shown served x result (ByReply call commits is identified) told = absurd (let both : item.Call _ call shown.answers shown.draws ≡ item.Outcome x result = sym is ∙ told in let none : ⊥ = cc in none)
by_outcome shown served x result (ByOutcome y is answers draws) told = ap ends_committed answers

committed_at : (shown : List Shown) (items : List Served) (place : ℕ) (served : Served) (x : Ltxid) (result : AskResult) → AreShownBy shown items → slice_get items place ≡ Some served → served.item ≡ item.Outcome x result → IsCommitted (map shown_call shown) place
committed_at _ _ place served x result NoneShown there told = absurd (let none : ⊥ = cc in none)
committed_at _ _ zero served x result (OneShown shown first more items is rest) there told =
    let same : first ≡ served = cc in
    record { among = omega arith; committed = by_outcome shown first x result is (ap (λ (s : Served). s.item) same ∙ told) }
committed_at _ _ (suc place) served x result (OneShown shown first more items is rest) there told =
    let found = committed_at more items place served x result rest there told in
    record { among = (let less : suc place < length (map shown_call (shown ∷ more)) = omega (arith, found.among) in less); committed = found.committed }

-- of the part of a request that is over
pub outcome_committed : (setting : Setting) (client place : ℕ) (one : Past) (tellings : List Telling) (part : Part) → IsTold setting client place one tellings part
    → (at : ℕ) (served : Served) (x : Ltxid) (result : AskResult) → slice_get (showings part.steps) at ≡ Some served → served.item ≡ item.Outcome x result → IsCommitted part.submission.copy.calls at
outcome_committed setting client place one tellings part told at served x result there is =
    subst (λ (calls : List ShownCall). IsCommitted calls at) (sym (calls_listed setting client place one tellings part told))
    (committed_at (account_of setting.terms one.request.calls (dones_of one.steps)).shown (showings part.steps) at served x result (shown_by_part setting client place one tellings part told) there is)
