-- What an opening stores first makes the horizon the greater one.
use Rattle.std.proofs.Common.{◌≡◌, ℕ, Bool, true, false, List, fold, refl, sym, ◌∙◌, ap}
use Rattle.std.specs.Prelude.{max, Result}
use Rattle.commit_log.specs.declared.journal.Journal.{Journal}
use Rattle.commit_log.specs.declared.records.Record.{Record}
use Rattle.commit_log.specs.meaning.Rules.{SoFar, with_record, rises}
use Rattle.commit_log.specs.meaning.Journals.{so_far_of}
use Rattle.commit_log.specs.Growth.{horizon_of, first_of_opening}
use Rattle.commit_log.specs.Laws.{RaisesHorizon}
use Rattle.commit_log.proofs.Committing.{greater}
use Rattle.commit_log.proofs.Fronts.{begun_of}
use Rattle.commit_log.proofs.KeepingJournals.{IsUnset, unset_in}
use Rattle.commit_log.proofs.Opening.{stays_greater, stored, not_stored}

raised_by : (rising has_horizon : Bool) (journal : Journal) (horizon : ℕ) → rises journal has_horizon horizon ≡ rising → IsUnset has_horizon journal
    → fold with_record journal (horizon_of horizon journal has_horizon) ≡ record journal { horizon = max journal.horizon horizon }
raised_by true has_horizon journal horizon up unset =
    ap (λ (l : List Record). fold with_record journal l) (stored horizon journal has_horizon up)
    ∙ ap (λ n. let one : Journal = record journal { horizon = n } in one) (sym (greater journal has_horizon horizon unset up))
raised_by false has_horizon journal horizon up unset =
    ap (λ (l : List Record). fold with_record journal l) (not_stored horizon journal has_horizon up)
    ∙ ap (λ n. let one : Journal = record journal { horizon = n } in one) (sym (stays_greater journal has_horizon horizon up))

pub raises_horizon : RaisesHorizon
raises_horizon image journal horizon e =
    let begun = begun_of (so_far_of image) journal e in
    ap (λ (r : Result SoFar ℕ). fold with_record journal (first_of_opening horizon r)) begun.2
    ∙ raised_by (rises journal begun.1 horizon) begun.1 journal horizon refl (unset_in image journal begun.0 begun.1 begun.2)
