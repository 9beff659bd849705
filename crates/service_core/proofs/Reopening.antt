-- The plain server beside a store that was opened, or whose opening was stopped.
use Rattle.std.proofs.Common.{◌≡◌, ◌∙◌, ◌+◌, ℕ, refl, sym, ap, subst, inl, inr, List, [], ◌∷◌, map}
use Rattle.std.specs.Prelude.{◌⊎◌, max, Result, Ok, IfOk}
use Rattle.disk_model.specs.Disk.{DiskState}
use Rattle.mutable_values.specs.declared.grants.Grants.{Grants}
use Rattle.mutable_values.specs.declared.source.SeqState.{SeqState}
use Rattle.mutable_values.specs.Sources.{Opening}
use Rattle.commit_log.specs.declared.base.BaseSequence.{BaseSequence}
use Rattle.commit_log.specs.declared.journal.Journal.{Journal}
use Rattle.commit_log.specs.Growth.{with_opening}
use Rattle.commit_log.specs.meaning.Journals.{journal_of}
use Rattle.server_model.specs.meaning.Base.{Sequence}
use Rattle.server_model.specs.meaning.Core.{sequence_at}
use Rattle.server_model.specs.Core.{Core as Plain, opening_after, reopened}
use Rattle.server_model.specs.Runs.{reopened_core, forgetting}
use Rattle.server_session.specs.declared.shared.Core.{Core}
use Rattle.server_session.specs.Fits.{IsSourceOf, sequence_in, sequence_of}
use Rattle.server_session.specs.Plain.{IsStored, IsPlain}
use Rattle.service_core.specs.Opening.{HasOpened, source_of}
use Rattle.service_core.proofs.Reaching.{forgetting_journal, opened_journal, IsPartOf}

-- a sequence that is opened again has the same reservation
same_ends : (sequences : List SeqState) → map sequence_in (map reopened sequences) ≡ map sequence_in sequences
same_ends [] = refl
same_ends (sequence ∷ sequences) = ap (λ rest. sequence_in sequence ∷ rest) (same_ends sequences)

-- and goes on behind it
goes_on_behind : (sequences : List SeqState) → map reopened sequences ≡ map sequence_at (map sequence_in sequences)
goes_on_behind [] = refl
goes_on_behind (sequence ∷ sequences) = ap (λ rest. reopened sequence ∷ rest) (goes_on_behind sequences)

in_two_steps : (journal : Journal) (sequences : List BaseSequence) → map sequence_at (map (sequence_of journal) sequences) ≡ map (λ sequence. sequence_at (sequence_of journal sequence)) sequences
in_two_steps journal [] = refl
in_two_steps journal (sequence ∷ sequences) = ap (λ rest. sequence_at (sequence_of journal sequence) ∷ rest) (in_two_steps journal sequences)

abbrev pub opened_plain : Plain → ℕ → Plain
opened_plain plain below = reopened_core (forgetting plain below)

stored_forgetting : (plain : Plain) (journal : Journal) (below : ℕ) → IsStored plain journal → IsStored (forgetting plain below) (forgetting_journal journal below)
stored_forgetting plain journal below stored = record {
  shape = stored.shape;
  entries = stored.entries;
  blocked = stored.blocked;
  alerts = stored.alerts;
  horizon = ap (λ (h : ℕ). max h below) stored.horizon;
  tables = stored.tables;
  source = record { incarnation = stored.source.incarnation; sequences = stored.source.sequences };
}

pub stored_again : (plain : Plain) (journal : Journal) (below : ℕ) → IsStored plain journal → IsStored (opened_plain plain below) (opened_journal journal below)
stored_again plain journal below stored = record {
  shape = stored.shape;
  entries = stored.entries;
  blocked = stored.blocked;
  alerts = stored.alerts;
  horizon = ap (λ (h : ℕ). max h below) stored.horizon;
  tables = stored.tables;
  source = record { incarnation = ap (λ (n : ℕ). n + 1) stored.source.incarnation; sequences = same_ends plain.opening.sequences ∙ stored.source.sequences };
}

-- A plain server comes as far as an opening that was stopped.
pub record Follows (plain : Plain) (below : ℕ) (reached : Journal) : Type 0 where
  pub core : Plain
  pub part : (core ≡ plain) ⊎ ((core ≡ forgetting plain below) ⊎ (core ≡ opened_plain plain below))
  pub base : core.base ≡ plain.base
  pub stored : IsStored core reached

pub follows : (plain : Plain) (journal : Journal) (below : ℕ) (reached : Journal) → IsStored plain journal → IsPartOf journal below reached → Follows plain below reached
follows plain journal below reached stored (inl same) = record { core = plain; part = inl refl; base = refl; stored = subst (IsStored plain) (sym same) stored }
follows plain journal below reached stored (inr (inl same)) =
    record { core = forgetting plain below; part = inr (inl refl); base = refl; stored = subst (IsStored (forgetting plain below)) (sym same) (stored_forgetting plain journal below stored) }
follows plain journal below reached stored (inr (inr same)) =
    record { core = opened_plain plain below; part = inr (inr refl); base = refl; stored = subst (IsStored (opened_plain plain below)) (sym same) (stored_again plain journal below stored) }

-- the source of a new opening goes on behind the reservations of the journal that the last one had
pub source_on : (opening : Opening) (journal : Journal) (below : ℕ) → IsSourceOf opening journal → opening_after opening (opening.incarnation + 1) ≡ source_of (opened_journal journal below)
source_on opening journal below source =
    let sequences : map reopened opening.sequences ≡ (source_of journal).sequences =
    goes_on_behind opening.sequences ∙ ap (λ (all : List Sequence). map sequence_at all) source.sequences ∙ in_two_steps journal journal.base.sequences in
    ap (λ (n : ℕ). record { incarnation = n + 1; identifiers = 0; sequences = map reopened opening.sequences }) source.incarnation
    ∙ ap (λ (all : List SeqState). record { incarnation = journal.incarnation + 1; identifiers = 0; sequences = all }) sequences

source_again : (plain : Plain) (journal : Journal) (below : ℕ) → IsStored plain journal → (opened_plain plain below).opening ≡ source_of (opened_journal journal below)
source_again plain journal below stored = source_on plain.opening journal below stored.source

-- the journal that was opened
pub opened_is : (journal : Journal) (below : ℕ) (grants : Grants) (old new : DiskState) (core : Core) → journal_of old.now.seen ≡ Ok journal → (opened : HasOpened below grants old core new) → opened.fits.journal ≡ opened_journal journal below
opened_is journal below grants old new core reads opened =
    let e : ◌≡◌ {A = Result Journal ℕ} (Ok opened.fits.journal) (Ok (opened_journal journal below)) = sym opened.opened ∙ ap (with_opening below) reads in cc

pub opened_reads : (journal : Journal) (below : ℕ) (grants : Grants) (old new : DiskState) (core : Core) → journal_of old.now.seen ≡ Ok journal → HasOpened below grants old core new → journal_of new.now.seen ≡ Ok (opened_journal journal below)
opened_reads journal below grants old new core reads opened = opened.fits.reads ∙ ap (λ (j : Journal). Ok j) (opened_is journal below grants old new core reads opened)

-- The plain server that opens too stands beside what was opened.
pub plain_again : (plain : Plain) (journal : Journal) (below : ℕ) (grants : Grants) (old new : DiskState) (core : Core) → IsStored plain journal → plain.base.grants ≡ grants → journal_of old.now.seen ≡ Ok journal
    → HasOpened below grants old core new → IsPlain (opened_plain plain below) core new
plain_again plain journal below grants old new core stored granted reads opened = record {
  stored = subst (λ (r : Result Journal ℕ). IfOk r (IsStored (opened_plain plain below))) (sym (opened_reads journal below grants old new core reads opened)) (stored_again plain journal below stored);
  opening = source_again plain journal below stored ∙ ap source_of (sym (opened_is journal below grants old new core reads opened)) ∙ sym opened.source;
  grants = granted ∙ sym opened.grants_are;
}
