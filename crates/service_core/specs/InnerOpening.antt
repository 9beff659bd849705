-- The parts of an opening.
use Rattle.std.specs.Prelude.{◌≡◌, ◌-◌, ◌^◌, All, Bool, pos, int_lt, IsTrue}
use Rattle.std.specs.List.{list_all}
use Rattle.svc_values.specs.meaning.Fitting.{writes_fit}
use Rattle.ltxid_book.specs.Sessions.{sessions_in}
use Rattle.mutable_values.specs.declared.grants.Grants.{Grants}
use Rattle.mutable_values.specs.declared.source.SeqState.{SeqState}
use Rattle.commit_log.specs.declared.base.BaseSequence.{BaseSequence}
use Rattle.commit_log.specs.declared.journal.Journal.{Journal}
use Rattle.commit_log.specs.declared.log.Log.{Log}
use Rattle.commit_log.specs.meaning.Bases.{schemas_of}
use Rattle.commit_log.specs.Bases.{IsBase}
use Rattle.commit_log.specs.meaning.Rules.{end_of, sessions_of}
use Rattle.server_session.specs.declared.shared.Core.{Core}
use Rattle.server_model.specs.meaning.Core.{sequence_at}
use Rattle.server_session.specs.Fits.{tables_of, sequence_of}
use Rattle.service_core.specs.Opening.{source_of}

-- its values end far enough below the greatest number
abbrev pub ends_low : Journal → BaseSequence → Bool
ends_low journal sequence = int_lt (end_of journal.reserved sequence) (pos (2 ^ 63 - 1))

-- a sequence of the journal, as it begins in an opening
abbrev pub state_of : Journal → BaseSequence → SeqState
state_of journal sequence = sequence_at (sequence_of journal sequence)

-- What a service asks of a journal to go on from it.
pub record CanGoOn (journal : Journal) : Type 0 where
  pub base : IsBase journal.base
  pub fitting : All (λ entry. IsTrue (writes_fit (schemas_of journal.base) entry.writes))
      journal.entries
  pub within : IsTrue (list_all (ends_low journal) journal.base.sequences)

-- what sessions share with this log and journal
pub record IsCoreOf (log : Log) (journal : Journal) (grants : Grants) (core : Core) : Type 0 where
  pub tables : core.tables ≡ tables_of journal
  pub book : sessions_in core.book ≡ sessions_of journal
  pub source : core.source ≡ source_of journal
  pub log_is : core.log ≡ log
  pub grants_are : core.grants ≡ grants
