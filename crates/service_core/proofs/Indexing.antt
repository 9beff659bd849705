-- The columns by which the tables of a service are indexed stay columns of its tables.
use Rattle.std.proofs.Common.{◌≡◌, ℕ, List, refl, sym, subst}
use Rattle.std.specs.Prelude.{Option, Some, None, Ok, IsTrue}
use Rattle.std.specs.List.{list_all}
use Rattle.table_store.specs.declared.shelves.IndexOf.{IndexOf}
use Rattle.table_store.specs.Given.{is_index_of}
use Rattle.ltxid_book.specs.declared.verdict.Verdict.{Verdict}
use Rattle.ltxid_book.specs.declared.verdict.Verdict.TheVariants as verdict
use Rattle.commit_log.specs.declared.base.Base.{Base}
use Rattle.commit_log.specs.declared.journal.Journal.{Journal}
use Rattle.commit_log.specs.meaning.Bases.{schemas_of}
use Rattle.commit_log.specs.meaning.Journals.{journal_of}
use Rattle.server_model.specs.Outcomes.{down_of}
use Rattle.server_model.specs.ServiceCalls.{IsAnswer}
use Rattle.server_session.specs.declared.shared.Core.{Core}
use Rattle.service_calls.specs.Kept.{HaveOneBase}
use Rattle.service_core.specs.Indexed.{FitBase}
use Rattle.service_core.specs.Seeing.{bytes_in}
use Rattle.service_core.specs.Sound.{IsSoundWithin}
use Rattle.service_core.specs.Within.{Within}

-- a service's bytes are those of a journal
journal_now : (old : Within) → IsSoundWithin old → (journal : Journal) × (journal_of (bytes_in old) ≡ Ok journal)
journal_now old sound = by old.core sound
  where
    by : (core : Option Core) → IsSoundWithin (record old { core = core }) → (journal : Journal) × (journal_of (bytes_in old) ≡ Ok journal)
    by None down = let read = down.leaves old.disk.now.seen down.reads_now in (read.journal, read.reads)
    by (Some core) up = (up.fits.journal, up.fits.reads)

-- the base stays the same, and with it the tables that it declares
pub still_fit : (old : Within) (indexes : List IndexOf) (new : List ℕ) → IsSoundWithin old → HaveOneBase (bytes_in old) new → FitBase indexes (bytes_in old) → FitBase indexes new
still_fit old indexes new sound one fit journal reads =
    let now = journal_now old sound in
    subst (λ (base : Base). IsTrue (list_all (is_index_of (schemas_of base)) indexes)) (sym (one now.0 journal now.1 reads)) (fit now.0 now.1)

-- each verdict can be told
pub told_as : (judged : Verdict) → (told : Verdict) × (IsAnswer told × (down_of told ≡ down_of judged))
told_as (verdict.Committed completed) = (verdict.Committed completed, (tt, refl))
told_as verdict.BlockIt = (verdict.AlreadyBlocked, (tt, refl))
told_as verdict.AlreadyBlocked = (verdict.AlreadyBlocked, (tt, refl))
told_as (verdict.ServerAhead next) = (verdict.ServerAhead next, (tt, refl))
told_as (verdict.ClientAhead next) = (verdict.ClientAhead next, (tt, refl))
told_as (verdict.Forgotten horizon) = (verdict.Forgotten horizon, (tt, refl))
