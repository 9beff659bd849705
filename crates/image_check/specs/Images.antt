-- Parts of the test of an image.
use Rattle.std.specs.Prelude.{◌≡◌, ℕ, ◌&&◌, Bool, All, IsTrue, ◌++◌, Option, Some, None, Result, Ok}
use Rattle.std.specs.Str.{bytes_eq}
use Rattle.std.specs.Cmp.Lexicographic.{pointwise}
use Rattle.svc_values.specs.meaning.Fitting.{writes_fit}
use Rattle.svc_values.specs.meaning.Identifiers.{same_ltxid}
use Rattle.commit_log.specs.declared.journal.Journal.{Journal}
use Rattle.commit_log.specs.meaning.Bases.{schemas_of}
use Rattle.commit_log.specs.Bases.{IsBase}
use Rattle.outage_schedule.specs.declared.report.Report.{Report}
use Rattle.run_clauses.specs.meaning.Comparing.{same_base, same_entry}

-- this was read, or no journal
abbrev pub IsRead : Result Journal ℕ → Option Journal → Type 0
IsRead read (Some journal) = read ≡ Ok journal
IsRead read None = (journal : Journal) → read ≡ Ok journal → ⊥

-- its tables can be made
pub record IsUsable (journal : Journal) : Type 0 where
  pub base : IsBase journal.base
  pub fitting : All (λ entry. IsTrue (writes_fit (schemas_of journal.base) entry.writes))
      journal.entries

-- it has the base, the entries, the blocks and the alert lines
abbrev pub is_grown : Journal → Report → Journal → Bool
is_grown before report journal =
    same_base journal.base before.base
    && (pointwise same_entry journal.entries (before.entries ++ report.entries)
    && (pointwise same_ltxid journal.blocked (before.blocked ++ report.blocked)
    && pointwise bytes_eq journal.alerts (before.alerts ++ report.alerts)))
