use Rattle.std.proofs.Common.{sym, subst}
use Rattle.std.specs.Prelude.{All, IsTrue}
use Rattle.svc_values.specs.meaning.Fitting.{writes_fit}
use Rattle.commit_log.specs.declared.journal.Journal.{Journal}
use Rattle.commit_log.specs.meaning.Bases.{schemas_of}
use Rattle.commit_log.specs.Bases.{IsBase}
use Rattle.before_run.proofs.JournalKept.{before_keeps}
use Rattle.before_run.proofs.journal.journal_before.Goals as goal

pub returns-clause-base : goal.returns-clause-base
returns-clause-base c = subst (λ (journal : Journal). IsBase journal.base) (sym c.in_ok-journal.ensures) (before_keeps c.keeps_journal.ensures.keeps c.args.document.now c.requires).0

pub returns-clause-fitting : goal.returns-clause-fitting
returns-clause-fitting c =
    subst (λ (journal : Journal). All (λ entry. IsTrue (writes_fit (schemas_of journal.base) entry.writes)) journal.entries) (sym c.in_ok-journal.ensures) (before_keeps c.keeps_journal.ensures.keeps c.args.document.now c.requires).1
