use Rattle.std.proofs.Common.{◌≤◌, ◌^◌, sym, subst}
use Rattle.commit_log.specs.declared.journal.Journal.{Journal}
use Rattle.stored_check.proofs.LastOpening.{last_within}
use Rattle.stored_check.proofs.opened.last_incarnation.Goals as goal

pub returns-clause-within : goal.returns-clause-within
returns-clause-within c =
    subst (λ (journal : Journal). journal.incarnation ≤ 2 ^ 63) (sym c.requires) (last_within c.keeps_journal.ensures.keeps c.args.document.now)
