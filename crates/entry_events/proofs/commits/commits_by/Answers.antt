use Rattle.std.proofs.Common.{◌∙◌}
use Rattle.svc_values.specs.meaning.Identifiers.{same_session}
use Rattle.run_clauses.specs.meaning.EntryEvents.{Commit}
use Rattle.entry_events.specs.Commits.{commit_as}
use Rattle.entry_events.proofs.Counted.{counted}
use Rattle.entry_events.proofs.commits.commits_by.Goals as goal

pub returns : goal.returns
returns c = c.count_of.ensures ∙ counted (λ (commit : Commit). same_session commit.session c.args.session.now) commit_as c.args.before.now
