use Rattle.std.proofs.Common.{rules}
use Rattle.document_forms.proofs.event.schedule_ahead.Goals as goal

pub returns-clause-shorter : goal.returns-clause-shorter
returns-clause-shorter c = search rules
