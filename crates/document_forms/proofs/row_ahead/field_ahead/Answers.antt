use Rattle.std.proofs.Common.{rules}
use Rattle.document_forms.proofs.row_ahead.field_ahead.Goals as goal

pub returns-clause-begins : goal.returns-clause-begins
returns-clause-begins c = search rules
