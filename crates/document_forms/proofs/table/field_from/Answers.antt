use Rattle.std.proofs.Common.{rules}
use Rattle.document_forms.proofs.table.field_from.Goals as goal

pub returns-in_err-field : goal.returns-in_err-field
returns-in_err-field c = search rules
