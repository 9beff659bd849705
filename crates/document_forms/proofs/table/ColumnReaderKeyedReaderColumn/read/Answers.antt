use Rattle.std.proofs.Common.{rules}
use Rattle.document_forms.specs.meaning.Tables.{column_of}
use Rattle.document_forms.proofs.table.ColumnReaderKeyedReaderColumn.read.Goals as goal

pub returns-in_err-parts : goal.returns-in_err-parts
unfolding column_of
returns-in_err-parts c = search rules
