use Rattle.std.proofs.Common.{rules}
use Rattle.document_forms.specs.meaning.Tables.{sequence_of}
use Rattle.document_forms.proofs.sequence.SequenceReaderKeyedReaderDocSequence.read.Goals as goal

pub returns-in_err-members : goal.returns-in_err-members
unfolding sequence_of
returns-in_err-members c = search rules
