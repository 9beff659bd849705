use Rattle.std.proofs.Common.{rules}
use Rattle.document_forms.specs.meaning.Scripts.{client_of}
use Rattle.document_forms.proofs.script.ClientReaderReaderClient.read.Goals as goal

pub returns-in_err-members : goal.returns-in_err-members
unfolding client_of
returns-in_err-members c = search rules
