use Rattle.std.proofs.Common.{rules}
use Rattle.document_forms.proofs.event.fits.Goals as goal

pub returns-in-Go : goal.returns-in-Go
returns-in-Go c = search rules
