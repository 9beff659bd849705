use Rattle.std.proofs.Common.{refl}
use Rattle.document_forms.proofs.script_ahead.RequestAhead.new.Goals as goal

pub returns : goal.returns
returns c = record { settings = refl; calls = refl; again = refl }
