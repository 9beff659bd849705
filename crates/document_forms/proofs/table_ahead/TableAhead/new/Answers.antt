use Rattle.std.proofs.Common.{refl}
use Rattle.document_forms.proofs.table_ahead.TableAhead.new.Goals as goal

pub returns : goal.returns
returns c = λ taken. record { name = refl; columns = refl; rows = refl; index = refl }
