-- A source of which nothing is said.
use Rattle.stmt_meaning.specs.Drawing.{Drew}

abbrev pub Anything : {S : Type 0} → S → Drew → S → Type 0
Anything old come new = Unit {0}
