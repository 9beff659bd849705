-- What is told of identifiers is told by the table on what a store says.
use Rattle.std.specs.Prelude.{◌≡◌, List, [], ◌∷◌}
use Rattle.ltxid_book.specs.meaning.Outcomes.{verdict_of}
use Rattle.server_model.specs.meaning.Outcomes.{Says}
use Rattle.server_model.specs.Outcomes.{down_of}
use Rattle.server_model.specs.Runs.{Happened, Served as ServedFrame, Asked as WasAsked}
use Rattle.server_model.specs.Seen.{Store, book_in}
use Rattle.server_model.specs.ServiceCalls.{TellsByTable}

-- the outcome of a frame, and the answer to a question
abbrev pub IsByStore : Store → Happened → Type 0
IsByStore store (ServedFrame session now frame said) = TellsByTable store frame said
IsByStore store (WasAsked x (Says frame)) = frame ≡ down_of (verdict_of (book_in store) x)
IsByStore store (WasAsked x said) = Unit {0}

abbrev pub AreByStore : Store → List Happened → Type 0
AreByStore store [] = Unit {0}
AreByStore store (one ∷ happened) = IsByStore store one × AreByStore store happened
