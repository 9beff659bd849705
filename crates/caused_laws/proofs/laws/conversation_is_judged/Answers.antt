use Rattle.caused_laws.proofs.Judging.{judges_conversation}
use Rattle.caused_laws.proofs.laws.conversation_is_judged.Goals as goal

pub returns : goal.returns
returns c = judges_conversation
