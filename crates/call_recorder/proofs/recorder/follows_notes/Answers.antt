use Rattle.call_recorder.proofs.History.{holds_noted_calls}
use Rattle.call_recorder.proofs.recorder.follows_notes.Goals as goal

pub returns : goal.returns
returns c = holds_noted_calls
