-- What is said of an answer of a service. Of one for want of memory nothing is: the service may
-- only be dropped then.
use Rattle.std.specs.Prelude.{List, map, Option, Result, Ok, Err}
use Rattle.svc_values.specs.declared.answer.Answer.{Answer}
use Rattle.svc_values.specs.declared.draw.Draw.{Draw}
use Rattle.outage_schedule.specs.declared.note.NoteRun.{NoteRun}
use Rattle.outage_schedule.specs.declared.note.OutsideNote.{OutsideNote}
use Rattle.svc_values.specs.declared.frame.Down.{Down}
use Rattle.server_model.specs.declared.fault.ServeFault.{ServeFault}
use Rattle.server_model.specs.declared.fault.ServeFault.TheVariants as fault
use Rattle.server_model.specs.meaning.Outcomes.{Telling, Stopped, telling_of}

-- what is told of a frame, with its answer or at a stop
abbrev pub IfTold : Result (Option Down) ServeFault → (Telling → Type 0) → Type 0
IfTold (Ok answer) Holds = Holds (telling_of answer)
IfTold (Err fault.Stopped) Holds = Holds Stopped
IfTold (Err fault.NoMemory) Holds = Unit {0}

-- one thing of an answer, another of a stop
abbrev pub Ends : {A : Type 0} → Result A ServeFault → (A → Type 0) → Type 0 → Type 0
Ends (Ok answer) Done Halted = Done answer
Ends (Err fault.Stopped) Done Halted = Halted
Ends (Err fault.NoMemory) Done Halted = Unit {0}

-- of an answer and of a stop alike
abbrev pub NotMemory : {A : Type 0} → Result A ServeFault → Type 0 → Type 0
NotMemory result Holds = Ends result (λ answer. Holds) Holds

-- the answers and the draws of one call
abbrev pub run_of : NoteRun → List Answer × List Draw
run_of run = (run.answers, run.draws)

abbrev pub runs_of : OutsideNote → List (List Answer × List Draw)
runs_of ran = map run_of ran.runs
