-- What a run tells grows event by event.
use Rattle.shown_laws.specs.Growth.{RunsAreCounted, RunsGrow, FinishesAreCounted, FinishesGrow}
use Rattle.shown_laws.proofs.events.Clock.{grows_on, reached_come, finishing_come}

pub runs_counted : RunsAreCounted
runs_counted document events notes items seen t reached = (reached_come document events notes items seen t reached).counted

pub runs_grow : RunsGrow
runs_grow document events notes items more before after old new event note reached one = grows_on before after old new event note notes items more one (reached_come document events notes items before old reached)

pub finishes_counted : FinishesAreCounted
finishes_counted document place notes items seen t finishing = (finishing_come document place notes items seen t finishing).counted

pub finishes_grow : FinishesGrow
finishes_grow document place notes items more before after old new event note finishing one = grows_on before after old new event note notes items more one (finishing_come document place notes items before old finishing)
