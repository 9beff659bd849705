-- That the finish of a run ends.
pub mod ClientRounds
pub mod CopiesLeft
pub mod Counts
pub mod FinishEnds
pub mod FinishFalls
pub mod FinishGoes
pub mod FinishLinks
pub mod FinishMoves
pub mod FinishSteps
pub mod FinishTakes
pub mod FinishUp
pub mod FirstBehind
pub mod LinksWork
pub mod RoundSums
pub mod TalkRounds
