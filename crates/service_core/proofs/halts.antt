-- Calls that a stop or a fault of the disk ended, or that count as stopped before their answers.
pub mod AskFronts
pub mod AskHalts
pub mod CallsHalted
pub mod Fronting
pub mod Halted
pub mod LostFrames
pub mod LostFronts
pub mod OpeningHalts
pub mod OutsideHalts
pub mod StoppedOne
pub mod Stopping
pub mod Unanswering
