pub mod Noting
pub mod Onward
pub mod AtStart
pub mod Unfinished
pub mod Ending
