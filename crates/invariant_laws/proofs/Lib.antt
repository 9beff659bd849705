pub mod Offered
pub mod entries
pub mod history
pub mod losses
pub mod rows
pub mod sendings
pub mod talks
