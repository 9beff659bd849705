mod Calming
mod Causes
mod Fits
mod Going
mod Outcomes
mod Repeating
mod Replies
mod RowWords
mod Rows
mod LaterRows
mod Sending
mod Showing
mod Left
pub mod Offered
mod Slots
mod Stepped
pub mod Steps
pub mod Tables
mod Trying
