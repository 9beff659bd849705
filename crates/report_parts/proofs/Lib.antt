mod Submitted
mod Showings
mod Reaching
mod Searches
mod KeptPlain
mod ClientParts
mod Putting
mod Lefts
pub mod Offered
