pub mod Offered
pub mod events
pub mod links
pub mod steps
pub mod shown
pub mod owners
pub mod heard
pub mod judged
