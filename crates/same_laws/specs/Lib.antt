pub mod RunsSame
pub mod RunsScripted
