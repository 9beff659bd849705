pub mod Records
pub mod Store
pub mod Redo
pub mod Walk
pub mod Gate
pub mod meaning
