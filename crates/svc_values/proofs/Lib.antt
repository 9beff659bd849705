mod Endings
mod KeyLookups
mod Local
pub mod Offered
mod RowOrder
mod SettingsOrder
mod Writes
