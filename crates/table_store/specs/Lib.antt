pub mod Given
pub mod Blocks
pub mod Indexes
pub mod Rows
pub mod Selection
pub mod Shelves
pub mod Stored
