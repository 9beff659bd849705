pub mod Offered
pub mod Grammar
pub mod Gates
pub mod Appending
pub mod Whole
pub mod Walking
pub mod Sizes
pub mod Standing
