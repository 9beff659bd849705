-- What the program's promise means: all that its definition uses of this crate.
pub mod Base
pub mod Core
pub mod Fresh
pub mod Items
pub mod Legal
pub mod NewValues
pub mod Outcomes
pub mod ServiceCalls
pub mod SetAside
pub mod Walk
