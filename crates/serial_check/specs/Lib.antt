pub mod Given
pub mod Laws
pub mod Pointing
pub mod Printed
pub mod Replaying
pub mod meaning
