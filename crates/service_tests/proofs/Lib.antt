pub mod Knowing
pub mod Living
pub mod Made
pub mod Ready
