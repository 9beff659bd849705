pub mod Anything
