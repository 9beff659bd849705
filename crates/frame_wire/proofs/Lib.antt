pub mod Payloads
pub mod Streams
