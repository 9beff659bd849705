pub mod Asking
pub mod Origins
pub mod Trials
pub mod Ways
