pub mod ItemsAhead
pub mod ValuesAhead
pub mod meaning
