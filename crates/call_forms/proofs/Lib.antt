pub mod CallItems
pub mod ListsAhead
pub mod ItemsAhead
pub mod NamesAhead
pub mod ReadCalls
pub mod ValuesAhead
pub mod Offered
