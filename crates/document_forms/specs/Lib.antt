pub mod Numbers
pub mod TablesAhead
pub mod RowsAhead
pub mod EventsAhead
pub mod RequestsAhead
pub mod Keeping
pub mod meaning
