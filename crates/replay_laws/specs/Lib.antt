pub mod OpenedOnce
