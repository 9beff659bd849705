pub mod InnerWords
pub mod LoadWords
pub mod Words
