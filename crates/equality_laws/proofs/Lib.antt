mod Answers
mod Calls
