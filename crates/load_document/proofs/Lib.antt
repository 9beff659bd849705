mod Counting
mod Kept
mod Steps
mod Written
