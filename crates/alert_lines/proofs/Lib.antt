mod Tests
mod Pushed
mod Flagged
mod Going
mod Steps
