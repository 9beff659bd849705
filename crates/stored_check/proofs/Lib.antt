mod Marks
mod ToldIn
mod BlocksOn
mod StoredLines
mod LastOpening
